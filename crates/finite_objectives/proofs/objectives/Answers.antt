use Rattle.std.proofs.Common.{rules}
use Rattle.std.proofs.lemmas.List.{take_more}
use Rattle.objectives.specs.Lends.{lends_of}
use Rattle.finite_objectives.proofs.Costs.{tested_none, tested_more, tested_all}
use Rattle.finite_objectives.proofs.objectives.Goals as goal

pub loop-o-init : goal.loop-o-init
loop-o-init c = (search rules, tested_none (lends_of c.args.list.now.input))

pub loop-o-preserved : goal.loop-o-preserved
loop-o-preserved c =
    let os = c.args.list.now.objectives.now in
    (search rules, tested_more (lends_of c.args.list.now.input) _ (take_more os c.loop-o.o-index _ (search rules)) c.loop-o.invariant.1 c.objective.ensures c.both-ok.ensures)

pub returns : goal.returns
returns c = tested_all (lends_of c.args.list.now.input) c.loop-o.invariant.1 (search rules)
