use Rattle.std.proofs.Common.{rules}
use Rattle.std.proofs.lemmas.List.{take_more}
use Rattle.linear.specs.Parts.{charges_in}
use Rattle.linear.proofs.Objectives.{charged_next}
use Rattle.linear.proofs.column_cost.Goals as goal

pub loop-o-preserved : goal.loop-o-preserved
loop-o-preserved c =
    let costs = c.args.costs.now in
    let os = costs.objectives.now in
    (search rules, charged_next (charges_in costs.input) os c.loop-o.o-index (take_more os c.loop-o.o-index _ (search rules)) c.loop-o.invariant.1 c.charge-x.ensures)
