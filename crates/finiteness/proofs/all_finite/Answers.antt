use Rattle.std.proofs.Common.{rules, arith}
use Rattle.std.proofs.lemmas.List.{take_all}
use Rattle.finiteness.proofs.Laws.{row_more, row_finite}
use Rattle.finiteness.proofs.all_finite.Goals as goal

-- every number was looked at
pub returns : goal.returns
returns g c = rw (← row_finite c.args.xs, ← take_all c.loop-x.x-index c.args.xs (search rules)) c.loop-x.invariant.1

pub loop-x-preserved : goal.loop-x-preserved
loop-x-preserved g c = (omega arith, row_more c.args.xs c.loop-x.x-index (search rules) c.loop-x.invariant.1 c.is_finite.ensures c.both-ok.ensures)
