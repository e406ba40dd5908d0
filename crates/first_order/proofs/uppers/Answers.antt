use native.Mathlib.Omega.{arith}
use Rattle.model.specs.Problem.{m, stop}
use Rattle.model.specs.Standard.{upper_row}
use Rattle.buffers.proofs.Laws.{overs_all}
use Rattle.buffers.proofs.Turns.{stations_none, stations_more}
use Rattle.first_order.proofs.uppers.Goals as goal

pub loop-k-init : goal.loop-k-init
unfolding stop
loop-k-init c = (omega arith, omega (arith, c.args.limits.path.sized), stations_none)

pub loop-k-preserved : goal.loop-k-preserved
unfolding upper_row
loop-k-preserved c = (omega arith, omega (arith, c.loop-k-test, c.stop-k-end.ensures), stations_more c.loop-k.invariant.0 c.loop-k.invariant.2 c.upper-u.ensures)

pub returns : goal.returns
unfolding m stop
returns c = overs_all c.loop-k.invariant.2 (omega (arith, c.loop-k.invariant)) (omega (arith, c.loop-k-test, c.stop-k-end.ensures)) (omega arith)
