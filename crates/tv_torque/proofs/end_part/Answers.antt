use Rattle.std.proofs.Common.{arith}
use borrow.Author.Tests.{lt-ltb, le-ltb}
use Rattle.buffers.proofs.Laws.{overs_none, overs_next, overs_all, wrote_skip}
use Rattle.tv_torque.proofs.end_part.Goals as goal

pub returns-then-end-eq0 : goal.returns-then-end-eq0
returns-then-end-eq0 c = rw (le-ltb 0 c.args.end.count (omega (arith, c.if-end-eq0.true))) wrote_skip

pub loop-i-init : goal.loop-i-init
loop-i-init c = overs_none

pub loop-i-preserved : goal.loop-i-preserved
loop-i-preserved c = overs_next c.loop-i.invariant c.end_rows-u.ensures

pub returns : goal.returns
returns c = rw (lt-ltb 0 c.args.end.count (omega (arith, c.if-end-eq0.false))) (overs_all c.loop-i.invariant (omega arith) (omega arith) (omega arith))
