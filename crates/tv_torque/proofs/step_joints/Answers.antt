use Rattle.std.proofs.Common.{arith}
use Rattle.buffers.proofs.Laws.{overs_none, overs_next, overs_all}
use Rattle.tv_torque.proofs.step_joints.Goals as goal

pub loop-i-init : goal.loop-i-init
loop-i-init c = overs_none

pub loop-i-preserved : goal.loop-i-preserved
loop-i-preserved c = overs_next c.loop-i.invariant c.step_rows-u.ensures

pub returns : goal.returns
returns c = overs_all c.loop-i.invariant (omega arith) (omega arith) (omega arith)
