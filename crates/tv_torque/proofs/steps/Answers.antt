use Rattle.std.proofs.Common.{arith}
use Rattle.model.specs.Problem.{ends, m}
use Rattle.buffers.proofs.Laws.{overs_none, overs_next, overs_all}
use Rattle.tv_torque.proofs.steps.Goals as goal

pub loop-j-init : goal.loop-j-init
loop-j-init c = overs_none

pub loop-j-preserved : goal.loop-j-preserved
loop-j-preserved c = overs_next c.loop-j.invariant c.step_joints-u.ensures

pub returns : goal.returns
unfolding ends m
returns c = rw (← c.positive_ends-p.ensures) (overs_all c.loop-j.invariant (omega arith) (omega arith) (omega arith))
