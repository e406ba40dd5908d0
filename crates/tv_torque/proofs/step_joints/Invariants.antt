use Rattle.buffers.specs.Buffers.{Overs}
use Rattle.tv_torque.specs.Rows.{steps_of}
use Rattle.tv_torque.proofs.step_joints.Given as goal

abbrev pub invariant-loop-i : goal.invariant-loop-i
invariant-loop-i l = Overs l.initial.u l.initial.out l.u l.out (steps_of l.step.torque l.col.at l.step.k) 0 l.i 2
