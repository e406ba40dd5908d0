use Rattle.std.proofs.Common.{◌+◌, ◌*◌}
use Rattle.model.specs.Lists.{over}
use Rattle.buffers.specs.Bounds.{torque_step_room}
use Rattle.buffers.specs.Buffers.{Overs}
use Rattle.tv_torque.specs.Rows.{steps_of}
use Rattle.tv_torque.proofs.steps.Given as goal

abbrev pub invariant-loop-j : goal.invariant-loop-j
invariant-loop-j l = Overs l.initial.u l.initial.out l.u l.out (λ k. over (steps_of l.torque (l.t.columns.at + l.torque.d * (l.p + k)) (l.torque.path.ends.n0 + k)) 0 l.torque.d) 0 l.j torque_step_room
