use Rattle.std.proofs.Common.{◌+◌}
use Rattle.buffers.specs.Bounds.{thermal_cone_room}
use Rattle.buffers.specs.Buffers.{ClosedList}
use Rattle.thermal_energy.specs.Cones.{moving_cone}
use Rattle.thermal_energy.proofs.moving_cones.Given as goal

abbrev pub invariant-loop-j : goal.invariant-loop-j
invariant-loop-j l = ClosedList l.initial.u l.initial.out l.u l.out (λ k. moving_cone l.torque (l.t.columns.at + l.p + k) k (l.first + k)) 0 l.j thermal_cone_room
