use Rattle.std.proofs.Common.{◌≤◌}
use Rattle.model.specs.Objectives.{time_cone}
use Rattle.buffers.specs.Buffers.{ClosedList}
use Rattle.buffers.specs.Paths.{path_of}
use Rattle.time.proofs.time_cones.Given as goal

abbrev pub invariant-loop-i : goal.invariant-loop-i
invariant-loop-i l = (l.i ≤ l.count) × ClosedList l.initial.u l.initial.out l.u l.out (time_cone (path_of l.path) l.c.at) 0 l.i 3
