use Rattle.std.proofs.Common.{◌≤◌}
use Rattle.model.specs.Standard.{root_cone}
use Rattle.buffers.specs.Buffers.{ClosedList}
use Rattle.buffers.specs.Paths.{path_of}
use Rattle.sqrt_a.proofs.root_cones.Given as goal

abbrev pub invariant-loop-i : goal.invariant-loop-i
invariant-loop-i l = (l.i ≤ l.count) × ClosedList l.initial.u l.initial.out l.u l.out (root_cone (path_of l.path)) 0 l.i 3
