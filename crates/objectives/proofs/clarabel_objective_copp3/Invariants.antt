use Rattle.std.proofs.Common.{◌≤◌}
use Rattle.buffers.specs.Bounds.{objective_room}
use Rattle.objectives.specs.Lends.{lends_of}
use Rattle.objectives.proofs.Owned.{OwnsAll}
use Rattle.objectives.proofs.clarabel_objective_copp3.Given as goal

abbrev pub invariant-loop-o : goal.invariant-loop-o
invariant-loop-o l = (l.o-index ≤ l.o-index-end) × OwnsAll l.initial.u l.initial.out l.u l.out (lends_of l.list.input) l.list.objectives.now l.o-index objective_room
