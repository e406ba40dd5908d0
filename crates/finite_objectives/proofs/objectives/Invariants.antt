use Rattle.std.proofs.Common.{◌≤◌}
use Rattle.objectives.specs.Lends.{lends_of}
use Rattle.finite_objectives.proofs.Costs.{Tested}
use Rattle.finite_objectives.proofs.objectives.Given as goal

abbrev pub invariant-loop-o : goal.invariant-loop-o
invariant-loop-o l = (l.o-index ≤ l.o-index-end) × Tested l.ok (lends_of l.list.input) l.list.objectives.now l.o-index
