use Rattle.std.proofs.Common.{◌≤◌}
use Rattle.linear.proofs.Gathering.{Gathered}
use Rattle.linear.proofs.linears.Linears.among.Given as goal

abbrev pub invariant-loop-o : goal.invariant-loop-o
invariant-loop-o l = (l.o-index ≤ l.o-index-end) × Gathered l.kept l.objectives l.o-index l.count
