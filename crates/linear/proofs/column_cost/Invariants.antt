use Rattle.std.proofs.Common.{◌≤◌, take}
use Rattle.model.specs.Numbers.{+0}
use Rattle.model.specs.Lists.{joined}
use Rattle.linear.specs.Charges.{Charged}
use Rattle.linear.specs.Parts.{charges_in}
use Rattle.linear.proofs.column_cost.Given as goal

abbrev pub invariant-loop-o : goal.invariant-loop-o
invariant-loop-o l = (l.o-index ≤ l.o-index-end) × Charged l.x +0 l.c.at (joined (charges_in l.costs.input) (take l.o-index l.costs.objectives.now))
