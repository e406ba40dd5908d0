use Rattle.std.proofs.Common.{◌≤◌, take, map, length}
use Rattle.model.specs.Lists.{joined}
use Rattle.linear.specs.Charges.{Charged}
use Rattle.linear.specs.Parts.{charges_in, listed_as}
use Rattle.linear.proofs.linears.charged.Given as goal

abbrev pub invariant-loop-linear : goal.invariant-loop-linear
invariant-loop-linear l =
    (l.linear-index ≤ l.linear-index-end) × Charged l.y l.x l.c.at (joined (charges_in l.input) (take l.linear-index (map (listed_as (length l.input.path.grid.now)) l.linears)))
