use Rattle.std.proofs.Common.{◌≤◌, ◌+◌, ◌-◌}
use Rattle.linear.specs.Charges.{Sums}
use Rattle.linear.specs.Parts.{charge_at}
use Rattle.linear.proofs.parts.LinearEnd.sum.Given as goal

abbrev pub invariant-loop-k : goal.invariant-loop-k
invariant-loop-k l = (1 ≤ l.k) × (l.k ≤ l.k-end + 1) × Sums l.y l.initial.y l.self.moving (charge_at l.self) 1 (l.k - 1)
