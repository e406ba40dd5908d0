use Prim.Native.Nat.{◌-◌, ◌+◌, ◌*◌, ◌≤◌}
use mathlib.Core.Path.{◌≡◌}
use lib.ListN.{get_or}
use Rattle.model.specs.Numbers.{at}
use Rattle.model.specs.Lists.{sum_over}
use Rattle.model.specs.Counts.{upper}
use Rattle.sizing.proofs.sums_inside.Given as goal

abbrev pub invariant-loop-k : goal.invariant-loop-k
invariant-loop-k l = (l.uppers + sum_over (λ i. upper (at l.amax i)) l.k (l.to - l.k) ≡ sum_over (λ i. upper (at l.amax i)) l.from (l.to - l.from)) × (l.acc + sum_over (λ i. get_or l.acc_rows i 0) l.k (l.to - l.k) ≡ sum_over (λ i. get_or l.acc_rows i 0) l.from (l.to - l.from)) × (l.jerk + sum_over
    (λ i. get_or l.jerk_rows i 0) l.k (l.to - l.k) ≡ sum_over (λ i. get_or l.jerk_rows i 0) l.from (l.to - l.from)) × (l.uppers ≤ l.k) × (l.acc ≤ l.k * 4294967296) × (l.jerk ≤ l.k * 4294967296)
