-- The number of entries is at most the entry bound.
use Prim.Native.Nat.{ℕ, zero, suc, ◌+◌, ◌-◌, ◌*◌, ◌≤◌}
use native.Mathlib.Nat.{mul-add, mul-one, mul-le-mul_left, mul-le-mul_right}
use native.Mathlib.Omega.{arith}
use mathlib.Core.Path.{◌≡◌, refl, ap}
use mathlib.Core.Bool.{Bool, true, false, cond}
use mathlib.Core.List.{List, [], ◌∷◌}
use lib.ListN.{length, get_or}
use lib.Ieee.{Float}
use Rattle.model.specs.Numbers.{at, finite}
use Rattle.model.specs.Lists.{sum_over, total}
use Rattle.model.specs.Problem.{Problem, objectives, n, m, L, ends, flag, has_root}
use Rattle.model.specs.Assembled.{entries, list_lengths}
use Rattle.model.specs.Counts.{four_counts, upper, uppers, acc_inside, jerk_inside, standard_counts, root_counts, objective_counts, objectives_counts, counts, objective_bound, objectives_bound, entry_bound}
use Rattle.model.specs.declared.Objective.{Objective}
use Rattle.model.specs.declared.Objective.TheVariants.{Time, ThermalEnergy, TotalVariationTorque, Linear}
use Rattle.model.specs.declared.FourCounts.{FourCounts}
use Rattle.model.proofs.Sizes.{Sizes}
use Rattle.model.proofs.Counted.{counted}

-- a part of a table sums up to no more than the table
pub shift : (f : ℕ → ℕ) (k c : ℕ) → sum_over f (suc k) c ≡ sum_over (λ i. f (suc i)) k c
shift f k zero = refl
shift f k (suc c) = ap (λ (x : ℕ). f (suc k) + x) (shift f (suc k) c)

none : (k c : ℕ) → sum_over (λ i. 0) k c ≡ 0
none k zero = refl
none k (suc c) = let h = none (suc k) c in omega arith

pub part_total : (l : List ℕ) (k c : ℕ) → sum_over (λ i. get_or l i 0) k c ≤ total l
part_total [] k c = omega (arith, none k c)
part_total (x ∷ xs) zero zero = omega arith
part_total (x ∷ xs) zero (suc c) = let h = part_total xs 0 c in omega (arith, shift (λ i. get_or (x ∷ xs) i 0) 0 c)
part_total (x ∷ xs) (suc k) c = let h = part_total xs k c in omega (arith, shift (λ i. get_or (x ∷ xs) i 0) k c)

-- at most one row for each upper bound
pub upper_one : (x : Float) → upper x ≤ 1
upper_one x = go (finite x)
  where
    go : (b : Bool) → cond b 1 0 ≤ 1
    go true = omega arith
    go false = omega arith

uppers_part : (f : ℕ → Float) (k c : ℕ) → sum_over (λ i. upper (f i)) k c ≤ c
uppers_part f k zero = omega arith
uppers_part f k (suc c) = let h = uppers_part f (suc k) c in omega (arith, upper_one (f k))

pub flag_upper : (k : ℕ) (x : Float) → flag k * upper x ≤ flag k
flag_upper k x = let h = mul-le-mul_left (flag k) (upper_one x) in omega (arith, mul-one (flag k))

module _ (p : Problem) (l : Sizes p.path) where
  pub uppers_few : uppers p.path p.limits ≤ ends p.path + (m p.path - 1)
  unfolding uppers ends
  uppers_few =
      omega (arith, flag_upper p.path.N0 p.limits.start.maximum, flag_upper p.path.N1 p.limits.end.maximum, uppers_part (λ i. at p.limits.amax i) (p.path.N0 + 1) (m p.path - 1))

  pub acc_few : acc_inside p.path p.acc.counts ≤ total p.acc.counts
  unfolding acc_inside
  acc_few = part_total p.acc.counts (p.path.N0 + 1) (m p.path - 1)

  pub jerk_few : jerk_inside p.path p.jerk.counts ≤ 2 * total p.jerk.counts
  unfolding jerk_inside
  jerk_few = omega (arith, part_total p.jerk.counts p.path.N0 (m p.path), part_total p.jerk.counts (p.path.N0 + 1) (m p.path))

  standard_few : (standard_counts p).entries ≤ 2 + 11 * n p.path + 2 * total p.acc.counts + 6 * total p.jerk.counts
  unfolding standard_counts
  standard_few = omega (arith, uppers_few, acc_few, jerk_few)

  root_few : (root_counts p).entries ≤ cond (has_root p) (4 * n p.path) 0
  unfolding root_counts
  root_few = go (has_root p)
    where
      go : (b : Bool) → (cond b (four_counts (4 * L p.path) (4 * L p.path) (1 + L p.path) (L p.path)) (four_counts 0 0 0 0)).entries ≤ cond b (4 * n p.path) 0
      go true = omega arith
      go false = omega arith

  pub torque_few : 6 * p.torque.d * ends p.path + 10 * p.torque.d * m p.path ≤ 10 * p.torque.d * n p.path
  torque_few =
      let a : 10 * p.torque.d * (ends p.path + m p.path) ≤ 10 * p.torque.d * n p.path = mul-le-mul_left (10 * p.torque.d) (omega arith) in
      let b : 6 * p.torque.d * ends p.path ≤ 10 * p.torque.d * ends p.path = mul-le-mul_right (ends p.path) (omega arith) in
      omega (arith, mul-add (10 * p.torque.d) (ends p.path) (m p.path))

  objective_few : (o : Objective) → (objective_counts p o).entries ≤ objective_bound p o
  unfolding objective_counts objective_bound
  objective_few (Time w) = omega arith
  objective_few (ThermalEnergy w o len) = mul-le-mul_left (4 + 2 * p.torque.d) l.fewer
  objective_few (TotalVariationTorque w o len) = torque_few
  objective_few (Linear w a al b bl) = omega arith

  objectives_few : (os : List Objective) → (objectives_counts p os).entries ≤ objectives_bound p os
  unfolding objectives_counts objectives_bound
  objectives_few [] = omega arith
  objectives_few (o ∷ os) = let h = objectives_few os in omega (arith, objective_few o)

  counts_few : (counts p).entries ≤ entry_bound p
  unfolding counts entry_bound
  counts_few = omega (arith, standard_few, root_few, objectives_few (objectives p))

  pub entries_few : length (entries p) ≤ entry_bound p
  unfolding list_lengths
  entries_few = omega (arith, ap (λ (t : FourCounts). t.entries) (counted p l), counts_few)
