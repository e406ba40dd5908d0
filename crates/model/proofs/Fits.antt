-- How large the four counts of an accepted problem can be at most: with `most_stations` stations, d = 32, 256 acceleration and 256 jerk rows at each, and 16 objectives.
use Prim.Native.Nat.{ℕ, zero, suc, ◌+◌, ◌-◌, ◌*◌, ◌≤◌}
use native.Mathlib.Nat.{mul-le-mul, mul-suc}
use native.Mathlib.Omega.{arith}
use mathlib.Core.Path.{◌≡◌, refl}
use mathlib.Core.Bool.{Bool, true, false, cond, false≢true}
use mathlib.Core.List.{List, [], ◌∷◌}
use lib.ListN.{length, get_or, length-take}
use Rattle.model.specs.Lists.{sum_over, total}
use Rattle.model.specs.Problem.{Problem, objectives, n, m, L, ends, some, uses_root, has_root}
use Rattle.model.specs.Refusals.{most_stations, most_rows, most_joints, most_objectives}
use Rattle.model.specs.Counts.{four_counts, ◌plus◌, acc_inside, jerk_inside, standard_counts, root_counts, objective_counts, objectives_counts, counts}
use Rattle.model.specs.declared.Objective.{Objective}
use Rattle.model.specs.declared.Objective.TheVariants.{Time, ThermalEnergy, TotalVariationTorque, Linear}
use Rattle.model.specs.declared.FourCounts.{FourCounts}
use Rattle.model.proofs.Sizes.{Sizes}
use Rattle.model.proofs.Usable.{Usable}
use Rattle.model.proofs.Bound.{uppers_few, torque_few}

pub record AtMost (b t : FourCounts) : Type 0 where
  pub entries : t.entries ≤ b.entries
  pub rows : t.rows ≤ b.rows
  pub cones : t.cones ≤ b.cones
  pub columns : t.columns ≤ b.columns

-- n, at most
abbrev pub most_intervals : ℕ
most_intervals = most_stations - 1

-- no end at rest, every upper bound finite
abbrev most_standard : FourCounts
most_standard =
    let u = most_intervals - 1 in
    let a = most_rows * (most_intervals - 1) in
    let j = most_rows * most_intervals + most_rows * most_intervals in
    four_counts (3 + 10 * most_intervals + u + 2 * a + 3 * j) (3 + 4 * most_intervals + u + a + j) 2 (2 * most_intervals + 2)

-- of k objectives: TotalVariationTorque has the most entries, rows and columns, ThermalEnergy the most cones
abbrev pub most_own : ℕ → FourCounts
most_own k =
    four_counts (10 * most_joints * most_intervals * k) (2 * most_joints * most_intervals * k) (most_stations * k) (most_joints * most_intervals * k)

-- A root stage adds cones. Its entries, rows and columns come with an objective that has fewer of them than TotalVariationTorque, so they are in `most_own`.
abbrev pub most_counts : FourCounts
most_counts = most_standard plus four_counts 0 0 most_intervals 0 plus most_own most_objectives

-- in numbers; all are below 2 ^ 29
pub most_numbers : most_counts ≡ four_counts 470482434 117767938 1114130 33685506
most_numbers = refl

times : (a b c d : ℕ) → a ≤ c → b ≤ d → a * b ≤ c * d
times a b c d x y = mul-le-mul x y

-- numbers of at most b: of a list, and c of a function
pub total_le : (b : ℕ) (l : List ℕ) → ((i : ℕ) → get_or l i 0 ≤ b) → total l ≤ b * length l
total_le b [] h = omega arith
total_le b (x ∷ xs) h =
    let r = total_le b xs (λ i. h (suc i)) in
    let a = h 0 in
    omega (arith, mul-suc b (length xs))

sum_le : (b : ℕ) (f : ℕ → ℕ) → ((i : ℕ) → f i ≤ b) → (k c : ℕ) → sum_over f k c ≤ b * c
sum_le b f h k zero = omega arith
sum_le b f h k (suc c) =
    let r = sum_le b f h (suc k) c in
    let a = h k in
    omega (arith, mul-suc b c)

module _ (p : Problem) (l : Sizes p.path) (u : Usable p) where
  acc_most : acc_inside p.path p.acc.counts ≤ 256 * (m p.path - 1)
  unfolding acc_inside
  acc_most = sum_le 256 _ u.few_acc (p.path.N0 + 1) (m p.path - 1)

  jerk_most : jerk_inside p.path p.jerk.counts ≤ 256 * m p.path + 256 * m p.path
  unfolding jerk_inside
  jerk_most = omega (arith, sum_le 256 _ u.few_jerk p.path.N0 (m p.path), sum_le 256 _ u.few_jerk (p.path.N0 + 1) (m p.path))

  standard_most : AtMost most_standard (standard_counts p)
  unfolding standard_counts
  standard_most = omega (arith, uppers_few p l, acc_most, jerk_most)

  -- the root stage without its cones
  abbrev root_rest : FourCounts
  root_rest = four_counts (4 * L p.path) (4 * L p.path) 0 (L p.path)

  thermal_products : ((4 + 2 * p.torque.d) * (ends p.path + L p.path) ≤ 68 * most_stations) × ((2 + p.torque.d) * (ends p.path + L p.path) ≤ 34 * most_stations)
  thermal_products = (
    times (4 + 2 * p.torque.d) (ends p.path + L p.path) 68 most_stations (omega arith) (omega arith),
    times (2 + p.torque.d) (ends p.path + L p.path) 34 most_stations (omega arith) (omega arith),
  )

  objective_most : (o : Objective) → AtMost (most_own 1) (objective_counts p o)
  unfolding objective_counts
  objective_most (Time w) = omega arith
  objective_most (ThermalEnergy w o len) = omega (arith, thermal_products)
  objective_most (TotalVariationTorque w o len) =
      let a = times (10 * p.torque.d) (n p.path) 320 most_intervals (omega arith) (omega arith) in
      let b = times (2 * p.torque.d) (ends p.path + m p.path) 64 most_intervals (omega arith) (omega arith) in
      let c = times p.torque.d (ends p.path + m p.path) 32 most_intervals (omega arith) (omega arith) in
      omega (arith, torque_few p l)
  objective_most (Linear w a al b bl) = omega arith

  objectives_most : (os : List Objective) → AtMost (most_own (length os)) (objectives_counts p os)
  unfolding objectives_counts
  objectives_most [] = omega arith
  objectives_most (o ∷ os) = let a = objective_most o in let b = objectives_most os in omega arith

  -- with one that uses it
  rooted_most : (os : List Objective) → some uses_root os ≡ true → AtMost (most_own (length os)) (root_rest plus objectives_counts p os)
  unfolding objectives_counts objective_counts
  rooted_most [] h = absurd (false≢true h)
  rooted_most (Time w ∷ os) h = let b = objectives_most os in omega arith
  rooted_most (ThermalEnergy w o len ∷ os) h = let b = objectives_most os in omega (arith, thermal_products)
  rooted_most (TotalVariationTorque w o len ∷ os) h = let a = objective_most (TotalVariationTorque w o len) in let b = rooted_most os h in omega arith
  rooted_most (Linear w a al b bl ∷ os) h = let r = rooted_most os h in omega arith

  few_roots : 1 + L p.path ≤ n p.path
  unfolding L
  few_roots = omega (arith, l.moves, l.parts)

  own_most : AtMost (four_counts 0 0 most_intervals 0 plus most_own (length (objectives p))) (root_counts p plus objectives_counts p (objectives p))
  unfolding root_counts
  own_most = go (has_root p) (rooted_most (objectives p))
    where
      go : (b : Bool) → (b ≡ true → AtMost (most_own (length (objectives p))) (root_rest plus objectives_counts p (objectives p)))
          → AtMost (four_counts 0 0 most_intervals 0 plus most_own (length (objectives p)))
          (cond b (four_counts (4 * L p.path) (4 * L p.path) (1 + L p.path) (L p.path)) (four_counts 0 0 0 0) plus objectives_counts p (objectives p))
      go true h = let r = h refl in omega (arith, few_roots)
      go false h = let r = objectives_most (objectives p) in omega arith

  pub counts_most : AtMost most_counts (counts p)
  unfolding counts
  counts_most =
      let a = standard_most in
      let b = own_most in
      omega (arith, length-take p.count p.slots)
