-- Where the four counts are as large as they can be (`most_counts`), so that no smaller numbers bound them.
use Prim.Native.Nat.{ℕ, ◌+◌, ◌-◌, ◌*◌, ◌≤◌, ◌<◌}
use native.Mathlib.Omega.{arith}
use mathlib.Core.Path.{◌≡◌, refl, ◌∙◌}
use mathlib.Core.Bool.{true, false, false≢true}
use mathlib.Core.List.{List, [], ◌∷◌}
use lib.ListN.{length, get_or}
use Rattle.model.specs.Numbers.{at, finite}
use Rattle.model.specs.Lists.{sum_over}
use Rattle.model.specs.Problem.{Problem, objectives, n, m, L, ends, some, uses_root, is_torque, is_thermal}
use Rattle.model.specs.Refusals.{most_stations, most_rows, most_joints, most_objectives}
use Rattle.model.specs.Counts.{uppers, acc_inside, jerk_inside, standard_counts, root_counts, objective_counts, objectives_counts, counts}
use Rattle.model.specs.declared.Objective.{Objective}
use Rattle.model.specs.declared.Objective.TheVariants.{Time, ThermalEnergy, TotalVariationTorque, Linear}
use Rattle.model.proofs.All.{All}
use Rattle.model.proofs.Sums.{sum_over_ext, sum_over_const}
use Rattle.model.proofs.Attained.{each_upper}
use Rattle.model.proofs.Fits.{most_intervals, most_own, most_counts}

-- the longest grid without an end at rest, d = 32, finite upper bounds, 256 acceleration and 256 jerk rows at each station, 16 TotalVariationTorque
pub record Largest (p : Problem) : Type 0 where
  pub stations : length p.path.grid ≡ most_stations
  pub start : p.path.N0 ≡ 0
  pub end : p.path.N1 ≡ 0
  pub joints : p.torque.d ≡ most_joints
  pub amax : (k : ℕ) → 0 < k → k < n p.path → finite (at p.limits.amax k) ≡ true
  pub acc : (k : ℕ) → k ≤ n p.path → get_or p.acc.counts k 0 ≡ most_rows
  pub jerk : (k : ℕ) → k ≤ n p.path → get_or p.jerk.counts k 0 ≡ most_rows
  pub many : length (objectives p) ≡ most_objectives
  pub kinds : All (λ o. is_torque o ≡ true) (objectives p)

-- the longest grid with one interval at rest at each end, and 16 ThermalEnergy
pub record MostCones (p : Problem) : Type 0 where
  pub stations : length p.path.grid ≡ most_stations
  pub start : p.path.N0 ≡ 1
  pub end : p.path.N1 ≡ 1
  pub many : length (objectives p) ≡ most_objectives
  pub kinds : All (λ o. is_thermal o ≡ true) (objectives p)

same_rows : (l : List ℕ) (k c : ℕ) → ((i : ℕ) → i < k + c → get_or l i 0 ≡ most_rows) → sum_over (λ i. get_or l i 0) k c ≡ c * most_rows
same_rows l k c h = sum_over_ext (λ i. get_or l i 0) (λ i. most_rows) k c (λ i a b. h i b) ∙ sum_over_const most_rows k c

module _ (p : Problem) (f : Largest p) where
  last : n p.path ≡ most_intervals
  last = let s = f.stations in omega arith

  moving : m p.path ≡ n p.path
  unfolding m
  moving = let a = f.start in let b = f.end in omega arith

  no_ends : ends p.path ≡ 0
  unfolding ends
  no_ends = let a = f.start in let b = f.end in omega arith

  all_uppers : uppers p.path p.limits ≡ n p.path - 1
  unfolding uppers
  all_uppers =
      let e = each_upper (λ i. at p.limits.amax i) 1 (n p.path - 1) (λ i a b. f.amax i (omega arith) (omega arith)) in
      rw (moving, f.start, f.end) (omega arith)

  all_acc : acc_inside p.path p.acc.counts ≡ (n p.path - 1) * most_rows
  unfolding acc_inside
  all_acc = rw (moving, f.start) (same_rows p.acc.counts 1 (n p.path - 1) (λ i b. f.acc i (omega arith)))

  all_jerk : jerk_inside p.path p.jerk.counts ≡ n p.path * most_rows + n p.path * most_rows
  unfolding jerk_inside
  all_jerk =
      let a = same_rows p.jerk.counts 0 (n p.path) (λ i b. f.jerk i (omega arith)) in
      let b = same_rows p.jerk.counts 1 (n p.path) (λ i b. f.jerk i (omega arith)) in
      rw (moving, f.start) (omega arith)

  objective_largest : (o : Objective) → is_torque o ≡ true
      → ((objective_counts p o).entries ≡ (most_own 1).entries) × ((objective_counts p o).rows ≡ (most_own 1).rows) × ((objective_counts p o).columns ≡ (most_own 1).columns)
  unfolding objective_counts
  objective_largest (Time w) h = absurd (false≢true h)
  objective_largest (ThermalEnergy w s l) h = absurd (false≢true h)
  objective_largest (TotalVariationTorque w s l) h = rw (no_ends, moving, f.joints) (omega (arith, last))
  objective_largest (Linear w a al b bl) h = absurd (false≢true h)

  objectives_largest : (os : List Objective) → All (λ o. is_torque o ≡ true) os
      → (some uses_root os ≡ false) × ((objectives_counts p os).entries ≡ (most_own (length os)).entries) × ((objectives_counts p os).rows ≡ (most_own (length os)).rows) × ((objectives_counts p os).columns ≡ (most_own (length os)).columns)
  unfolding objectives_counts
  objectives_largest [] h = (refl, refl, refl, refl)
  objectives_largest (Time w ∷ os) h = absurd (false≢true h.0)
  objectives_largest (ThermalEnergy w s l ∷ os) h = absurd (false≢true h.0)
  objectives_largest (TotalVariationTorque w s l ∷ os) h =
      let a = objective_largest (TotalVariationTorque w s l) refl in
      let b = objectives_largest os h.1 in
      (b.0, omega arith, omega arith, omega arith)
  objectives_largest (Linear w a al b bl ∷ os) h = absurd (false≢true h.0)

  pub largest : ((counts p).entries ≡ most_counts.entries) × ((counts p).rows ≡ most_counts.rows) × ((counts p).columns ≡ most_counts.columns)
  unfolding counts standard_counts root_counts
  largest =
      let o = objectives_largest (objectives p) f.kinds in
      rw (o.0, no_ends, moving, all_uppers, all_acc, all_jerk) (omega (arith, last, f.many))

module _ (p : Problem) (f : MostCones p) where
  with_xi : (ends p.path ≡ 2) × (L p.path + 1 ≡ most_intervals)
  unfolding ends L
  with_xi = let s = f.stations in let a = f.start in let b = f.end in omega arith

  own_cones : (os : List Objective) → All (λ o. is_thermal o ≡ true) os → (objectives_counts p os).cones ≡ (most_own (length os)).cones
  unfolding objectives_counts objective_counts
  own_cones [] h = omega arith
  own_cones (Time w ∷ os) h = absurd (false≢true h.0)
  own_cones (ThermalEnergy w s l ∷ os) h = let b = own_cones os h.1 in omega (arith, with_xi)
  own_cones (TotalVariationTorque w s l ∷ os) h = absurd (false≢true h.0)
  own_cones (Linear w a al b bl ∷ os) h = absurd (false≢true h.0)

  rooted : (os : List Objective) → 0 < length os → All (λ o. is_thermal o ≡ true) os → some uses_root os ≡ true
  rooted [] l h = absurd (omega arith)
  rooted (Time w ∷ os) l h = refl
  rooted (ThermalEnergy w s k ∷ os) l h = refl
  rooted (TotalVariationTorque w s k ∷ os) l h = absurd (false≢true h.0)
  rooted (Linear w a al b bl ∷ os) l h = absurd (false≢true h.0)

  pub most_cones : (counts p).cones ≡ most_counts.cones
  unfolding counts standard_counts root_counts
  most_cones =
      let c = own_cones (objectives p) f.kinds in
      rw (rooted (objectives p) (let k = f.many in omega arith) f.kinds) (omega (arith, with_xi, f.many))
