-- Where the entry bound is attained: with no stationary end, all upper bounds finite, no acceleration or jerk row at the two end stations, and no objective
-- that uses xi. So no smaller bound holds of these problems.
use Prim.Native.Nat.{ℕ, zero, suc, ◌+◌, ◌-◌, ◌*◌, ◌≤◌, ◌<◌}
use native.Mathlib.Nat.{mul-zero, zero-mul, mul-one}
use native.Mathlib.Omega.{arith}
use mathlib.Core.Path.{◌≡◌, refl, sym, ◌∙◌}
use mathlib.Core.Bool.{true, false, ◌||◌, false≢true}
use mathlib.Core.List.{List, [], ◌∷◌}
use lib.ListN.{length, get_or, replicate}
use lib.Ieee.{Float, of_bits}
use Rattle.model.specs.Verdicts.{accepted}
use Rattle.model.specs.Numbers.{at, finite, +0, +1, +2, +4, +∞}
use Rattle.model.specs.Lists.{sum_over, total}
use Rattle.model.specs.Problem.{Problem, on_grid, objectives, n, m, ends, some, uses_root, is_torque, is_linear}
use Rattle.model.specs.Refusals.{refusal}
use Rattle.model.specs.Counts.{upper, uppers, acc_inside, jerk_inside, standard_counts, root_counts, objective_counts, objectives_counts, counts, objective_bound, objectives_bound, entry_bound}
use Rattle.model.specs.declared.Bounds.{Bounds}
use Rattle.model.specs.declared.Objective.{Objective}
use Rattle.model.specs.declared.Objective.TheVariants.{Time, ThermalEnergy, TotalVariationTorque, Linear}
use Rattle.model.proofs.All.{All}
use Rattle.model.proofs.Sums.{sum_over_ext, sum_over_const, sum_over_snoc}
use Rattle.model.proofs.Bound.{shift}
use Rattle.model.proofs.Ledger.{everything}
use Rattle.model.proofs.Usable.{Usable, usable}

-- a table of row counts with no rows at stations 0 and n
pub record NoEnds (n : ℕ) (rows : List ℕ) : Type 0 where
  pub first : get_or rows 0 0 ≡ 0
  pub last : get_or rows n 0 ≡ 0

-- what keeps the entries from being fewer than the bound
pub record Full (p : Problem) : Type 0 where
  pub start : p.path.N0 ≡ 0
  pub end : p.path.N1 ≡ 0
  pub amax : (k : ℕ) → 0 < k → k < n p.path → finite (at p.limits.amax k) ≡ true
  pub acc : NoEnds (n p.path) p.acc.counts
  pub jerk : NoEnds (n p.path) p.jerk.counts
  pub kinds : All (λ o. (is_torque o || is_linear o) ≡ true) (objectives p)

whole : (l : List ℕ) → sum_over (λ i. get_or l i 0) 0 (length l) ≡ total l
whole [] = refl
whole (x ∷ xs) = let h = whole xs in omega (arith, shift (λ i. get_or (x ∷ xs) i 0) 0 (length xs))

-- such a table sums up to the same without its first number, without its last, and without both
pub record Inside (l : List ℕ) (k : ℕ) : Type 0 where
  pub neither : sum_over (λ i. get_or l i 0) 1 k ≡ total l
  pub not_last : sum_over (λ i. get_or l i 0) 0 (suc k) ≡ total l
  pub not_first : sum_over (λ i. get_or l i 0) 1 (suc k) ≡ total l

inside : (l : List ℕ) (k : ℕ) → length l ≡ suc (suc k) → NoEnds (suc k) l → Inside l k
inside l k long e =
    let all : sum_over (λ i. get_or l i 0) 0 (suc (suc k)) ≡ total l = rw long at (whole l) in
    let first = e.first in
    let last : get_or l (1 + k) 0 ≡ 0 = let z : 1 + k ≡ suc k = omega arith in rw z e.last in
    let split = sum_over_snoc (λ i. get_or l i 0) 1 k in
    record { neither = omega arith; not_last = omega arith; not_first = omega arith }

-- an upper bound at every station between the ends
pub each_upper : (f : ℕ → Float) (k c : ℕ) → ((i : ℕ) → k ≤ i → i < k + c → finite (f i) ≡ true) → sum_over (λ i. upper (f i)) k c ≡ c
each_upper f k c h = sum_over_ext (λ i. upper (f i)) (λ i. 1) k c (λ i a b. rw (h i a b)) ∙ sum_over_const 1 k c ∙ mul-one c

rootless : (os : List Objective) → All (λ o. (is_torque o || is_linear o) ≡ true) os → some uses_root os ≡ false
rootless [] h = refl
rootless (Time w ∷ os) h = absurd (false≢true h.0)
rootless (ThermalEnergy w s l ∷ os) h = absurd (false≢true h.0)
rootless (TotalVariationTorque w s l ∷ os) h = rootless os h.1
rootless (Linear w a al b bl ∷ os) h = rootless os h.1

module _ (p : Problem) (ok : refusal p ≡ accepted) (full : Full p) where
  abbrev u : Usable p
  u = usable p ok

  abbrev k : ℕ
  k = n p.path - 1

  last : n p.path ≡ suc k
  last = let s = u.sized in omega arith

  moving : m p.path ≡ suc k
  unfolding m
  moving = let s = u.sized in let a = full.start in let b = full.end in omega arith

  no_ends : ends p.path ≡ 0
  unfolding ends
  no_ends = let a = full.start in let b = full.end in omega arith

  inner : m p.path - 1 ≡ k
  inner = let e = moving in omega arith

  table : (l : List ℕ) → length l ≡ length p.path.grid → NoEnds (n p.path) l → Inside l k
  table l long e = inside l k (let s = u.sized in omega arith) (rw last at e)

  all_uppers : uppers p.path p.limits ≡ k
  unfolding uppers
  all_uppers =
      let e = each_upper (λ i. at p.limits.amax i) 1 k (λ i a b. full.amax i (omega arith) (let z = last in omega arith)) in
      simp (full.start, full.end, inner, zero-mul) (omega arith)

  all_acc : acc_inside p.path p.acc.counts ≡ total p.acc.counts
  unfolding acc_inside
  all_acc = rw (inner, full.start) (table p.acc.counts u.acc.0 full.acc).neither

  all_jerk : jerk_inside p.path p.jerk.counts ≡ 2 * total p.jerk.counts
  unfolding jerk_inside
  all_jerk = let t = table p.jerk.counts u.jerk.0 full.jerk in rw (moving, full.start) (omega arith)

  standard_full : (standard_counts p).entries ≡ 2 + 11 * n p.path + 2 * total p.acc.counts + 6 * total p.jerk.counts
  unfolding standard_counts
  standard_full = rw (no_ends, moving, all_uppers, all_acc, all_jerk, last) (omega arith)

  objective_full : (o : Objective) → (is_torque o || is_linear o) ≡ true → (objective_counts p o).entries ≡ objective_bound p o
  unfolding objective_counts objective_bound
  objective_full (Time w) h = absurd (false≢true h)
  objective_full (ThermalEnergy w s l) h = absurd (false≢true h)
  objective_full (TotalVariationTorque w s l) h = rw (no_ends, moving ∙ sym last, mul-zero) (omega arith)
  objective_full (Linear w a al b bl) h = refl

  objectives_full : (os : List Objective) → All (λ o. (is_torque o || is_linear o) ≡ true) os → (objectives_counts p os).entries ≡ objectives_bound p os
  unfolding objectives_counts objectives_bound
  objectives_full [] h = refl
  objectives_full (o ∷ os) h = let a = objective_full o h.0 in let b = objectives_full os h.1 in omega arith

  pub attained : (counts p).entries ≡ entry_bound p
  unfolding counts entry_bound root_counts
  attained =
      let s = standard_full in
      let o = objectives_full (objectives p) full.kinds in
      rw (rootless (objectives p) full.kinds) (omega arith)

-- whatever bounds the entries of every accepted problem is no smaller there
pub least : (bound : Problem → ℕ) → ((p : Problem) → refusal p ≡ accepted → (counts p).entries ≤ bound p) → (p : Problem) → refusal p ≡ accepted → Full p → entry_bound p ≤ bound p
least bound h p ok full = let b = h p ok in let e = attained p ok full in omega arith

-- ---- one such problem: two intervals, a TotalVariationTorque, an acceleration row and a jerk row at station 1

abbrev unread : Bounds
unread = record { maximum = +∞; minimum = +0 }

abbrev pub two_intervals : Problem
two_intervals =
    record {
      boundary = record { a0 = +0; a1 = +0; b0 = +0; b1 = +0 };
      path = on_grid (+0 ∷ +1 ∷ +2 ∷ []);
      count = 1;
      slots = TotalVariationTorque +1 0 1 ∷ [];
      pool = +1 ∷ [];
      limits = record { start = unread; end = unread; amax = +∞ ∷ +4 ∷ +∞ ∷ [] };
      acc = record { counts = 0 ∷ 1 ∷ 0 ∷ []; a = +1 ∷ []; b = +1 ∷ []; max = +1 ∷ [] };
      jerk = record { counts = 0 ∷ 1 ∷ 0 ∷ []; a = +1 ∷ []; b = +1 ∷ []; c = +1 ∷ []; max = +1 ∷ [] };
      thermal = [];
      torque = record { d = 1; a = replicate 3 +1; b = replicate 3 +1; g = replicate 3 +1 };
      roots = record { start = []; end = [] };
    }

pub two_intervals_accepted : refusal two_intervals ≡ accepted
unfolding everything
two_intervals_accepted = refl

station_one : (k : ℕ) → 0 < k → k < 2 → finite (at two_intervals.limits.amax k) ≡ true
unfolding of_bits
station_one zero a b = absurd (omega arith)
station_one (suc zero) a b = refl
station_one (suc (suc k)) a b = absurd (omega arith)

pub two_intervals_full : Full two_intervals
two_intervals_full =
    record { start = refl; end = refl; amax = station_one; acc = record { first = refl; last = refl }; jerk = record { first = refl; last = refl }; kinds = (refl, tt) }

-- 2 + 11·2 + 2·1 + 6·1 + 10·1·2
pub two_intervals_entries : (counts two_intervals).entries ≡ 52
unfolding entry_bound objectives_bound objective_bound
two_intervals_entries = attained two_intervals two_intervals_accepted two_intervals_full
