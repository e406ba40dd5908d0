-- Over an accepted grid of doubles no Time weight is below zero: later stations are larger, and rounding keeps it so.
use Prim.Native.Nat.{ℕ, zero, suc, ◌+◌, ◌-◌, ◌≤◌, ◌<◌}
use native.Mathlib.Omega.{arith}
use mathlib.Core.Path.{◌≡◌, subst}
use mathlib.Core.Bool.{true, false, not}
use mathlib.Core.List.{List, [], ◌∷◌, map}
use lib.Dec.{ltb, eqb}
use lib.ListN.{length}
use lib.IntN.{pos}
use lib.Signed.{<ℤ-≤ℤ_trans}
use lib.Ieee.{Float, binary64, lt, of_bits}
use lib.Ieee.Bits.{of_bits-fits}
use lib.Ieee.Fits.{nan-fits}
use borrow.Author.Tests.{ltb-true, eqb-true, not-false}
use Rattle.model.specs.Numbers.{at, ◌⊗◌, half, unfit, finite}
use Rattle.model.specs.Problem.{Problem, Path, objectives, n, stop, s}
use Rattle.model.specs.Verdicts.{accepted, ◌then◌, lowest, itself}
use Rattle.model.specs.Refusals.{refusal, refusal_up_to, most_stations, boundary_refusal, grid_refusal, setup_refusal, tables_refusal, bounds_refusal, objectives_refusal}
use Rattle.model.specs.Objectives.{time_weights}
use Rattle.model.specs.Conic.{units}
use Rattle.model.specs.Meaning.{◌≼◌}
use Rattle.model.specs.declared.Objective.TheVariants.{Time}
use Rattle.model.specs.declared.rule.Rule.TheVariants.{GridNotFinite, GridNotRising}
use Rattle.model.proofs.All.{All}
use Rattle.model.proofs.Sizes.{Sizes}
use Rattle.model.proofs.Passes.{both, then_passes, refuse_passes, lowest_passes}
use Rattle.model.proofs.Weights.{time_weight, weight_at}
use Rattle.model.proofs.Values.{value_lt}
use Rattle.model.proofs.Signs.{plus, plus_units, plus_cond, mul_plus, fit_plus, half_plus, zero_is_plus}
use Rattle.model.proofs.EndWeights.{Double, ◌≺◌, lt_le, start_plus, end_plus, moving_plus}

-- the numbers of a list are doubles, as they are in every list that memory holds
abbrev pub Doubles : List Float → Type 0
Doubles = All Double

pub read_doubles : (bits : List ℕ) → Doubles (map (of_bits binary64) bits)
read_doubles [] = tt
read_doubles (b ∷ bits) = (of_bits-fits binary64 b, read_doubles bits)

double_at : (l : List Float) → Doubles l → (k : ℕ) → Double (at l k)
double_at [] h k = nan-fits binary64
double_at (x ∷ l) h zero = h.0
double_at (x ∷ l) h (suc k) = double_at l h.1 k

module _ (p : Problem) (ok : refusal p ≡ accepted) where
  abbrev q : Path
  q = p.path

  later : (grid_refusal most_stations q.grid then setup_refusal p.torque.d p.count p.slots (n q + 1) p.pool then tables_refusal p then bounds_refusal q p.limits) ≡ accepted
  unfolding refusal_up_to
  later = ((then_passes (boundary_refusal p.boundary) _).0 ok).1

  grid_passes : (lowest GridNotFinite itself (λ k. not (finite (at q.grid k))) 0 (length q.grid) ≡ accepted) × (lowest GridNotRising itself (λ k. not (lt (at q.grid (k - 1)) (at q.grid k))) 1 (length q.grid - 1) ≡ accepted)
  unfolding grid_refusal
  grid_passes = (simp (then_passes, refuse_passes) at ((then_passes (grid_refusal most_stations q.grid) _).0 later).0).1.1

  grid_finite : (k : ℕ) → k ≤ n q → Sizes q → finite (s q k) ≡ true
  grid_finite k h l = not-false _ (lowest_passes GridNotFinite itself _ 0 (length q.grid) grid_passes.0 k (omega arith) (omega arith))

  grid_rises : (k : ℕ) → k < n q → lt (s q k) (s q (k + 1)) ≡ true
  grid_rises k h =
      let e : k + 1 - 1 ≡ k = omega arith in
      rw e at (not-false (lt (at q.grid (k + 1 - 1)) (at q.grid (k + 1))) (lowest_passes GridNotRising itself (λ k. not (lt (at q.grid (k - 1)) (at q.grid k))) 1 (length q.grid - 1) grid_passes.1 (k + 1) (omega arith) (omega arith)))

  module _ (l : Sizes q) (doubles : Doubles q.grid) where
    double : (k : ℕ) → Double (s q k)
    double = double_at q.grid doubles

    step : (k : ℕ) → k < n q → s q k ≺ s q (k + 1)
    step k h = value_lt binary64 (s q k) (s q (k + 1)) (double k) (double (k + 1)) (grid_finite k (omega arith) l) (grid_finite (k + 1) (omega arith) l) (grid_rises k h)

    steps : (k d : ℕ) → k + suc d ≤ n q → s q k ≺ s q (k + suc d)
    steps k zero h = step k (omega arith)
    steps k (suc d) h =
        let next : k + suc d + 1 ≡ k + suc (suc d) = omega arith in
        <ℤ-≤ℤ_trans (steps k d (omega arith)) (lt_le _ _ (subst (λ (i : ℕ). s q (k + suc d) ≺ s q i) next (step (k + suc d) (omega arith))))

    before : (i j : ℕ) → i < j → j ≤ n q → s q i ≺ s q j
    before i j a b = let e : i + suc (j - i - 1) ≡ j = omega arith in subst (λ (k : ℕ). s q i ≺ s q k) e (steps i (j - i - 1) (omega arith))

    halved : (x : Float) → plus x ≡ true → plus (half ⊗ x) ≡ true
    halved x h = mul_plus binary64 half x half_plus h

    -- the weight of a station: of the start, of the end, of a moving one, and 0
    weight_plus : (k : ℕ) → plus (time_weight q k) ≡ true
    unfolding time_weight
    weight_plus k =
        plus_cond _ _ _ (λ e.
        let t = both (ltb 0 q.N0) (eqb k q.N0) e in
        let u = ltb-true 0 q.N0 t.0 in
        let v = eqb-true k q.N0 t.1 in
        halved _ (start_plus (s q 0) (s q k) (s q (k + 1)) (double 0) (double k) (double (k + 1)) (before 0 k (omega arith) (omega arith)) (before k (k + 1) (omega arith) (omega arith)))) (λ _.
        plus_cond _ _ _ (λ e.
        let t = both (ltb 0 q.N1) (eqb k (stop q)) e in
        let u = ltb-true 0 q.N1 t.0 in
        let v = eqb-true k (stop q) t.1 in
        halved _ (end_plus (s q (k - 1)) (s q k) (s q (n q)) (double (k - 1)) (double k) (double (n q)) (before (k - 1) k (omega arith) (omega arith)) (before k (n q) (omega arith) (omega arith)))) (λ _.
        plus_cond _ _ _ (λ e.
        let t = both (ltb q.N0 k) (ltb k (stop q)) e in
        let u = ltb-true q.N0 k t.0 in
        let v = ltb-true k (stop q) t.1 in
        halved _ (moving_plus (s q (k - 1)) (s q (k + 1)) (double (k - 1)) (double (k + 1)) (before (k - 1) (k + 1) (omega arith) (omega arith)))) (λ _. zero_is_plus)))

    -- no Time weight is below zero, at any station
    pub weight_least : (w : Float) → unfit w ≡ false → (k : ℕ) → k ≤ n q → pos 0 ≼ units (w ⊗ at (time_weights q) k)
    weight_least w h k in-grid = plus_units _ (mul_plus binary64 w _ (fit_plus w h) (rw (weight_at q l k in-grid) (weight_plus k)))

  -- by refusal 11
  pub time_fit : (w : Float) → objectives p ≡ Time w ∷ [] → unfit w ≡ false
  unfolding setup_refusal objectives_refusal
  time_fit w e =
      let h = ((then_passes (setup_refusal p.torque.d p.count p.slots (n q + 1) p.pool) _).0 ((then_passes (grid_refusal most_stations q.grid) _).0 later).1).0 in
      let g = simp (then_passes, refuse_passes) at h in
      (simp (then_passes, refuse_passes) at (rw e at g.1.1.1)).0
