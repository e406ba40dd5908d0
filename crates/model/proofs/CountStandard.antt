-- The sizes of the standard rows. A measure of a band is its height times some number g of its columns: with g = 1 it counts rows, and with g the
-- number itself entries. So each count is shown once.
use Prim.Native.Nat.{ℕ, suc, ◌+◌, ◌-◌, ◌*◌, min}
use native.Mathlib.Nat.{one-mul, mul-one, mul-add, add-zero, add-mul, add_comm}
use native.Mathlib.Numerals.{add-one}
use native.Mathlib.Omega.{arith}
use mathlib.Core.Path.{◌≡◌, refl, ap, ◌∙◌}
use mathlib.Core.Bool.{cond}
use lib.ListN.{length, get_or}
use lib.Dec.{ltb}
use lib.Ieee.{Float}
use Rattle.model.specs.Numbers.{at}
use Rattle.model.specs.Counts.{upper}
use Rattle.model.specs.declared.Boundary.{Boundary}
use Rattle.model.specs.declared.Bounds.{Bounds}
use Rattle.model.specs.Lists.{list, over, sum, sum_over}
use Rattle.model.specs.Problem.{Path, Limits, Acceleration, Jerk, m, ends, stop}
use Rattle.model.specs.Program.{Band, positive_row}
use Rattle.model.specs.Standard.{boundary_rows, stationary_row, moving_rows, equalities, upper_row, end_rows, interval_rows, first_order, acceleration_rows, backward_rows, forward_rows, jerk_rows_at, inequalities}
use Rattle.model.specs.Counts.{acc_inside, jerk_inside, uppers}
use Rattle.model.proofs.Sizes.{Sizes}
use Rattle.model.proofs.Sums.{sum_append, sum_given, sum_list, sum_over_lem, sum_over_same, sum_over_const, sum_over_times, sum_over_ext, sum_over_plus, sum_over_above, sum_over_below, flag_of}

abbrev pub measure : (ℕ → ℕ) → Band → ℕ
measure g b = b.height * g (length b.columns)

module _ (q : Path) (g : ℕ → ℕ) where
  pub equalities_measure : (x : Boundary) → sum (measure g) (equalities q x) ≡ 4 * g 1 + min q.N0 1 * g 2 + min q.N1 1 * g 2 + m q * g 4
  unfolding equalities boundary_rows stationary_row moving_rows
  equalities_measure x = simp (sum_append (measure g), sum_given (measure g), flag_of) (simp (one-mul, add-zero) (omega arith))

  -- the upper bound's row, where there is one
  upper_measure : (k : ℕ) (x : Float) → sum (measure g) (upper_row q k x) ≡ upper x * g 1
  unfolding upper_row
  upper_measure k x = simp (sum_given (measure g), one-mul, add-zero)

  end_measure : (e : ℕ) (b : Bounds) → sum (measure g) (end_rows q e b) ≡ upper b.maximum * g 1 + g 1
  unfolding end_rows
  end_measure e b = simp (sum_append (measure g), upper_measure, one-mul, add-zero)

  pub positive_measure : (c : ℕ) → measure g (positive_row c) ≡ g 1
  unfolding positive_row
  positive_measure c = one-mul (g 1)

  uppers_measure : (y : Limits) (k c : ℕ) → sum (measure g) (over (λ i. upper_row q i (at y.amax i)) k c) ≡ sum_over (λ i. upper (at y.amax i)) k c * g 1
  uppers_measure y k c = simp (sum_over_lem (measure g), upper_measure) (sum_over_times (λ i. upper (at y.amax i)) (g 1) k c)

  intervals_measure : (k c : ℕ) → sum (measure g) (over (interval_rows q) k c) ≡ c * (g 2 + g 3)
  unfolding interval_rows
  intervals_measure k c = sum_over_lem (measure g) (interval_rows q) k c ∙ sum_over_same _ (g 2 + g 3) k c (λ i. simp (one-mul, add-zero))

  acceleration_measure : (t : Acceleration) (k c : ℕ) → sum (measure g) (list (acceleration_rows q t) k c) ≡ sum_over (λ i. get_or t.counts i 0) k c * g 2
  unfolding acceleration_rows
  acceleration_measure t k c = sum_list (measure g) (acceleration_rows q t) k c ∙ sum_over_times (λ i. get_or t.counts i 0) (g 2) k c

  backward_measure : (t : Jerk) (k : ℕ) → measure g (backward_rows q t k) ≡ get_or t.counts k 0 * g 3
  unfolding backward_rows
  backward_measure t k = refl

  forward_measure : (t : Jerk) (k : ℕ) → measure g (forward_rows q t k) ≡ get_or t.counts k 0 * g 3
  unfolding forward_rows
  forward_measure t k = refl

  -- station k has its rows backward unless it is the first, and forward unless it is the last
  jerk_measure : (t : Jerk) (k : ℕ) → sum (measure g) (jerk_rows_at q t k) ≡ (cond (ltb q.N0 k) 1 0 + cond (ltb k (stop q)) 1 0) * (get_or t.counts k 0 * g 3)
  unfolding jerk_rows_at
  jerk_measure t k = simp (sum_append (measure g), sum_given (measure g), backward_measure, forward_measure, add-zero, add-mul)

  first_order_measure : (y : Limits) → sum (measure g) (first_order q y)
      ≡ min q.N0 1 * (upper y.start.maximum * g 1 + g 1) + min q.N1 1 * (upper y.end.maximum * g 1 + g 1)
      + (m q - 1) * g 1 + sum_over (λ i. upper (at y.amax i)) (q.N0 + 1) (m q - 1) * g 1 + m q * (g 2 + g 3)
  unfolding first_order
  first_order_measure y = simp (sum_append (measure g), sum_given (measure g), flag_of, end_measure, sum_list (measure g), positive_measure, sum_over_const, uppers_measure, intervals_measure)

  module _ (l : Sizes q) where
    jerks_measure : (t : Jerk) → sum (measure g) (over (jerk_rows_at q t) q.N0 (m q + 1)) ≡ jerk_inside q t.counts * g 3
    unfolding jerk_inside
    jerks_measure t =
        let f : ℕ → ℕ = λ i. get_or t.counts i 0 * g 3 in
        let a : sum_over (λ i. cond (ltb q.N0 i) 1 0 * f i) q.N0 (suc (m q)) ≡ sum_over (λ i. get_or t.counts i 0) (q.N0 + 1) (m q) * g 3 =
        sum_over_above f q.N0 (m q) ∙ simp (sum_over_times, ← add-one) in
        let b : sum_over (λ i. cond (ltb i (stop q)) 1 0 * f i) q.N0 (suc (m q)) ≡ sum_over (λ i. get_or t.counts i 0) q.N0 (m q) * g 3 =
        sum_over_below f (stop q) q.N0 (m q) l.stops ∙ sum_over_times (λ i. get_or t.counts i 0) (g 3) q.N0 (m q) in
        ap (λ (x : ℕ). sum (measure g) (over (jerk_rows_at q t) q.N0 x)) (add-one (m q))
        ∙ sum_over_lem (measure g) (jerk_rows_at q t) q.N0 (suc (m q))
        ∙ sum_over_ext _ (λ i. cond (ltb q.N0 i) 1 0 * f i + cond (ltb i (stop q)) 1 0 * f i) q.N0 (suc (m q)) (λ i _ _. jerk_measure t i ∙ simp add-mul)
        ∙ sum_over_plus (λ i. cond (ltb q.N0 i) 1 0 * f i) (λ i. cond (ltb i (stop q)) 1 0 * f i) q.N0 (suc (m q))
        ∙ rw (a, b, add-mul) (add_comm _ _)

    pub inequalities_measure : (y : Limits) (u : Acceleration) (t : Jerk)
        → sum (measure g) (inequalities q y u t) ≡ sum (measure g) (first_order q y) + acc_inside q u.counts * g 2 + jerk_inside q t.counts * g 3
    unfolding inequalities acc_inside
    inequalities_measure y u t = simp (sum_append (measure g), acceleration_measure, jerks_measure)

module _ (q : Path) (l : Sizes q) where
  pub equalities_rows : (x : Boundary) → sum (measure (λ k. 1)) (equalities q x) ≡ 4 + ends q + m q
  unfolding ends
  equalities_rows x = equalities_measure q (λ k. 1) x ∙ simp mul-one (omega arith)

  pub equalities_entries : (x : Boundary) → sum (measure (λ k. k)) (equalities q x) ≡ 4 + 2 * ends q + 4 * m q
  unfolding ends
  equalities_entries x = equalities_measure q (λ k. k) x ∙ omega arith

  pub inequalities_rows : (y : Limits) (u : Acceleration) (t : Jerk)
      → sum (measure (λ k. 1)) (inequalities q y u t) ≡ ends q + uppers q y + (m q - 1) + 2 * m q + acc_inside q u.counts + jerk_inside q t.counts
  unfolding ends uppers
  inequalities_rows y u t = inequalities_measure q (λ k. 1) l y u t ∙ rw (first_order_measure q (λ k. 1) y) (simp (mul-one, mul-add) (omega arith))

  pub inequalities_entries : (y : Limits) (u : Acceleration) (t : Jerk)
      → sum (measure (λ k. k)) (inequalities q y u t)
      ≡ ends q + uppers q y + (m q - 1) + 5 * m q + 2 * acc_inside q u.counts + 3 * jerk_inside q t.counts
  unfolding ends uppers
  inequalities_entries y u t = inequalities_measure q (λ k. k) l y u t ∙ rw (first_order_measure q (λ k. k) y) (simp (mul-one, mul-add) (omega arith))
