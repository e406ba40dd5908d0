-- What each second-order cone says ("From Lobo et al. the rewriting of a product is known"), in the words of specs/Meaning.antt.
use Prim.Native.Nat.{ℕ, zero, suc, ◌+◌, ◌*◌, ◌≤◌, ◌<◌}
use native.Mathlib.Nat.{le_of_mul-le-mul_right, mul-pos, zero-add}
use native.Mathlib.Omega.{arith}
use mathlib.Core.Path.{◌≡◌, refl, sym, ap, ap₂, ◌∙◌, subst, subst₂, fun_ext}
use mathlib.Core.Logic.Iff
use mathlib.Core.Logic.{◌↔◌}
use mathlib.Core.List.{List, [], ◌∷◌, map, append-nil}
use lib.ListN.{get_or}
use lib.Seq.{get_or-append-add}
use lib.IntN.{ℤ, pos, neg_ℤ, ◌+ℤ◌, ◌-ℤ◌, ◌*ℤ◌, +ℤ_idr}
use lib.Signed.{◌≤ℤ◌}
use lib.Ieee.{Float}
use Rattle.model.specs.Lists.{list}
use Rattle.model.specs.Problem.{Problem, Path, skip, col_a, col_b}
use Rattle.model.specs.Program.{Band, band, cell}
use Rattle.model.specs.Standard.{root_cone}
use Rattle.model.specs.Objectives.{time_cone, thermal_cone, torque_a, torque_b}
use Rattle.model.specs.Conic.{SecondOrder, squares}
use Rattle.model.specs.Meaning.{one, whole, ◌≼◌, a, xi, torque_slack, BoundsSquares}
use Rattle.model.proofs.Integers.{View, over, under, view, AsDiff, is, as_diff, differences, times_le, sign_law}
use Rattle.model.proofs.Units.{one_above, constants, fourth, units_quarter, fourth_above, four_fourths}
use Rattle.model.proofs.Feasible.{row_slack, slacks, Holds, get_d_list}

-- a square is not negative: 2ab ≤ a² + b²
squares_least : (a b : ℕ) → 2 * (a * b) ≤ a * a + b * b
squares_least a b = go a b (view a b)
  where
    go : (a b : ℕ) → View a b → 2 * (a * b) ≤ a * a + b * b
    go _ _ (over b k) = omega arith
    go _ _ (under a k) = omega arith

-- ---- slacks that have a positive factor in common

abbrev pub scaled : ℕ → List ℤ → List ℤ
scaled u = map (λ x. pos u *ℤ x)

square_law : (u : ℕ) {x s : ℤ} → AsDiff x → AsDiff s → (pos u *ℤ x) *ℤ (pos u *ℤ x) +ℤ pos (u * u) *ℤ s ≡ pos (u * u) *ℤ (x *ℤ x +ℤ s)
square_law u (is _ _) (is _ _) = simp differences (omega arith)

squares_scaled : (u : ℕ) (xs : List ℤ) → squares (scaled u xs) ≡ pos (u * u) *ℤ squares xs
squares_scaled u [] = simp differences (omega arith)
squares_scaled u (x ∷ xs) = ap (λ (y : ℤ). (pos u *ℤ x) *ℤ (pos u *ℤ x) +ℤ y) (squares_scaled u xs) ∙ square_law u (as_diff x) (as_diff (squares xs))

pub second_order_scaled : (u : ℕ) → 0 < u → (t : ℤ) (xs : List ℤ) → SecondOrder (scaled u (t ∷ xs)) ↔ SecondOrder (t ∷ xs)
second_order_scaled u h t xs =
    let sign = sign_law u h (as_diff t) in
    let size = times_le (u * u) (mul-pos h h) (as_diff (squares xs)) (as_diff (t *ℤ t)) in
    let left = squares_scaled u xs in
    let right : (pos u *ℤ t) *ℤ (pos u *ℤ t) ≡ pos (u * u) *ℤ (t *ℤ t) = square_of u (as_diff t) in
    (λ e. (sign.0 e.0, size.0 (subst₂ ◌≼◌ left right e.1)), λ e. (sign.1 e.0, subst₂ ◌≼◌ (sym left) (sym right) (size.1 e.1)))
  where
    square_of : (u : ℕ) {x : ℤ} → AsDiff x → (pos u *ℤ x) *ℤ (pos u *ℤ x) ≡ pos (u * u) *ℤ (x *ℤ x)
    square_of u (is _ _) = simp differences (omega arith)

second_order_of : (u : ℕ) → 0 < u → (xs : List ℤ) (t : ℤ) (ts : List ℤ) → xs ≡ scaled u (t ∷ ts) → SecondOrder xs ↔ SecondOrder (t ∷ ts)
second_order_of u h xs t ts e = subst (λ (l : List ℤ). SecondOrder l ↔ SecondOrder (t ∷ ts)) (sym e) (second_order_scaled u h t ts)

pub list_scaled : (u : ℕ) (f T : ℕ → ℤ) (k c : ℕ) → ((i : ℕ) → i < k + c → f i ≡ pos u *ℤ T i) → list f k c ≡ scaled u (list T k c)
list_scaled u f T k zero h = refl
list_scaled u f T k (suc c) h = ap₂ ◌∷◌ (h k (omega arith)) (list_scaled u f T (suc k) c (λ i a. h i (omega arith)))

-- ---- the rewriting of a product

root_law : (D : ℕ) → 0 < D → {A X : ℤ} → AsDiff A → AsDiff X
    → SecondOrder ((pos D +ℤ pos 4 *ℤ A) ∷ (pos 4 *ℤ A -ℤ pos D) ∷ (pos 4 *ℤ X) ∷ []) ↔ (X *ℤ X) ≤ℤ (A *ℤ pos D)
root_law D d (is a b) (is x y) =
    simp differences (
      (λ h. omega arith),
      λ h. let above : b ≤ a = le_of_mul-le-mul_right {m = b} {n = a} {k = D} (omega (arith, squares_least x y)) d in (omega arith, omega arith),
    )

product_law : (D : ℕ) {X E : ℤ} → AsDiff X → AsDiff E
    → SecondOrder ((X +ℤ E) ∷ (X -ℤ E) ∷ (pos 2 *ℤ pos D) ∷ []) ↔ (pos 0 ≤ℤ (X +ℤ E) × (pos D *ℤ pos D) ≤ℤ (X *ℤ E))
product_law D (is _ _) (is _ _) = simp differences ((λ h. (h.0, omega arith)), λ h. (h.0, omega arith))

thermal_law : (u : ℕ) {t X S : ℤ} → AsDiff t → AsDiff X → AsDiff S
    → (((pos u *ℤ (t -ℤ X)) *ℤ (pos u *ℤ (t -ℤ X)) +ℤ S) ≤ℤ ((pos u *ℤ (t +ℤ X)) *ℤ (pos u *ℤ (t +ℤ X)))) ↔ S ≤ℤ (pos 4 *ℤ (pos u *ℤ t) *ℤ (pos u *ℤ X))
thermal_law u (is _ _) (is _ _) (is _ _) = simp differences ((λ h. omega arith), λ h. omega arith)

product_factor : (u : ℕ) {x y : ℤ} → AsDiff x → AsDiff y → pos 4 *ℤ (pos u *ℤ x) *ℤ (pos u *ℤ y) ≡ pos (u * u) *ℤ (pos 4 *ℤ x *ℤ y)
product_factor u (is _ _) (is _ _) = simp differences (omega arith)

-- ---- the slack of each row, with its factor in front

less_law : (D f c : ℕ) {A : ℤ} → AsDiff A → pos f *ℤ pos D -ℤ (neg_ℤ (pos (c * f)) *ℤ A +ℤ pos 0) ≡ pos f *ℤ (pos D +ℤ pos c *ℤ A)
less_law D f c (is _ _) = simp differences (omega arith)

less_law' : (D f c : ℕ) {A : ℤ} → AsDiff A → neg_ℤ (pos f) *ℤ pos D -ℤ (neg_ℤ (pos (c * f)) *ℤ A +ℤ pos 0) ≡ pos f *ℤ (pos c *ℤ A -ℤ pos D)
less_law' D f c (is _ _) = simp differences (omega arith)

only_law : (D f c : ℕ) {X : ℤ} → AsDiff X → pos 0 *ℤ pos D -ℤ (neg_ℤ (pos (c * f)) *ℤ X +ℤ pos 0) ≡ pos f *ℤ (pos c *ℤ X)
only_law D f c (is _ _) = simp differences (omega arith)

sum_law : (D u : ℕ) {x y : ℤ} → AsDiff x → AsDiff y → pos 0 *ℤ pos D -ℤ (neg_ℤ (pos u) *ℤ x +ℤ (neg_ℤ (pos u) *ℤ y +ℤ pos 0)) ≡ pos u *ℤ (x +ℤ y)
sum_law D u (is _ _) (is _ _) = simp differences (omega arith)

difference_law : (D u : ℕ) {x y : ℤ} → AsDiff x → AsDiff y → pos 0 *ℤ pos D -ℤ (neg_ℤ (pos u) *ℤ x +ℤ (pos u *ℤ y +ℤ pos 0)) ≡ pos u *ℤ (x -ℤ y)
difference_law D u (is _ _) (is _ _) = simp differences (omega arith)

two_law : (D u : ℕ) → pos 2 *ℤ pos u *ℤ pos D -ℤ pos 0 ≡ pos u *ℤ (pos 2 *ℤ pos D)
two_law D u = simp differences (omega arith)

module _ (p : Problem) (D : ℕ) (z : ℕ → ℤ) where
  abbrev q : Path
  q = p.path

  -- ---- the root stage

  root_slacks : (j : ℕ) → let A = a p D z (skip q + j) in slacks D z (root_cone q j).bands ≡ scaled fourth ((pos D +ℤ pos 4 *ℤ A) ∷ (pos 4 *ℤ A -ℤ pos D) ∷ (pos 4 *ℤ xi p D z j) ∷ [])
  unfolding root_cone row_slack
  root_slacks j =
      let A = as_diff (a p D z (skip q + j)) in
      simp (constants, units_quarter, four_fourths) (λ i. less_law D fourth 4 A i ∷ less_law' D fourth 4 A i ∷ only_law D fourth 4 (as_diff (xi p D z j)) i ∷ [])

  -- "A root cone holds exactly if A·D ≥ X² (a = A/D, xi = X/D)."
  pub root_says : 0 < D → (j : ℕ) → Holds D z (root_cone q j) ↔ (xi p D z j *ℤ xi p D z j ≼ a p D z (skip q + j) *ℤ pos D)
  unfolding root_cone
  root_says d j =
      let A = a p D z (skip q + j) in
      Iff.trans (second_order_of fourth fourth_above (slacks D z (root_cone q j).bands) (pos D +ℤ pos 4 *ℤ A) ((pos 4 *ℤ A -ℤ pos D) ∷ (pos 4 *ℤ xi p D z j) ∷ []) (root_slacks j))
      (root_law D d (as_diff A) (as_diff (xi p D z j)))

  -- ---- Time

  time_slacks : (c j : ℕ) → slacks D z (time_cone q c j).bands ≡ scaled one ((xi p D z j +ℤ z (c + j)) ∷ (xi p D z j -ℤ z (c + j)) ∷ (pos 2 *ℤ pos D) ∷ [])
  unfolding time_cone row_slack
  time_slacks c j =
      let X = as_diff (xi p D z j) in
      let E = as_diff (z (c + j)) in
      simp constants (λ i. sum_law D one X E i ∷ difference_law D one X E i ∷ two_law D one i ∷ [])

  -- "A Time cone holds exactly if X + E ≥ 0 and X·E ≥ D² (eta = E/D)."
  pub time_says : (c j : ℕ) → Holds D z (time_cone q c j) ↔ ((pos 0 ≼ xi p D z j +ℤ z (c + j)) × (pos D *ℤ pos D ≼ xi p D z j *ℤ z (c + j)))
  unfolding time_cone
  time_says c j =
      let X = xi p D z j in
      let E = z (c + j) in
      Iff.trans (second_order_of one one_above (slacks D z (time_cone q c j).bands) (X +ℤ E) ((X -ℤ E) ∷ (pos 2 *ℤ pos D) ∷ []) (time_slacks c j)) (product_law D (as_diff X) (as_diff E))

  -- ---- ThermalEnergy, once over the number of torques

  module _ (scales : List Float) (t j k : ℕ) (g : ℕ → Float) where
    abbrev S : ℕ → ℤ
    S = torque_slack p D z scales k g

    abbrev torque_band : Band
    torque_band = band p.torque.d g ((λ i. cell (col_a q k) (torque_a q p.torque scales k i)) ∷ (λ i. cell (col_b q k) (torque_b q p.torque scales k i)) ∷ [])

    torque_row : (i : ℕ) → row_slack D z torque_band i ≡ S i
    unfolding row_slack
    torque_row i = simp +ℤ_idr

    torque_rows : slacks D z (torque_band ∷ []) ≡ list S 0 p.torque.d
    torque_rows = append-nil (list (row_slack D z torque_band) 0 p.torque.d) ∙ ap (λ (f : ℕ → ℤ). list f 0 p.torque.d) (fun_ext torque_row)

    thermal_slacks : slacks D z (thermal_cone q p.torque scales t j k g).bands ≡ whole (z t +ℤ xi p D z j) ∷ whole (z t -ℤ xi p D z j) ∷ list S 0 p.torque.d
    unfolding thermal_cone row_slack
    thermal_slacks =
        let T = as_diff (z t) in
        let X = as_diff (xi p D z j) in
        simp constants (λ i. sum_law D one T X i ∷ difference_law D one T X i ∷ torque_rows i)

    -- these are the slacks of the cone's rows from the third on
    pub torque_slack_lem : (i : ℕ) → i < p.torque.d → get_or (slacks D z (thermal_cone q p.torque scales t j k g).bands) (2 + i) (pos 0) ≡ S i
    torque_slack_lem i h =
        ap (λ (l : List ℤ). get_or l (2 + i) (pos 0)) thermal_slacks
        ∙ get_or-append-add (whole (z t +ℤ xi p D z j) ∷ whole (z t -ℤ xi p D z j) ∷ []) (list S 0 p.torque.d) i (pos 0)
        ∙ get_d_list S 0 p.torque.d i (pos 0) h
        ∙ ap S (zero-add i)

    -- for every point, over the exact slacks
    pub thermal_says : Holds D z (thermal_cone q p.torque scales t j k g) ↔ BoundsSquares p D z scales t j k g
    unfolding thermal_cone
    thermal_says =
        let sign = sign_law one one_above (as_diff (z t +ℤ xi p D z j)) in
        let size = thermal_law one (as_diff (z t)) (as_diff (xi p D z j)) (as_diff (squares (list S 0 p.torque.d))) in
        ((λ h. let e = subst SecondOrder thermal_slacks h in (sign.0 e.0, size.0 e.1)), λ h. subst SecondOrder (sym thermal_slacks) (sign.1 h.0, size.1 h.1))

    -- "A thermal cone whose torque slacks are whole numbers T over D holds exactly if t + X ≥ 0 and 4·t·X is at least the sum of their squares, t again over D"
    pub thermal_whole : (T : ℕ → ℤ) → ((i : ℕ) → i < p.torque.d → S i ≡ whole (T i))
        → Holds D z (thermal_cone q p.torque scales t j k g) ↔ ((pos 0 ≼ z t +ℤ xi p D z j) × (squares (list T 0 p.torque.d) ≼ pos 4 *ℤ z t *ℤ xi p D z j))
    thermal_whole T h =
        let left = ap squares (list_scaled one S T 0 p.torque.d (λ i l. h i (omega arith))) ∙ squares_scaled one (list T 0 p.torque.d) in
        let right = product_factor one (as_diff (z t)) (as_diff (xi p D z j)) in
        let size = times_le (one * one) (mul-pos one_above one_above) (as_diff (squares (list T 0 p.torque.d))) (as_diff (pos 4 *ℤ z t *ℤ xi p D z j)) in
        Iff.trans thermal_says ((λ e. (e.0, size.0 (subst₂ ◌≼◌ left right e.1))), λ e. (e.0, subst₂ ◌≼◌ (sym left) (sym right) (size.1 e.1)))
