-- A point is one point however it is written: (D, z) and (k·D, k·z) are feasible alike, and have one cost.
use Prim.Native.Nat.{ℕ, zero, suc, ◌+◌, ◌*◌, ◌<◌}
use native.Mathlib.Nat.{mul-pos, eq_of_mul-eq-mul_right}
use native.Mathlib.Omega.{arith}
use mathlib.Core.Path.{◌≡◌, sym, ap, ◌∙◌}
use mathlib.Core.Logic.{◌↔◌}
use mathlib.Core.Bool.{Bool, true, false, cond}
use mathlib.Core.List.{List, [], ◌∷◌}
use lib.ListN.{length}
use lib.Dec.{eqb}
use lib.IntN.{ℤ, pos, ◌+ℤ◌, ◌-ℤ◌, ◌*ℤ◌, +ℤ_idl, *ℤ-zero}
use lib.Ieee.{Float}
use Rattle.model.specs.Numbers.{at}
use Rattle.model.specs.Lists.{list}
use Rattle.model.specs.Problem.{Problem, col_a, col_b}
use Rattle.model.specs.Program.{Entry}
use Rattle.model.specs.Objectives.{torque_a, torque_b}
use Rattle.model.specs.Assembled.{entries, right_side, cost, cone_kinds, cone_dimensions}
use Rattle.model.specs.Conic.{units, times, slack, InCone, InProduct, Feasible, cost_at}
use Rattle.model.proofs.Integers.{AsDiff, is, as_diff, differences, sign_law, times_sum, times_past}
use Rattle.model.proofs.SumTo.{sum_to_ext, sum_to_times}
use Rattle.model.specs.Meaning.{one, whole, torque_slack}
use Rattle.model.proofs.All.{All}
use Rattle.model.proofs.Each.{IsZero, IsNonnegative, zero_all, nonnegative_all}
use Rattle.model.proofs.Cones.{scaled, second_order_scaled, list_scaled}

-- the point with all its numbers k times as large
abbrev pub scale : ℕ → (ℕ → ℤ) → ℕ → ℤ
scale k z c = pos k *ℤ z c

slack_law : (k D : ℕ) {v x : ℤ} → AsDiff v → AsDiff x → v *ℤ pos (k * D) -ℤ pos k *ℤ x ≡ pos k *ℤ (v *ℤ pos D -ℤ x)
slack_law k D (is _ _) (is _ _) = simp differences (omega arith)

pub zero_law : (k : ℕ) → 0 < k → {x : ℤ} → AsDiff x → (pos k *ℤ x ≡ pos 0) ↔ (x ≡ pos 0)
zero_law k h (is a b) =
    simp differences ((λ e. omega (arith, eq_of_mul-eq-mul_right k h a b (omega arith))), λ e. let q : a ≡ b = omega arith in omega (arith, ap (λ (x : ℕ). k * x) q))

module _ (k : ℕ) where
  -- a coefficient times a column, and a rest
  cell_scaled : (v x y : ℤ) → v *ℤ (pos k *ℤ x) +ℤ pos k *ℤ y ≡ pos k *ℤ (v *ℤ x +ℤ y)
  cell_scaled v x y = ap (λ (w : ℤ). w +ℤ pos k *ℤ y) (times_past (as_diff (pos k)) (as_diff v) (as_diff x)) ∙ times_sum (as_diff (pos k)) (as_diff (v *ℤ x)) (as_diff y)

  times_scaled : (z : ℕ → ℤ) (es : List Entry) (r : ℕ) → times (scale k z) es r ≡ pos k *ℤ times z es r
  times_scaled z [] r = sym (*ℤ-zero (pos k))
  times_scaled z (e ∷ es) r = ap (λ (y : ℤ). cond (eqb e.row r) (units e.value *ℤ (pos k *ℤ z e.column)) (pos 0) +ℤ y) (times_scaled z es r) ∙ go (eqb e.row r)
    where
      go : (t : Bool) → cond t (units e.value *ℤ (pos k *ℤ z e.column)) (pos 0) +ℤ pos k *ℤ times z es r ≡ pos k *ℤ (cond t (units e.value *ℤ z e.column) (pos 0) +ℤ times z es r)
      go true = cell_scaled (units e.value) (z e.column) (times z es r)
      go false = +ℤ_idl (pos k *ℤ times z es r) ∙ ap (λ (y : ℤ). pos k *ℤ y) (sym (+ℤ_idl (times z es r)))

  slack_scaled : (D : ℕ) (z : ℕ → ℤ) (es : List Entry) (right : List Float) (r : ℕ) → slack (k * D) (scale k z) es right r ≡ pos k *ℤ slack D z es right r
  unfolding slack
  slack_scaled D z es right r = ap (λ (y : ℤ). units (at right r) *ℤ pos (k * D) -ℤ y) (times_scaled z es r) ∙ slack_law k D (as_diff (units (at right r))) (as_diff (times z es r))

  module _ (above : 0 < k) where
    all_scaled : (P : ℤ → Type 0) → ((x : ℤ) → P (pos k *ℤ x) ↔ P x) → (xs : List ℤ) → All P (scaled k xs) ↔ All P xs
    all_scaled P e [] = ((λ h. h), λ h. h)
    all_scaled P e (x ∷ xs) = let r = all_scaled P e xs in ((λ h. ((e x).0 h.0, r.0 h.1)), λ h. ((e x).1 h.0, r.1 h.1))

    -- a cone that asks the same of every slack
    alike : {P : ℤ → Type 0} {Q : List ℤ → Type 0} → ((l : List ℤ) → All P l ↔ Q l) → ((x : ℤ) → P (pos k *ℤ x) ↔ P x) → (xs : List ℤ) → Q (scaled k xs) ↔ Q xs
    alike {P} a e xs = let r = all_scaled P e xs in ((λ h. (a xs).0 (r.0 ((a (scaled k xs)).1 h))), λ h. (a (scaled k xs)).0 (r.1 ((a xs).1 h)))

    cone_scaled : (kind : ℕ) (xs : List ℤ) → InCone kind (scaled k xs) ↔ InCone kind xs
    cone_scaled zero xs = alike {P = IsZero} zero_all (λ x. zero_law k above (as_diff x)) xs
    cone_scaled (suc zero) xs = alike {P = IsNonnegative} nonnegative_all (λ x. sign_law k above (as_diff x)) xs
    cone_scaled (suc (suc zero)) [] = ((λ h. h), λ h. h)
    cone_scaled (suc (suc zero)) (t ∷ xs) = second_order_scaled k above t xs
    cone_scaled (suc (suc (suc kind))) xs = ((λ h. h), λ h. h)

    product_scaled : (kinds dims : List ℕ) (s s' : ℕ → ℤ) (r : ℕ) → ((i : ℕ) → s' i ≡ pos k *ℤ s i) → InProduct kinds dims s' r ↔ InProduct kinds dims s r
    product_scaled [] [] s s' r e = ((λ h. h), λ h. h)
    product_scaled [] (d ∷ dims) s s' r e = ((λ h. h), λ h. h)
    product_scaled (n ∷ kinds) [] s s' r e = ((λ h. h), λ h. h)
    product_scaled (n ∷ kinds) (d ∷ dims) s s' r e =
        let first = rw (← list_scaled k s' s r d (λ i l. e i)) at (cone_scaled n (list s r d)) in
        let rest = product_scaled kinds dims s s' (r + d) e in
        ((λ h. (first.0 h.0, rest.0 h.1)), λ h. (first.1 h.0, rest.1 h.1))

    -- the scaling law
    pub feasible_scaled : (p : Problem) (D : ℕ) (z : ℕ → ℤ) → Feasible p (k * D) (scale k z) ↔ Feasible p D z
    unfolding Feasible
    feasible_scaled p D z =
        let e = product_scaled (cone_kinds p) (cone_dimensions p) (slack D z (entries p) (right_side p)) (slack (k * D) (scale k z) (entries p) (right_side p)) 0 (slack_scaled D z (entries p) (right_side p)) in
        ((λ h. (first_pos D h.0, e.0 h.1)), λ h. (mul-pos above h.0, e.1 h.1))
      where
        first_pos : (D : ℕ) → 0 < k * D → 0 < D
        first_pos zero h = absurd (omega arith)
        first_pos (suc D) h = omega arith

  -- the cost is k times as large over k·D
  pub cost_scaled : (p : Problem) (z : ℕ → ℤ) → cost_at p (scale k z) ≡ pos k *ℤ cost_at p z
  unfolding cost_at
  cost_scaled p z = sum_to_ext _ _ (length (cost p)) (λ c l. times_past (as_diff (pos k)) (as_diff (units (at (cost p) c))) (as_diff (z c))) ∙ sum_to_times (pos k) _ (length (cost p))

-- over one·D every torque slack is a whole number, so that `thermal_whole` (proofs/Cones.antt) covers any point
pub whole_slack : (p : Problem) (D : ℕ) (z : ℕ → ℤ) (scales : List Float) (k : ℕ) (g : ℕ → Float) (i : ℕ)
    → torque_slack p (one * D) (scale one z) scales k g i ≡ whole (torque_slack p D z scales k g i)
whole_slack p D z scales k g i =
    let A = units (torque_a p.path p.torque scales k i) in
    let B = units (torque_b p.path p.torque scales k i) in
    let X = z (col_a p.path k) in
    let Y = z (col_b p.path k) in
    let parts = ap (λ (w : ℤ). A *ℤ (pos one *ℤ X) +ℤ w) (times_past (as_diff (pos one)) (as_diff B) (as_diff Y)) ∙ cell_scaled one A X (B *ℤ Y) in
    ap (λ (w : ℤ). units (g i) *ℤ pos (one * D) -ℤ w) parts ∙ slack_law one D (as_diff (units (g i))) (as_diff (A *ℤ X +ℤ B *ℤ Y))
