-- What each standard row says, in the words of specs/Meaning.antt. The bands are those that the contracts cite.
use Prim.Native.Nat.{ℕ, ◌+◌, ◌-◌, ◌<◌}
use native.Mathlib.Omega.{arith}
use mathlib.Core.Path.{◌≡◌, refl}
use mathlib.Core.Logic.Iff
use mathlib.Core.Logic.{◌↔◌}
use mathlib.Core.Bool.{true}
use mathlib.Core.List.{[], ◌∷◌}
use lib.ListN.{get_or, take}
use lib.IntN.{ℤ, pos, neg_ℤ, ◌+ℤ◌, ◌-ℤ◌, ◌*ℤ◌}
use lib.Signed.{◌≤ℤ◌}
use lib.Ieee.{Float, binary64, neg}
use lib.Ieee.Fits.{sub-fits}
use Rattle.model.specs.Numbers.{at, finite, ◌⊕◌, ◌⊖◌, ◌⊗◌, ◌⊘◌, +1, −1, −2, −1½}
use Rattle.model.specs.Lists.{total}
use Rattle.model.specs.Problem.{Problem, Path, n, m, s, spacing, col_a}
use Rattle.model.specs.Program.{positive_row, row, cell}
use Rattle.model.specs.Standard.{boundary_rows, stationary_row, moving_rows, upper_row, end_rows, interval_rows, acceleration_rows, backward_rows, forward_rows}
use Rattle.model.specs.declared.Bounds.{Bounds}
use Rattle.model.specs.Conic.{units}
use Rattle.model.specs.Meaning.{one, whole, ◌·◌, ◌≼◌, Is, AtMost, AtLeast, a, b, Within, Interval}
use Rattle.model.proofs.Integers.{AsDiff, is, as_diff, differences, sign_law}
use Rattle.model.proofs.Units.{one_above, constants}
use Rattle.model.proofs.Values.{twice_exact}
use Rattle.model.proofs.Feasible.{row_slack}
use Rattle.model.proofs.Each.{Zeros, Nonnegatives, zeros_cone, nonnegatives_cone, each_append, each_given, each_row, each_single}

-- ---- a slack, and what it says

equal_law : {x y : ℤ} → AsDiff x → AsDiff y → (x -ℤ (y +ℤ pos 0) ≡ pos 0) ↔ (y ≡ x)
equal_law (is _ _) (is _ _) = simp differences (omega arith)

most_law : {x y : ℤ} → AsDiff x → AsDiff y → pos 0 ≤ℤ (x -ℤ (y +ℤ pos 0)) ↔ y ≤ℤ x
most_law (is _ _) (is _ _) = simp differences (omega arith)

least_law : (D : ℕ) {x y u : ℤ} → AsDiff x → AsDiff y → AsDiff u → pos 0 ≤ℤ (neg_ℤ x *ℤ pos D -ℤ (neg_ℤ u *ℤ y +ℤ pos 0)) ↔ (x *ℤ pos D) ≤ℤ (u *ℤ y)
least_law D (is _ _) (is _ _) (is _ _) = simp differences (omega arith)

opposite_law : (D u : ℕ) {x : ℤ} → AsDiff x → pos 0 *ℤ pos D -ℤ (neg_ℤ (pos u) *ℤ x +ℤ pos 0) ≡ pos u *ℤ x
opposite_law D u (is _ _) = simp differences (omega arith)

stationary_law : (D : ℕ) {x y : ℤ} → AsDiff x → AsDiff y → (pos 0 *ℤ pos D -ℤ (x +ℤ (y +ℤ pos 0)) ≡ pos 0) ↔ (x +ℤ y ≡ pos 0)
stationary_law D (is _ _) (is _ _) = simp differences (omega arith)

moving_law : (D : ℕ) {u h a a' b b' : ℤ} → AsDiff u → AsDiff h → AsDiff a → AsDiff a' → AsDiff b → AsDiff b'
    → (pos 0 *ℤ pos D -ℤ (u *ℤ a +ℤ (neg_ℤ u *ℤ a' +ℤ (h *ℤ b +ℤ (h *ℤ b' +ℤ pos 0)))) ≡ pos 0) ↔ (u *ℤ (a -ℤ a') +ℤ h *ℤ (b +ℤ b') ≡ pos 0)
moving_law D (is _ _) (is _ _) (is _ _) (is _ _) (is _ _) (is _ _) = simp differences (omega arith)

interval_law : (D : ℕ) {u a b h : ℤ} → AsDiff u → AsDiff a → AsDiff b → AsDiff h
    → pos 0 ≤ℤ (pos 0 *ℤ pos D -ℤ (neg_ℤ (pos 2 *ℤ u) *ℤ a +ℤ (neg_ℤ h *ℤ b +ℤ pos 0))) ↔ pos 0 ≤ℤ (pos 2 *ℤ (u *ℤ a) +ℤ h *ℤ b)
interval_law D (is _ _) (is _ _) (is _ _) (is _ _) = simp differences (omega arith)

interval_law' : (D : ℕ) {u a b h b' : ℤ} → AsDiff u → AsDiff a → AsDiff b → AsDiff h → AsDiff b'
    → pos 0 ≤ℤ (pos 0 *ℤ pos D -ℤ (neg_ℤ (pos 2 *ℤ u) *ℤ a +ℤ (neg_ℤ (pos 2 *ℤ h) *ℤ b +ℤ (neg_ℤ h *ℤ b' +ℤ pos 0))))
    ↔ pos 0 ≤ℤ (pos 2 *ℤ (u *ℤ a) +ℤ pos 2 *ℤ (h *ℤ b) +ℤ h *ℤ b')
interval_law' D (is _ _) (is _ _) (is _ _) (is _ _) (is _ _) = simp differences (omega arith)

two_cells : {m x y : ℤ} → AsDiff m → AsDiff x → AsDiff y → pos 0 ≤ℤ (m -ℤ (x +ℤ (y +ℤ pos 0))) ↔ (x +ℤ y) ≤ℤ m
two_cells (is _ _) (is _ _) (is _ _) = simp differences (omega arith)

three_cells : {m x y w : ℤ} → AsDiff m → AsDiff x → AsDiff y → AsDiff w → pos 0 ≤ℤ (m -ℤ (x +ℤ (y +ℤ (w +ℤ pos 0)))) ↔ (x +ℤ y +ℤ w) ≤ℤ m
three_cells (is _ _) (is _ _) (is _ _) (is _ _) = simp differences (omega arith)

-- of each of c rows
each_says : {P Q : ℕ → Type 0} (c : ℕ) → ((i : ℕ) → P i ↔ Q i) → ((i : ℕ) → i < c → P i) ↔ ((i : ℕ) → i < c → Q i)
each_says c e = ((λ h i l. (e i).0 (h i l)), λ h i l. (e i).1 (h i l))

-- ---- a column with 1: it is the right side, or at most the right side; with −1: it is at least the number whose negation is the right side

module _ (D : ℕ) (z : ℕ → ℤ) where
  equal_says : (c : ℕ) (x : Float) → (row_slack D z (row x (cell c +1 ∷ [])) 0 ≡ pos 0) ↔ Is D (z c) x
  unfolding row_slack
  equal_says c x = simp constants (equal_law (as_diff (x · pos D)) (as_diff (whole (z c))))

  most_says : (c : ℕ) (x : Float) → pos 0 ≤ℤ row_slack D z (row x (cell c +1 ∷ [])) 0 ↔ AtMost D (z c) x
  unfolding row_slack
  most_says c x = simp constants (most_law (as_diff (x · pos D)) (as_diff (whole (z c))))

  least_says : (c : ℕ) (x : Float) → pos 0 ≤ℤ row_slack D z (row (neg x) (cell c −1 ∷ [])) 0 ↔ AtLeast D (z c) x
  unfolding row_slack
  least_says c x = simp constants (least_law D (as_diff (units x)) (as_diff (z c)) (as_diff (pos one)))

  -- "rows −a ≤ 0": the column is not negative
  pub positive_says : (c : ℕ) → Nonnegatives D z (positive_row c ∷ []) ↔ (pos 0 ≼ z c)
  unfolding positive_row row_slack
  positive_says c = Iff.trans (each_single D z _ (row _ (cell c −1 ∷ [])) refl) slack_says
    where
      slack_says : pos 0 ≤ℤ row_slack D z (positive_row c) 0 ↔ (pos 0 ≼ z c)
      slack_says = simp (constants, opposite_law D one (as_diff (z c))) (sign_law one one_above (as_diff (z c)))

module _ (p : Problem) (D : ℕ) (z : ℕ → ℤ) where
  abbrev q : Path
  q = p.path

  -- ---- module 2

  pub boundary_says : Zeros D z (boundary_rows q p.boundary)
      ↔ (Is D (a p D z 0) p.boundary.a0 × (Is D (a p D z (n q)) p.boundary.a1 × (Is D (b p D z 0) p.boundary.b0 × Is D (b p D z (n q)) p.boundary.b1)))
  unfolding boundary_rows
  boundary_says = Iff.trans (zeros_cone D z (boundary_rows q p.boundary)) (simp (equal_says D z) ((λ h. (h.0, (h.1.0, (h.1.1.0, h.1.1.1.0)))), λ h. (h.0, (h.1.0, (h.1.1.0, (h.1.1.1, tt))))))

  pub stationary_says : (e o : ℕ) → Zeros D z (stationary_row q e o ∷ []) ↔ (whole (a p D z e) +ℤ (−1½ ⊗ (s q e ⊖ s q o)) · b p D z e ≡ pos 0)
  unfolding stationary_row row_slack
  stationary_says e o = Iff.trans (each_single D z _ (stationary_row q e o) refl) slack_says
    where
      slack_says : (row_slack D z (stationary_row q e o) 0 ≡ pos 0) ↔ (whole (a p D z e) +ℤ (−1½ ⊗ (s q e ⊖ s q o)) · b p D z e ≡ pos 0)
      slack_says = simp constants (stationary_law D (as_diff (whole (a p D z e))) (as_diff ((−1½ ⊗ (s q e ⊖ s q o)) · b p D z e)))

  pub moving_says : Zeros D z (moving_rows q ∷ [])
      ↔ ((i : ℕ) → i < m q → let k = q.N0 + i in whole (a p D z k -ℤ a p D z (k + 1)) +ℤ spacing q k · (b p D z k +ℤ b p D z (k + 1)) ≡ pos 0)
  unfolding moving_rows row_slack
  moving_says = Iff.trans (each_row D z _ (moving_rows q)) (each_says (m q) slack_says)
    where
      slack_says : (i : ℕ) → let k = q.N0 + i in
          (row_slack D z (moving_rows q) i ≡ pos 0) ↔ (whole (a p D z k -ℤ a p D z (k + 1)) +ℤ spacing q k · (b p D z k +ℤ b p D z (k + 1)) ≡ pos 0)
      slack_says i =
          let k = q.N0 + i in
          simp constants (moving_law D (as_diff (pos one)) (as_diff (units (spacing q k))) (as_diff (a p D z k)) (as_diff (a p D z (k + 1))) (as_diff (b p D z k)) (as_diff (b p D z (k + 1))))

  -- ---- modules 3 and 4

  pub upper_says : (k : ℕ) (x : Float) → Nonnegatives D z (upper_row q k x) ↔ (finite x ≡ true → AtMost D (a p D z k) x)
  unfolding upper_row
  upper_says k x =
      let b = row x (cell (col_a q k) +1 ∷ []) in
      let g = each_given D z _ (finite x) (b ∷ []) in
      let r = Iff.trans (each_single D z _ b refl) (most_says D z (col_a q k) x) in
      ((λ h e. r.0 (g.0 h e)), λ h. g.1 (λ e. r.1 (h e)))

  pub end_says : (e : ℕ) (x : Bounds) → Nonnegatives D z (end_rows q e x) ↔ Within p D z e x
  unfolding end_rows
  end_says e x =
      let lower = row (neg x.minimum) (cell (col_a q e) −1 ∷ []) in
      let both = each_append D z _ (upper_row q e x.maximum) (lower ∷ []) in
      let most = upper_says e x.maximum in
      let least = Iff.trans (each_single D z _ lower refl) (least_says D z (col_a q e) x.minimum) in
      ((λ h. (most.0 (both.0 h).0, least.0 (both.0 h).1)), λ h. both.1 (most.1 h.0, least.1 h.1))

  -- −2·h is exact wherever it is finite
  pub interval_says : (k : ℕ) → finite (−2 ⊗ spacing q k) ≡ true → Nonnegatives D z (interval_rows q k) ↔ Interval p D z k
  unfolding interval_rows row_slack
  interval_says k ok =
      let U = as_diff (pos one) in
      let A = as_diff (a p D z k) in
      let B = as_diff (b p D z k) in
      let H = as_diff (units (spacing q k)) in
      let first = interval_law D U A B H in
      let second = interval_law' D U A B H (as_diff (b p D z (k + 1))) in
      Iff.trans (nonnegatives_cone D z (interval_rows q k)) (simp (constants, twice_exact (spacing q k) (sub-fits binary64 (s q (k + 1)) (s q k)) ok)
      ((λ h. (first.0 h.0, second.0 h.1.0)), λ h. (first.1 h.0, (second.1 h.1, tt))))

  pub acceleration_says : (k : ℕ) → Nonnegatives D z (acceleration_rows q p.acc k ∷ [])
      ↔ ((i : ℕ) → i < get_or p.acc.counts k 0 → let o = total (take k p.acc.counts) + i in
      at p.acc.a o · a p D z k +ℤ at p.acc.b o · b p D z k ≼ at p.acc.max o · pos D)
  unfolding acceleration_rows row_slack
  acceleration_says k = Iff.trans (each_row D z _ (acceleration_rows q p.acc k)) (each_says (get_or p.acc.counts k 0) slack_says)
    where
      slack_says : (i : ℕ) → let o = total (take k p.acc.counts) + i in
          pos 0 ≤ℤ row_slack D z (acceleration_rows q p.acc k) i ↔ (at p.acc.a o · a p D z k +ℤ at p.acc.b o · b p D z k ≼ at p.acc.max o · pos D)
      slack_says i =
          let o = total (take k p.acc.counts) + i in
          two_cells (as_diff (at p.acc.max o · pos D)) (as_diff (at p.acc.a o · a p D z k)) (as_diff (at p.acc.b o · b p D z k))

  pub backward_says : (k : ℕ) → Nonnegatives D z (backward_rows q p.jerk k ∷ [])
      ↔ ((i : ℕ) → i < get_or p.jerk.counts k 0 → let o = total (take k p.jerk.counts) + i in let r = +1 ⊘ spacing q (k - 1) in
      at p.jerk.a o · a p D z k +ℤ (neg (at p.jerk.c o) ⊗ r) · b p D z (k - 1) +ℤ (at p.jerk.b o ⊕ at p.jerk.c o ⊗ r) · b p D z k ≼ at p.jerk.max o · pos D)
  unfolding backward_rows row_slack
  backward_says k =
      Iff.trans (each_row D z _ (backward_rows q p.jerk k)) (each_says (get_or p.jerk.counts k 0) (λ i.
      let o = total (take k p.jerk.counts) + i in
      let r = +1 ⊘ spacing q (k - 1) in
      three_cells (as_diff (at p.jerk.max o · pos D)) (as_diff (at p.jerk.a o · a p D z k)) (as_diff ((neg (at p.jerk.c o) ⊗ r) · b p D z (k - 1)))
      (as_diff ((at p.jerk.b o ⊕ at p.jerk.c o ⊗ r) · b p D z k))))

  pub forward_says : (k : ℕ) → Nonnegatives D z (forward_rows q p.jerk k ∷ [])
      ↔ ((i : ℕ) → i < get_or p.jerk.counts k 0 → let o = total (take k p.jerk.counts) + i in let r = +1 ⊘ spacing q k in
      at p.jerk.a o · a p D z k +ℤ (at p.jerk.b o ⊖ at p.jerk.c o ⊗ r) · b p D z k +ℤ (at p.jerk.c o ⊗ r) · b p D z (k + 1) ≼ at p.jerk.max o · pos D)
  unfolding forward_rows row_slack
  forward_says k =
      Iff.trans (each_row D z _ (forward_rows q p.jerk k)) (each_says (get_or p.jerk.counts k 0) (λ i.
      let o = total (take k p.jerk.counts) + i in
      let r = +1 ⊘ spacing q k in
      three_cells (as_diff (at p.jerk.max o · pos D)) (as_diff (at p.jerk.a o · a p D z k)) (as_diff ((at p.jerk.b o ⊖ at p.jerk.c o ⊗ r) · b p D z k))
      (as_diff ((at p.jerk.c o ⊗ r) · b p D z (k + 1)))))
