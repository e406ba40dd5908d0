-- The equality rows, the first-order rows and the standard block, and what the scans look at. Assumes nothing.
use mathlib.Core.Path.{◌≡◌, refl, sym, ap, ap₂, ◌∙◌}
use mathlib.Core.Bool.{Bool, true, false, ◌&&◌}
use mathlib.Core.List.{[], ◌∷◌, ◌++◌, append-nil}
use Prim.Native.Nat.{ℕ, ◌+◌, ◌-◌}
use native.Mathlib.Nat.{add-zero}
use lib.Dec.{ltb}
use lib.Ieee.{Float, neg, of_bits}
use Rattle.model.specs.Numbers.{finite, at, ◌⊖◌, ◌⊗◌, +1, −1, −2, −1½}
use Rattle.model.specs.Lists.{list, over, given}
use Rattle.model.specs.Problem.{Path, Limits, Acceleration, Jerk, n, m, s, spacing, stop, col_a}
use Rattle.model.specs.Program.{row, cell, positive_row}
use Rattle.model.specs.Standard.{boundary_rows, stationary_row, moving_rows, upper_row, end_rows, interval_rows, equalities, inequalities, first_order, acceleration_rows, jerk_rows_at}
use Rattle.model.specs.declared.Boundary.{Boundary}
use Rattle.model.specs.declared.Bounds.{Bounds}
use Rattle.standard.specs.Block.{standard_cones}
use Rattle.finiteness.specs.Finite.{each, Each, if_test, finite_bands, finite_cones}
use Rattle.finite_standard.specs.Tests.{twice_test}
use Rattle.model.proofs.Values.{finite_neg}
use Rattle.finiteness.proofs.Laws.{and_true, each_same, each_from, finite_append, finite_over, finite_given, each_true, positives}

-- ---- equalities and first-order rows

boundary_scanned : (q : Path) (x : Boundary) → finite_bands (boundary_rows q x) ≡ (finite x.a0 && (finite x.a1 && (finite x.b0 && finite x.b1)))
unfolding boundary_rows of_bits
boundary_scanned q x = go (finite x.a0) (finite x.a1) (finite x.b0) (finite x.b1)
  where
    go : (a b c d : Bool) → ((a && true) && ((b && true) && ((c && true) && ((d && true) && true)))) ≡ (a && (b && (c && d)))
    go false b c d = refl
    go true false c d = refl
    go true true false d = refl
    go true true true false = refl
    go true true true true = refl

stationary_scanned : (q : Path) (k z : ℕ) → finite_bands (stationary_row q k z ∷ []) ≡ finite (−1½ ⊗ (s q k ⊖ s q z))
unfolding stationary_row of_bits
stationary_scanned q k z = go (finite (−1½ ⊗ (s q k ⊖ s q z)))
  where
    go : (a : Bool) → ((((a && true) && true) && true) && true) ≡ a
    go true = refl
    go false = refl

moving_scanned : (q : Path) → finite_bands (moving_rows q ∷ []) ≡ each (λ k. finite (spacing q k)) q.N0 (m q)
unfolding moving_rows of_bits neg
moving_scanned q =
    let z = each_true (λ (i : ℕ). true) 0 (m q) (λ i. refl) in
    let f = each (λ i. finite (spacing q (q.N0 + i))) 0 (m q) in
    (λ j. ((z j && (z j && (f && (f && true)))) && z j) && true)
    ∙ go f ∙ each_from (λ k. finite (spacing q k)) q.N0 0 (m q) ∙ ap (λ (x : ℕ). each (λ k. finite (spacing q k)) x (m q)) (add-zero q.N0)
  where
    go : (a : Bool) → (((a && (a && true)) && true) && true) ≡ a
    go true = refl
    go false = refl

pub equal_scanned : (q : Path) (x : Boundary) {a b c d : Bool} → a ≡ (finite x.a0 && (finite x.a1 && (finite x.b0 && finite x.b1)))
    → b ≡ if_test (ltb 0 q.N0) (finite (−1½ ⊗ (s q q.N0 ⊖ s q 0))) → c ≡ if_test (ltb 0 q.N1) (finite (−1½ ⊗ (s q (stop q) ⊖ s q (n q))))
    → Each d (λ k. finite (spacing q k)) q.N0 (m q) → (((a && b) && c) && d) ≡ finite_bands (equalities q x)
unfolding equalities
equal_scanned q x {a} {b} {c} {d} one two three four =
    let B = boundary_rows q x in
    let S = given (ltb 0 q.N0) (stationary_row q q.N0 0 ∷ []) in
    let T = given (ltb 0 q.N1) (stationary_row q (stop q) (n q) ∷ []) in
    let M = moving_rows q ∷ [] in
    let e1 : a ≡ finite_bands B = one ∙ sym (boundary_scanned q x) in
    let e2 : b ≡ finite_bands S = two ∙ ap (if_test (ltb 0 q.N0)) (sym (stationary_scanned q q.N0 0)) ∙ sym (finite_given (ltb 0 q.N0) (stationary_row q q.N0 0 ∷ [])) in
    let e3 : c ≡ finite_bands T = three ∙ ap (if_test (ltb 0 q.N1)) (sym (stationary_scanned q (stop q) (n q))) ∙ sym (finite_given (ltb 0 q.N1) (stationary_row q (stop q) (n q) ∷ [])) in
    let e4 : d ≡ finite_bands M = four.says ∙ sym (moving_scanned q) in
    ap₂ (λ (u v : Bool). u && v) (ap₂ (λ (u v : Bool). u && v) (ap₂ (λ (u v : Bool). u && v) e1 e2 ∙ sym (finite_append B S)) e3 ∙ sym (finite_append (B ++ S) T)) e4
    ∙ sym (finite_append (B ++ S ++ T) M)

upper_scanned : (q : Path) (k : ℕ) (b : Float) → finite_bands (upper_row q k b) ≡ true
unfolding upper_row of_bits
upper_scanned q k b = go (finite b) refl
  where
    go : (x : Bool) → finite b ≡ x → finite_bands (given x (row b (cell (col_a q k) +1 ∷ []) ∷ [])) ≡ true
    go true e = rw e refl
    go false e = refl

end_rows_lem : (q : Path) (k : ℕ) (b : Bounds) → finite_bands (end_rows q k b) ≡ finite b.minimum
unfolding end_rows of_bits neg
end_rows_lem q k b =
    finite_append (upper_row q k b.maximum) (row (neg b.minimum) (cell (col_a q k) −1 ∷ []) ∷ [])
    ∙ ap₂ (λ (u v : Bool). u && v) (upper_scanned q k b.maximum) (and_true (finite (neg b.minimum) && true) ∙ and_true (finite (neg b.minimum)) ∙ finite_neg b.minimum)

interval_scanned : (q : Path) (k : ℕ) → finite_bands (interval_rows q k) ≡ twice_test (spacing q k)
unfolding interval_rows of_bits neg
interval_scanned q k =
    (λ j. (((finite_neg (spacing q k) j && true) && true) && true) && (((((finite (−2 ⊗ spacing q k) && true) && ((finite_neg (spacing q k) j && true) && true)) && true)) && true))
    ∙ go (finite (spacing q k)) (finite (−2 ⊗ spacing q k))
  where
    go : (h g : Bool) → ((((h && true) && true) && true) && ((((g && true) && ((h && true) && true)) && true) && true)) ≡ (h && g)
    go false g = refl
    go true false = refl
    go true true = refl

pub first_scanned : (q : Path) (l : Limits) {a b d : Bool} → a ≡ if_test (ltb 0 q.N0) (finite l.start.minimum) → b ≡ if_test (ltb 0 q.N1) (finite l.end.minimum)
    → Each d (λ k. twice_test (spacing q k)) q.N0 (m q) → ((a && b) && d) ≡ finite_bands (first_order q l)
unfolding first_order
first_scanned q l {a} {b} {d} one two three =
    let A = given (ltb 0 q.N0) (end_rows q q.N0 l.start) in
    let B = given (ltb 0 q.N1) (end_rows q (stop q) l.end) in
    let P = list (λ k. positive_row (col_a q k)) (q.N0 + 1) (m q - 1) in
    let U = over (λ k. upper_row q k (at l.amax k)) (q.N0 + 1) (m q - 1) in
    let I = over (interval_rows q) q.N0 (m q) in
    let e1 : a ≡ finite_bands A = one ∙ ap (if_test (ltb 0 q.N0)) (sym (end_rows_lem q q.N0 l.start)) ∙ sym (finite_given (ltb 0 q.N0) (end_rows q q.N0 l.start)) in
    let e2 : b ≡ finite_bands B = two ∙ ap (if_test (ltb 0 q.N1)) (sym (end_rows_lem q (stop q) l.end)) ∙ sym (finite_given (ltb 0 q.N1) (end_rows q (stop q) l.end)) in
    let e3 : true ≡ finite_bands P = sym (positives (λ k. col_a q k) (q.N0 + 1) (m q - 1)) in
    let e4 : true ≡ finite_bands U = sym (finite_over (λ k. upper_row q k (at l.amax k)) (q.N0 + 1) (m q - 1) ∙ each_true (λ k. finite_bands (upper_row q k (at l.amax k))) (q.N0 + 1) (m q - 1) (λ k. upper_scanned q k (at l.amax k))) in
    let e5 : d ≡ finite_bands I =
    three.says ∙ each_same (λ k. twice_test (spacing q k)) (λ k. finite_bands (interval_rows q k)) q.N0 (m q) (λ k. sym (interval_scanned q k)) ∙ sym (finite_over (interval_rows q) q.N0 (m q)) in
    ap (λ (x : Bool). x && d) (sym (and_true (a && b)) ∙ ap (λ (x : Bool). x && true) (sym (and_true (a && b))))
    ∙ ap₂ (λ (u v : Bool). u && v)
    (ap₂ (λ (u v : Bool). u && v) (ap₂ (λ (u v : Bool). u && v) (ap₂ (λ (u v : Bool). u && v) e1 e2 ∙ sym (finite_append A B)) e3 ∙ sym (finite_append (A ++ B) P)) e4 ∙ sym (finite_append (A ++ B ++ P) U)) e5
    ∙ sym (finite_append (A ++ B ++ P ++ U) I)

-- ---- the standard rows

pub standard_scanned : (q : Path) (x : Boundary) (l : Limits) (a : Acceleration) (j : Jerk) {e f g h : Bool} → e ≡ finite_bands (equalities q x) → f ≡ finite_bands (first_order q l)
    → g ≡ finite_bands (list (acceleration_rows q a) (q.N0 + 1) (m q - 1)) → h ≡ finite_bands (over (jerk_rows_at q j) q.N0 (m q + 1))
    → (e && ((f && g) && h)) ≡ finite_cones (standard_cones q x l a j)
unfolding inequalities
standard_scanned q x l a j {e} {f} {g} {h} one two three four =
    let F = first_order q l in
    let G = list (acceleration_rows q a) (q.N0 + 1) (m q - 1) in
    let H = over (jerk_rows_at q j) q.N0 (m q + 1) in
    let E = equalities q x in
    ap₂ (λ (u v : Bool). u && v) one
    (ap₂ (λ (u v : Bool). u && v) (ap₂ (λ (u v : Bool). u && v) two three ∙ sym (finite_append F G)) four ∙ sym (finite_append (F ++ G) H) ∙ ap finite_bands (sym (append-nil (F ++ G ++ H))))
    ∙ sym (finite_append E (F ++ G ++ H ++ []))
