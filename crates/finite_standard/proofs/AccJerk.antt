-- The stages' bands, and what the scans look at. Assumes nothing.
use mathlib.Core.Path.{◌≡◌, refl, sym, ap, ap₂, ◌∙◌}
use mathlib.Core.Bool.{Bool, true, false, ◌&&◌, ◌||◌}
use mathlib.Core.List.{List, [], ◌∷◌, ◌++◌}
use Prim.Native.Nat.{ℕ, zero, suc, ◌+◌, ◌-◌, ◌≤◌, ◌<◌}
use native.Mathlib.Nat.{add-zero, add-suc, suc-add}
use native.Mathlib.Numerals.{add-one}
use native.Mathlib.Omega.{arith}
use lib.Dec.{ltb}
use lib.Ieee.{neg}
use lib.ListN.{length, get_or, take}
use borrow.Author.Tests.{ltb-false}
use Rattle.model.specs.Numbers.{finite, at, ◌⊕◌, ◌⊖◌, ◌⊗◌, ◌⊘◌, +1}
use Rattle.model.specs.Lists.{list, over, given, total}
use Rattle.model.specs.Problem.{Path, Acceleration, Jerk, spacing, stop, n}
use Rattle.model.specs.Program.{Band}
use Rattle.model.specs.Standard.{acceleration_rows, backward_rows, forward_rows, jerk_rows_at}
use Rattle.acc_jerk.proofs.Sums.{before_next, before_rises}
use Rattle.finiteness.specs.Finite.{each, Each, if_test, finite_band, finite_bands}
use Rattle.finite_standard.specs.Tests.{acc_test, pair_test, back_test, ahead_test, back_at, ahead_at}
use Rattle.finiteness.proofs.Floats.{product_neg, sum_tells, difference_tells}
use Rattle.finiteness.proofs.Laws.{each_same, and_true, each_and, each_append, each_from, finite_list, finite_over}

-- ---- flags in the order of the scan

three : (a b h : Bool) → ((a && (b && true)) && h) ≡ (a && (b && h))
three false b h = refl
three true false h = refl
three true true h = refl

four : (a u v h : Bool) → ((a && (u && (v && true))) && h) ≡ ((a && h) && (u && v))
four false u v h = refl
four true u v false = all u v where
  all : (u v : Bool) → ((u && (v && true)) && false) ≡ false
  all false v = refl
  all true false = refl
  all true true = refl
four true false v true = refl
four true true false true = refl
four true true true true = refl

-- one of two groups, or both
groups : (x y : Bool) (f g : Band) (s u v : Bool) → (x || y) ≡ true → finite_band f ≡ (s && u) → finite_band g ≡ (s && v)
    → finite_bands (given x (f ∷ []) ++ given y (g ∷ [])) ≡ (s && (if_test x u && if_test y v))
groups true true f g s u v h a b = rw (a, b) (go s u v) where
  go : (s u v : Bool) → ((s && u) && ((s && v) && true)) ≡ (s && (u && v))
  go false u v = refl
  go true false v = refl
  go true true false = refl
  go true true true = refl
groups true false f g s u v h a b = rw a (go s u) where
  go : (s u : Bool) → ((s && u) && true) ≡ (s && (u && true))
  go false u = refl
  go true u = refl
groups false true f g s u v h a b = rw b (and_true (s && v))
groups false false f g s u v h a b = cc

-- ---- acceleration

module _ (q : Path) (t : Acceleration) where
  acc_one : (k : ℕ) → finite_band (acceleration_rows q t k) ≡ each (acc_test t.a t.b t.max) (total (take k t.counts)) (get_or t.counts k 0)
  unfolding acceleration_rows
  acc_one k =
      let o = total (take k t.counts) in
      let h = get_or t.counts k 0 in
      three (each (λ i. finite (at t.a (o + i))) 0 h) (each (λ i. finite (at t.b (o + i))) 0 h) (each (λ i. finite (at t.max (o + i))) 0 h)
      ∙ ap (λ (x : Bool). each (λ i. finite (at t.a (o + i))) 0 h && x) (sym (each_and (λ i. finite (at t.b (o + i))) (λ i. finite (at t.max (o + i))) 0 h))
      ∙ sym (each_and (λ i. finite (at t.a (o + i))) (λ i. finite (at t.b (o + i)) && finite (at t.max (o + i))) 0 h)
      ∙ each_from (acc_test t.a t.b t.max) o 0 h
      ∙ ap (λ (x : ℕ). each (acc_test t.a t.b t.max) x h) (add-zero o)

  acc_rows_lem : (k c x : ℕ) → k + c ≤ length t.counts → total (take k t.counts) + x ≡ total (take (k + c) t.counts)
      → each (λ i. finite_band (acceleration_rows q t i)) k c ≡ each (acc_test t.a t.b t.max) (total (take k t.counts)) x
  acc_rows_lem k zero x l e = let z : x ≡ 0 = omega (arith, e ∙ ap (λ (j : ℕ). total (take j t.counts)) (add-zero k)) in rw z refl
  acc_rows_lem k (suc c) x l e =
      let cs = t.counts in
      let f = acc_test t.a t.b t.max in
      let h = get_or cs k 0 in
      let next : total (take (suc k) cs) ≡ total (take k cs) + h = ap (λ (j : ℕ). total (take j cs)) (sym (add-one k)) ∙ before_next cs k (omega arith) in
      let far : total (take (suc k + c) cs) ≡ total (take (k + suc c) cs) = ap (λ (j : ℕ). total (take j cs)) (suc-add k c ∙ sym (add-suc k c)) in
      let y = total (take (suc k + c) cs) - total (take (suc k) cs) in
      let up : total (take (suc k) cs) ≤ total (take (suc k + c) cs) = before_rises cs (suc k) c in
      let split : x ≡ h + y = omega arith in
      let rest = acc_rows_lem (suc k) c y (omega arith) (omega arith) in
      ap₂ (λ (a b : Bool). a && b) (acc_one k) (rest ∙ ap (λ (j : ℕ). each f j y) next)
      ∙ sym (each_append f (total (take k cs)) h y)
      ∙ ap (each f (total (take k cs))) (sym split)

  pub acc_scanned : (k c : ℕ) {a b : ℕ} {r : Bool} → a ≡ total (take k t.counts) → b ≡ total (take (k + c) t.counts) → k + c ≤ length t.counts
      → Each r (acc_test t.a t.b t.max) a (b - a) → r ≡ finite_bands (list (acceleration_rows q t) k c)
  acc_scanned k c {a} {b} f g l p =
      let up = before_rises t.counts k c in
      p.says
      ∙ ap (λ (j : ℕ). each (acc_test t.a t.b t.max) j (b - a)) f
      ∙ sym (acc_rows_lem k c (b - a) l (omega arith))
      ∙ sym (finite_list (acceleration_rows q t) k c)

-- ---- jerk

module _ (q : Path) (t : Jerk) (k : ℕ) where
  abbrev o : ℕ
  o = total (take k t.counts)

  abbrev h : ℕ
  h = get_or t.counts k 0

  -- both tests of a pair, over the station's rows
  pair : (f g : ℕ → Bool) → (each (λ i. f (o + i)) 0 h && each (λ i. g (o + i)) 0 h) ≡ each (λ i. f i && g i) o h
  pair f g = sym (each_and (λ i. f (o + i)) (λ i. g (o + i)) 0 h) ∙ each_from (λ i. f i && g i) o 0 h ∙ ap (λ (x : ℕ). each (λ i. f i && g i) x h) (add-zero o)

  back_band : finite_band (backward_rows q t k) ≡ (each (pair_test t.a t.max) o h && each (back_test t.b t.c (+1 ⊘ spacing q (k - 1))) o h)
  unfolding backward_rows
  back_band =
      let r = +1 ⊘ spacing q (k - 1) in
      four (each (λ i. finite (at t.a (o + i))) 0 h) (each (λ i. finite (neg (at t.c (o + i)) ⊗ r)) 0 h)
      (each (λ i. finite (at t.b (o + i) ⊕ at t.c (o + i) ⊗ r)) 0 h) (each (λ i. finite (at t.max (o + i))) 0 h)
      ∙ ap₂ (λ (a b : Bool). a && b)
      (pair (λ i. finite (at t.a i)) (λ i. finite (at t.max i)))
      (pair (λ i. finite (neg (at t.c i) ⊗ r)) (λ i. finite (at t.b i ⊕ at t.c i ⊗ r))
      ∙ each_same (λ i. finite (neg (at t.c i) ⊗ r) && finite (at t.b i ⊕ at t.c i ⊗ r)) (back_test t.b t.c r) o h
      (λ i. ap (λ (z : Bool). z && finite (at t.b i ⊕ at t.c i ⊗ r)) (product_neg (at t.c i) r) ∙ sum_tells (at t.b i) (at t.c i ⊗ r)))

  ahead_band : finite_band (forward_rows q t k) ≡ (each (pair_test t.a t.max) o h && each (ahead_test t.b t.c (+1 ⊘ spacing q k)) o h)
  unfolding forward_rows
  ahead_band =
      let r = +1 ⊘ spacing q k in
      four (each (λ i. finite (at t.a (o + i))) 0 h) (each (λ i. finite (at t.b (o + i) ⊖ at t.c (o + i) ⊗ r)) 0 h)
      (each (λ i. finite (at t.c (o + i) ⊗ r)) 0 h) (each (λ i. finite (at t.max (o + i))) 0 h)
      ∙ ap₂ (λ (a b : Bool). a && b)
      (pair (λ i. finite (at t.a i)) (λ i. finite (at t.max i)))
      (pair (λ i. finite (at t.b i ⊖ at t.c i ⊗ r)) (λ i. finite (at t.c i ⊗ r))
      ∙ each_same (λ i. finite (at t.b i ⊖ at t.c i ⊗ r) && finite (at t.c i ⊗ r)) (ahead_test t.b t.c r) o h
      (λ i. difference_tells (at t.b i) (at t.c i ⊗ r)))

  either : (a b c : ℕ) → a < c → (ltb a b || ltb b c) ≡ true
  either a b c l = go (ltb a b) (ltb b c) refl refl where
    go : (x y : Bool) → ltb a b ≡ x → ltb b c ≡ y → (x || y) ≡ true
    go true y e f = refl
    go false true e f = refl
    go false false e f = absurd (omega (arith, ltb-false a b e, ltb-false b c f))

  pub jerk_scanned : {x : ℕ} {u v w r : Bool} → q.N0 < stop q → x ≡ total (take k t.counts) → Each u (pair_test t.a t.max) x h
      → v ≡ back_at q t.b t.c k x h → w ≡ ahead_at q t.b t.c k x h → r ≡ (u && (v && w)) → r ≡ finite_bands (jerk_rows_at q t k)
  unfolding jerk_rows_at
  jerk_scanned {x} l e p g j z =
      let one =
      groups (ltb q.N0 k) (ltb k (stop q)) (backward_rows q t k) (forward_rows q t k) (each (pair_test t.a t.max) o h)
      (each (back_test t.b t.c (+1 ⊘ spacing q (k - 1))) o h) (each (ahead_test t.b t.c (+1 ⊘ spacing q k)) o h) (either q.N0 k (stop q) l) back_band ahead_band in
      z ∙ rw (p.says, g, j, e) (sym one)

-- over the moving stations
pub over_scanned : (f : ℕ → List Band) {r : Bool} {k c : ℕ} → Each r (λ i. finite_bands (f i)) k c → r ≡ finite_bands (over f k c)
over_scanned f {k} {c} p = p.says ∙ sym (finite_over f k c)

pub moving_stop : (q : Path) → q.N0 + q.N1 < n q → q.N0 < stop q
unfolding stop
moving_stop q l = omega arith
