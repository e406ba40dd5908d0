-- Charges on one column: after one another, past it, on it; and all columns at once.
use mathlib.Core.Path.{◌≡◌, refl, sym, ap, subst, ◌∙◌}
use mathlib.Core.Bool.{Bool, cond}
use mathlib.Core.Logic.{◌≢◌}
use mathlib.Core.List.{List, [], ◌∷◌, ◌++◌}
use Prim.Native.Nat.{ℕ, zero, suc, ◌+◌, ◌-◌, ◌≤◌, ◌<◌}
use native.Mathlib.Nat.{zero-add}
use native.Mathlib.Numerals.{add-one}
use native.Mathlib.Decide.{ℕ_discrete}
use native.Mathlib.Omega.{arith}
use borrow.Author.Tests.{eq-eqb, ne_eqb}
use lib.Dec.{eqb}
use lib.Ieee.{Float}
use Rattle.model.specs.Numbers.{◌⊕◌}
use Rattle.model.specs.Lists.{list}
use Rattle.model.specs.Program.{Cell, cell}
use Rattle.model.proofs.All.{All, all_list}
use Rattle.buffers.proofs.Laws.{list_snoc}
use Rattle.linear.specs.Charges.{charged_at, Sums, Charged}

pub charged_append : (x : Float) (c : ℕ) (xs ys : List Cell) → charged_at x c (xs ++ ys) ≡ charged_at (charged_at x c xs) c ys
charged_append x c [] ys = refl
charged_append x c (k ∷ ks) ys = charged_append (cond (eqb k.column c) (x ⊕ k.value) x) c ks ys

-- one more on the column
pub charged_on : (x : Float) (c : ℕ) (v : Float) → charged_at x c (cell c v ∷ []) ≡ x ⊕ v
charged_on x c v = rw (eq-eqb c c refl)

-- a loop whose charges are all on the column
module _ {x : Float} {c : ℕ} {f : ℕ → Float} {k : ℕ} where
  pub sums_more : {y v : Float} {i : ℕ} → Sums y x c f k i → v ≡ f (k + i) → Sums (y ⊕ v) x c f k (i + 1)
  sums_more {y} {v} {i} p e =
      record {
        says = sym (rw (add-one, list_snoc (λ (j : ℕ). cell c (f j)) k i, charged_append x c (list (λ (j : ℕ). cell c (f j)) k i) (cell c (f (k + i)) ∷ []), ← p.says, ← e) (charged_on y c v));
      }

  -- the same, of a loop that goes by the number j of the charge
  pub sums_next : {y v : Float} {j i : ℕ} → Sums y x c f k (j - k) → k ≤ j → j + 1 ≡ k + i → v ≡ f j → Sums (y ⊕ v) x c f k i
  sums_next {y} {v} {j} {i} p h n e =
      let a : k + (j - k) ≡ j = omega arith in
      let b : j - k + 1 ≡ i = omega (arith, n) in
      subst (λ (q : ℕ). Sums (y ⊕ v) x c f k q) b (sums_more p (e ∙ ap f (sym a)))

-- charges on other columns
pub charged_past : (x : Float) (c : ℕ) (ks : List Cell) → All (λ k. k.column ≢ c) ks → charged_at x c ks ≡ x
charged_past x c [] h = refl
charged_past x c (k ∷ ks) h = rw (ne_eqb k.column c h.0) (charged_past x c ks h.1)

pub list_past : (x : Float) (c : ℕ) (g : ℕ → Cell) (k m : ℕ) → ((j : ℕ) → k ≤ j → j < k + m → (g j).column ≢ c) → charged_at x c (list g k m) ≡ x
list_past x c g k m h = charged_past x c (list g k m) ((all_list (λ (a : Cell). a.column ≢ c) g k m).1 h)

hit : (x : Float) (c : ℕ) (g : ℕ → Cell) (z k m : ℕ) → (g z).column ≡ c → ((j : ℕ) → (g j).column ≡ c → j ≡ z)
    → (suc k ≤ z → charged_at x c (list g (suc k) m) ≡ x ⊕ (g z).value) → k ≤ z → Dec (k ≡ z) → charged_at x c (list g k (suc m)) ≡ x ⊕ (g z).value
hit x c g z k m e u r h (yes p) =
    ap (λ (b : Bool). charged_at (cond b (x ⊕ (g k).value) x) c (list g (suc k) m)) (eq-eqb (g k).column c (ap (λ (j : ℕ). (g j).column) p ∙ e))
    ∙ list_past (x ⊕ (g k).value) c g (suc k) m (λ j a b q. let w = u j q in absurd (omega arith)) ∙ ap (λ (j : ℕ). x ⊕ (g j).value) p
hit x c g z k m e u r h (no p) =
    ap (λ (b : Bool). charged_at (cond b (x ⊕ (g k).value) x) c (list g (suc k) m)) (ne_eqb (g k).column c (λ q. p (u k q))) ∙ r (omega arith)

-- charges of which one, number z, is on the column
pub list_on : (x : Float) (c : ℕ) (g : ℕ → Cell) (z : ℕ) (k m : ℕ) → (g z).column ≡ c → ((j : ℕ) → (g j).column ≡ c → j ≡ z) → k ≤ z → z < k + m
    → charged_at x c (list g k m) ≡ x ⊕ (g z).value
list_on x c g z k zero e u h l = absurd (omega arith)
list_on x c g z k (suc m) e u h l = hit x c g z k m e u (λ a. list_on x c g z (suc k) m e u a (omega arith)) h (ℕ_discrete k z)

pub charged_then : {x y z : Float} {c : ℕ} {cs ds : List Cell} → Charged y x c cs → Charged z y c ds → Charged z x c (cs ++ ds)
charged_then {x} {z} {c} {cs} {ds} p q =
    record { says = subst (λ (w : Float). z ≡ charged_at w c ds) p.says q.says ∙ sym (charged_append x c cs ds) }

pub past_by : {x : Float} {c : ℕ} (g : ℕ → Cell) (k m : ℕ) → ((j : ℕ) → k ≤ j → j < k + m → (g j).column ≢ c) → Charged x x c (list g k m)
past_by {x} {c} g k m h = record { says = sym (list_past x c g k m h) }

pub on_it : {x : Float} {c : ℕ} (g : ℕ → Cell) (z k m : ℕ) → (g z).column ≡ c → ((j : ℕ) → (g j).column ≡ c → j ≡ z) → k ≤ z → z < k + m
    → Charged (x ⊕ (g z).value) x c (list g k m)
on_it {x} {c} g z k m e u h l = record { says = sym (list_on x c g z k m e u h l) }

-- with no column in front
pub from_none : {y x : Float} {c : ℕ} (f : ℕ → Float) (k m : ℕ) → Charged y x c (list (λ j. cell (0 + j) (f j)) k m) → Charged y x c (list (λ j. cell j (f j)) k m)
from_none {y} {x} {c} f k m h = subst (λ (g : ℕ → Cell). Charged y x c (list g k m)) (λ i j. cell (zero-add j i) (f j)) h

-- with the columns in front counted otherwise
pub from_column : {y x : Float} {c i o : ℕ} (f : ℕ → Float) (k m : ℕ)
    → i ≡ o → Charged y x c (list (λ j. cell (i + j) (f j)) k m) → Charged y x c (list (λ j. cell (o + j) (f j)) k m)
from_column {y} {x} {c} f k m e = subst (λ (i : ℕ). Charged y x c (list (λ j. cell (i + j) (f j)) k m)) e

-- with an end's stations, and their number, otherwise written
pub end_at : {y x : Float} {c i o e a z b : ℕ} (f : ℕ → ℕ → ℕ → Float)
    → e ≡ a → z ≡ b → i ≡ o → Charged y x c (list (λ k. cell e (f e z k)) 1 i) → Charged y x c (list (λ k. cell a (f a b k)) 1 o)
end_at f p q r h = rw (← p, ← q, ← r) h

-- Charges v of the moving stations, which are a to l - 1 - b of l stations; f columns stand in front of that of station 0.
module _ (v : ℕ → Float) (f l a b : ℕ) {x : Float} {c : ℕ} where
  pub list_before : c < f + a → Charged x x c (list (λ k. cell (f + k) (v k)) a (l - 1 - a - b + 1))
  list_before h = past_by (λ k. cell (f + k) (v k)) a (l - 1 - a - b + 1) (λ j g e q. absurd (omega arith))

  pub list_behind : a + b + 1 < l → f + (l - 1 - b) < c → Charged x x c (list (λ k. cell (f + k) (v k)) a (l - 1 - a - b + 1))
  list_behind g h = past_by (λ k. cell (f + k) (v k)) a (l - 1 - a - b + 1) (λ j d e q. absurd (omega arith))

  pub list_here : a + b + 1 < l → f + a ≤ c → c ≤ f + (l - 1 - b) → Charged (x ⊕ v (c - f)) x c (list (λ k. cell (f + k) (v k)) a (l - 1 - a - b + 1))
  list_here g h k = on_it (λ k. cell (f + k) (v k)) (c - f) a (l - 1 - a - b + 1) (omega arith) (λ j q. omega arith) (omega arith) (omega arith)
