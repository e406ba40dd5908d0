-- Charges, column by column: what they come to on each.
use mathlib.Core.Path.{◌≡◌, refl, sym, ap, subst, ◌∙◌}
use mathlib.Core.Bool.{cond}
use mathlib.Core.List.{List, [], ◌∷◌}
use Prim.Native.Nat.{ℕ, ◌<◌}
use native.Mathlib.Nat.{zero-add}
use native.Mathlib.Decide.{ℕ_discrete}
use native.Mathlib.Omega.{arith}
use borrow.Author.Tests.{eq-eqb, ne_eqb}
use lib.Dec.{eqb}
use lib.Ieee.{Float, nan}
use lib.ListN.{length, set, length-set}
use lib.Seq.{get_or-set_same, get_or-set_other, ext_get_or}
use Rattle.model.specs.Numbers.{at, ◌⊕◌}
use Rattle.model.specs.Lists.{list}
use Rattle.model.specs.Program.{Cell, charged}
use Rattle.model.proofs.Sums.{length_list}
use Rattle.model.proofs.Counted.{charged_length}
use Rattle.model.proofs.Feasible.{get_d_list}
use Rattle.linear.specs.Charges.{charged_at}

at_set : (q : List Float) (j c : ℕ) (v : Float) → c < length q → Dec (j ≡ c) → at (set q j (at q j ⊕ v)) c ≡ cond (eqb j c) (at q c ⊕ v) (at q c)
at_set q j c v h (yes p) =
    rw (eq-eqb j c p) (subst (λ (z : ℕ). at (set q z (at q z ⊕ v)) c ≡ at q c ⊕ v) (sym p) (get_or-set_same q c (at q c ⊕ v) nan h))
at_set q j c v h (no p) = rw (ne_eqb j c p) (get_or-set_other q j c (at q j ⊕ v) nan (λ e. p (sym e)))

-- charges, seen from one column
pub charged_get : (q : List Float) (cs : List Cell) (c : ℕ) → c < length q → at (charged q cs) c ≡ charged_at (at q c) c cs
charged_get q [] c h = refl
charged_get q (k ∷ cs) c h =
    charged_get (set q k.column (at q k.column ⊕ k.value)) cs c (rw (length-set) h)
    ∙ ap (λ (x : Float). charged_at x c cs) (at_set q k.column c k.value h (ℕ_discrete k.column c))

-- and all columns
pub charged_columns : (q : List Float) (cs : List Cell) → charged q cs ≡ list (λ c. charged_at (at q c) c cs) 0 (length q)
charged_columns q cs =
    let f : ℕ → Float = λ c. charged_at (at q c) c cs in
    let long = charged_length q cs in
    ext_get_or nan (charged q cs) (list f 0 (length q)) (long ∙ sym (length_list f 0 (length q)))
    (λ c l. charged_get q cs c (omega (arith, long)) ∙ sym (get_d_list f 0 (length q) c nan (omega (arith, long)) ∙ ap f (zero-add c)))
