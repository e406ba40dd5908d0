-- An array whose elements are made one by one from another's.
use Prim.Native.Nat.{ℕ, zero, suc, ◌+◌, ◌≤◌, ◌<◌}
use native.Mathlib.Omega.{arith}
use mathlib.Core.Path.{◌≡◌, refl, sym, subst, ◌∙◌}
use mathlib.Core.List.{List, map}
use lib.ListN.{length, get_or, length-map, get_or-map}
use lib.Seq.{ext_get_or}
use Rattle.std.proofs.Common.{inl, inr}
use Rattle.std.proofs.lemmas.Bool.{cases_eq}
use Rattle.std.specs.Fn.{Called, Mut}
use Rattle.std.specs.Array.{IsFromFnResult, IsFromFnResultFrom}

-- what `from_fn` made of a closure that keeps its state and answers f of the element at hand
module _ {A B F : Type 0} (g : Mut F (ℕ × Unit {0}) B) (s : F) (f : A → B) (xs : List A) (d : A)
    (calls : (i : ℕ) (y : B) (t : F) → Called g s (i, tt) y t → (y ≡ f (get_or xs i d)) × (t ≡ s)) where
  made_from : (l : List B) (n i : ℕ) (t : F) → t ≡ s → IsFromFnResultFrom g t l i n → (k : ℕ) → i ≤ k → k < i + n → get_or l k (f d) ≡ f (get_or xs k d)
  made_from l zero i t e r k h w = absurd (omega arith)
  made_from l (suc n) i t e (u, y, at, call, rest) k h w =
      let here : (y ≡ f (get_or xs i d)) × (u ≡ s) = calls i y u (subst (λ (p : F). Called g p (i, tt) y u) e call) in
      elim (cases_eq k i) [
        | inl same ↦ subst (λ (j : ℕ). get_or l j (f d) ≡ f (get_or xs j d)) (sym same) (at.1 (f d) ∙ here.0)
        | inr other ↦ made_from l n (i + 1) u here.1 rest k (omega (arith, other)) (omega arith)
      ]

  pub mapped : (l : List B) (n : ℕ) → length xs ≡ n → IsFromFnResult g s l n → l ≡ map f xs
  mapped l n e r =
      ext_get_or (f d) l (map f xs) (r.long ∙ sym e ∙ sym (length-map xs f))
      (λ k h. made_from l n 0 s refl r.each k (omega arith) (omega (arith, r.long)) ∙ sym (get_or-map f xs k d))
