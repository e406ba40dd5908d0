-- What a test of one number says of another: a sign plays no part, and what is not finite makes sums and differences not finite. Assumes nothing.
use mathlib.Core.Path.{◌≡◌, refl, sym, ap, ◌∙◌}
use mathlib.Core.Bool.{Bool, true, false, not, cond, ◌&&◌, false≢true}
use Prim.Native.Nat.{ℕ, ◌*◌}
use lib.Ieee.{Float, nan, inf, fin, binary64, neg, mul, round, up, down, unlike}
use Rattle.model.specs.Numbers.{finite, ◌⊕◌, ◌⊖◌, ◌⊗◌}
use Rattle.model.proofs.Opposite.{round_opposite}
use Rattle.model.proofs.Values.{finite_neg, add_finite, sub_finite}

-- the sign plays no part
round_minus : (a c : ℕ) → finite (round binary64 true a c) ≡ finite (round binary64 false a c)
round_minus a c = ap finite (round_opposite binary64 false a c) ∙ finite_neg (round binary64 false a c)

round_sign : (s t : Bool) (a c : ℕ) → finite (round binary64 s a c) ≡ finite (round binary64 t a c)
round_sign true true a c = refl
round_sign true false a c = round_minus a c
round_sign false true a c = sym (round_minus a c)
round_sign false false a c = refl

-- infinity times 0, or an infinity
never_finite : (b s : Bool) → finite (cond b nan (inf s)) ≡ false
never_finite true s = refl
never_finite false s = refl

pub product_neg : (c r : Float) → finite (neg c ⊗ r) ≡ finite (c ⊗ r)
unfolding mul neg
product_neg nan r = refl
product_neg (inf s) nan = refl
product_neg (inf s) (inf t) = refl
product_neg (inf s) (fin t n d) = rw (never_finite, never_finite) refl
product_neg (fin s m e) nan = refl
product_neg (fin s m e) (inf t) = rw (never_finite, never_finite) refl
product_neg (fin s m e) (fin t n d) = round_sign (unlike (not s) t) (unlike s t) (m * up e * (n * up d)) (down e * down d)

-- a sum or a difference that is finite has finite parts
tells : (u v : Bool) → (v ≡ true → u ≡ true) → (u && v) ≡ v
tells true v h = refl
tells false true h = absurd (false≢true (h refl))
tells false false h = refl

pub sum_tells : (b x : Float) → (finite x && finite (b ⊕ x)) ≡ finite (b ⊕ x)
sum_tells b x = tells (finite x) (finite (b ⊕ x)) (λ e. (add_finite binary64 b x e).1)

pub difference_tells : (b x : Float) → (finite (b ⊖ x) && finite x) ≡ finite (b ⊖ x)
difference_tells b x = swap (finite (b ⊖ x)) (finite x) ∙ tells (finite x) (finite (b ⊖ x)) (λ e. (sub_finite binary64 b x e).1)
  where
    swap : (u v : Bool) → (u && v) ≡ (v && u)
    swap true true = refl
    swap true false = refl
    swap false true = refl
    swap false false = refl
