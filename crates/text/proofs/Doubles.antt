-- What the tests of `nearest`, `fraction` and `number` tell.
use Rattle.std.proofs.Common.{◌≡◌, ℕ, ◌/◌, ◌%◌, ◌^◌, Bool, true, false, cond, not, ◌&&◌, T, ltb, ◌++◌, pos, Option, Some, None, sym, refl, ap, ◌∙◌, subst, arith}
use lib.Ieee.{Float, nan, inf, fin, binary64, is_nan, lt, eq, ne, to_unsigned, to_bits}
use Rattle.text.specs.Number.{scaled, ten_thousandths, nearest, magnitude, fraction, sign, shown, number}
use Rattle.text.specs.Text.{ascii}
use Rattle.text.specs.Digits.{digits, decimal}

pub nearest_tells : (x : Float) (k : ℕ) (p q r s : Bool) → k ≡ to_unsigned 64 (scaled x) → lt (fin true 1 (pos 0)) (scaled x) ≡ p → lt (scaled x) (fin false 1 (pos 64)) ≡ q → ltb k (2 ^ 51) ≡ r → eq (ten_thousandths k) x ≡ s → cond (p && (q && (r && s))) (Some k) None ≡ nearest x
unfolding nearest
nearest_tells x k p q r s is low high small back = cc

-- a number that equals itself is no NaN
pub no_nan : (x : Float) → ne x x ≡ false → T (not (is_nan x))
unfolding is_nan ne
no_nan nan e = subst T e tt
no_nan (inf s) e = tt
no_nan (fin s k e') e = tt

pub number_nan : (x : Float) → is_nan x ≡ true → number x ≡ ascii "NaN"
unfolding number is_nan
number_nan nan h = refl
number_nan (inf s) h = absurd (subst T (sym h) tt)
number_nan (fin s k e) h = absurd (subst T (sym h) tt)

pub number_shown : (x : Float) → is_nan x ≡ false → number x ≡ shown (nearest (magnitude x)) x
unfolding number is_nan
number_shown nan h = absurd (subst T h tt)
number_shown (inf s) h = refl
number_shown (fin s k e) h = refl

-- as a test finds x's size y and what y is nearest to
pub number_decimals : (x : Float) (k : ℕ) {y : Float} {m : Option ℕ} → is_nan x ≡ false → y ≡ magnitude x → m ≡ nearest y → m ≡ Some k → sign x ++ decimal (k / 10000) ++ fraction (k % 10000) ≡ number x
unfolding shown
number_decimals x k h size is e = sym (number_shown x h ∙ ap (λ (m : Option ℕ). shown m x) (sym (is ∙ ap nearest size) ∙ e))

pub number_hex : (x : Float) {y : Float} {m : Option ℕ} → is_nan x ≡ false → y ≡ magnitude x → m ≡ nearest y → m ≡ None → ascii "0x" ++ digits 16 16 (to_bits binary64 x) ≡ number x
unfolding shown
number_hex x h size is e = sym (number_shown x h ∙ ap (λ (m : Option ℕ). shown m x) (sym (is ∙ ap nearest size) ∙ e))

differ : {j : ℕ} → None ≡ Some j → ⊥
differ g = let z : ◌≡◌ {A = ℕ} 0 1 = cc in omega arith

-- a double that prints as k ten-thousandths is the nearest to them: the text reads back as the double
pub reads_back : (x : Float) (k : ℕ) → nearest x ≡ Some k → eq (ten_thousandths k) x ≡ true
unfolding nearest
reads_back x k e =
    let j = to_unsigned 64 (scaled x) in
    go (lt (fin true 1 (pos 0)) (scaled x)) (lt (scaled x) (fin false 1 (pos 64))) (ltb j (2 ^ 51)) (eq (ten_thousandths j) x) refl e
  where
    go : (p q r s : Bool) → eq (ten_thousandths (to_unsigned 64 (scaled x))) x ≡ s → cond (p && (q && (r && s))) (Some (to_unsigned 64 (scaled x))) None ≡ Some k → eq (ten_thousandths k) x ≡ true
    go true true true true f g = let h : to_unsigned 64 (scaled x) ≡ k = cc in ap (λ (j : ℕ). eq (ten_thousandths j) x) (sym h) ∙ f
    go true true true false f g = absurd (differ g)
    go true true false s f g = absurd (differ g)
    go true false r s f g = absurd (differ g)
    go false q r s f g = absurd (differ g)
