-- Floats that are not below zero, by their sign: a zero of either sign counts, and so do NaN and the infinities, which a written number is not.
use Prim.Native.Nat.{ℕ, zero, suc, ◌+◌, ◌*◌, ◌^◌, ◌≤◌, ◌<◌}
use native.Mathlib.Nat.{zero-mul, mul-pos, eq_of_mul-eq-mul_right}
use native.Mathlib.Omega.{arith}
use mathlib.Core.Path.{◌≡◌, refl, sym, ap, ◌∙◌, subst}
use mathlib.Core.Bool.{Bool, true, false, not, cond, ◌||◌, or-true}
use lib.Dec.{ltb, eqb}
use lib.IntN.{ℤ, pos}
use lib.Signed.{le_z_yes}
use lib.Ieee
use lib.Ieee.{Float, nan, inf, fin, Format, prec, emax, low, up, down, odd, round, mul, lt, unlike, of_bits}
use lib.Ieee.Fits.{round_is, up_pos, down_pos}
use lib.Ieee.Exact.{HasValue}
use borrow.Author.Tests.{ltb-false, eq-eqb, eqb-true}
use Rattle.model.specs.Numbers.{+0, half, unfit}
use Rattle.model.specs.Conic.{units}
use Rattle.model.specs.Meaning.{◌≼◌}
use Rattle.model.proofs.Integers.{natural}
use Rattle.model.proofs.Exact.{round_none, none_of, none_units}

abbrev pub plus : Float → Bool
plus nan = true
plus (inf s) = true
plus (fin s m e) = not s || eqb m 0

pub plus_units : (x : Float) → plus x ≡ true → pos 0 ≼ units x
unfolding units
plus_units nan h = le_z_yes tt
plus_units (inf s) h = le_z_yes tt
plus_units (fin false m e) h = natural _
plus_units (fin true m e) h = subst (λ (x : ℤ). pos 0 ≼ x) (sym (none_units true m e (eqb-true m 0 h))) (natural 0)

pub plus_cond : (b : Bool) (x y : Float) → (b ≡ true → plus x ≡ true) → (b ≡ false → plus y ≡ true) → plus (cond b x y) ≡ true
plus_cond true x y f g = f refl
plus_cond false x y f g = g refl

-- ---- rounding keeps the sign

kept_plus : (f : Format) (q k : ℕ) → plus (Ieee.units f false q k) ≡ true
unfolding Ieee.units odd
kept_plus f q k = go (ltb (q * 2 ^ k) (2 ^ (low f + suc (emax f)))) q
  where
    go : (b : Bool) (r : ℕ) → plus (cond b (odd (suc (prec f)) false r k (low f)) (inf false)) ≡ true
    go false r = refl
    go true zero = refl
    go true (suc r) = refl

round_plus : (f : Format) (num den : ℕ) → plus (round f false num den) ≡ true
round_plus f num den = ap plus (round_is f false num den) ∙ kept_plus f _ _

pub zero_plus : (x : Float) (s : Bool) (c : ℕ) → 0 < c → HasValue x s 0 c → plus x ≡ true
zero_plus nan s c h v = refl
zero_plus (inf t) s c h v = refl
zero_plus (fin t m e) s c h v = simp (eq-eqb m 0 (none_of t s m e c h v), or-true)

round_zero : (f : Format) (s : Bool) (c : ℕ) → 0 < c → plus (round f s 0 c) ≡ true
round_zero f s c h = zero_plus (round f s 0 c) s c h (round_none f s c h)

-- ---- products

pub mul_plus : (f : Format) (x y : Float) → plus x ≡ true → plus y ≡ true → plus (mul f x y) ≡ true
unfolding mul
mul_plus f nan y a b = refl
mul_plus f (inf s) nan a b = refl
mul_plus f (inf s) (inf t) a b = refl
mul_plus f (inf s) (fin t n d) a b = plus_cond (eqb n 0) nan (inf (unlike s t)) (λ _. refl) (λ _. refl)
mul_plus f (fin s m e) nan a b = refl
mul_plus f (fin s m e) (inf t) a b = plus_cond (eqb m 0) nan (inf (unlike s t)) (λ _. refl) (λ _. refl)
mul_plus f (fin false m e) (fin false n d) a b = round_plus f (m * up e * (n * up d)) (down e * down d)
mul_plus f (fin true m e) (fin t n d) a b =
    let none : m * up e * (n * up d) ≡ 0 = ap (λ (k : ℕ). k * up e * (n * up d)) (eqb-true m 0 a) ∙ omega arith in
    ap (λ (k : ℕ). plus (round f (unlike true t) k (down e * down d))) none ∙ round_zero f (unlike true t) (down e * down d) (mul-pos (down_pos e) (down_pos d))
mul_plus f (fin false m e) (fin true n d) a b =
    let none : m * up e * (n * up d) ≡ 0 = ap (λ (k : ℕ). m * up e * (k * up d)) (eqb-true n 0 b) ∙ omega arith in
    ap (λ (k : ℕ). plus (round f true k (down e * down d))) none ∙ round_zero f true (down e * down d) (mul-pos (down_pos e) (down_pos d))

-- ---- a weight that refusal 11 lets by, 1/2 and 0

pub fit_plus : (w : Float) → unfit w ≡ false → plus w ≡ true
unfolding lt of_bits
fit_plus nan h = refl
fit_plus (inf s) h = refl
fit_plus (fin false m e) h = refl
fit_plus (fin true m e) h =
    let l : m * up e * 1 + 0 * 1 * down e ≤ 0 = ltb-false 0 (m * up e * 1 + 0 * 1 * down e) h in
    let none : m * up e ≡ 0 = omega arith in
    eq-eqb m 0 (eq_of_mul-eq-mul_right (up e) (up_pos e) m 0 (none ∙ sym (zero-mul (up e))))

pub half_plus : plus half ≡ true
unfolding of_bits
half_plus = refl

pub zero_is_plus : plus +0 ≡ true
unfolding of_bits
zero_is_plus = refl
