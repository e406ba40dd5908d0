-- x ⊖ y and y ⊖ x are opposite numbers, exactly: rounding is alike on both sides of zero.
use Prim.Native.Nat.{ℕ, zero, suc, ◌+◌, ◌-◌, ◌*◌, ◌^◌, ◌<◌}
use native.Mathlib.Nat.{mul_comm, add_comm, mul-pos}
use native.Mathlib.Decide.{dec_lt}
use native.Mathlib.Omega.{arith}
use mathlib.Core.Path.{◌≡◌, refl, sym, ap, ◌∙◌}
use mathlib.Core.Bool.{Bool, true, false, not, cond, ◌&&◌, and-true, and-false}
use lib.Dec.{ltb}
use lib.IntN.{pos, neg_ℤ, neg_ℤ-neg_ℤ}
use lib.Ieee
use lib.Ieee.{Float, nan, inf, fin, Format, binary64, prec, emax, low, up, down, odd, round, add, sub, sum, neg}
use lib.Ieee.Fits.{round_is, down_pos}
use lib.Ieee.Exact.{HasValue}
use borrow.Author.Tests.{lt-ltb, le-ltb}
use Rattle.model.specs.Numbers.{◌⊖◌}
use Rattle.model.specs.Conic.{units}
use Rattle.model.proofs.Exact.{round_none, none_of, none_units}
use Rattle.model.proofs.Units.{units_neg}

sign_units : (f : Format) (s : Bool) (q k : ℕ) → Ieee.units f (not s) q k ≡ neg (Ieee.units f s q k)
unfolding Ieee.units odd neg
sign_units f s q k = go (ltb (q * 2 ^ k) (2 ^ (low f + suc (emax f)))) q
  where
    go : (b : Bool) (r : ℕ) → cond b (odd (suc (prec f)) (not s) r k (low f)) (inf (not s)) ≡ neg (cond b (odd (suc (prec f)) s r k (low f)) (inf s))
    go false r = refl
    go true zero = refl
    go true (suc r) = refl

pub round_opposite : (f : Format) (s : Bool) (num den : ℕ) → round f (not s) num den ≡ neg (round f s num den)
round_opposite f s num den =
    round_is f (not s) num den ∙ sign_units f s _ _ ∙ ap neg (sym (round_is f s num den))

units_opposite : (s : Bool) (num den : ℕ) → units (round binary64 (not s) num den) ≡ neg_ℤ (units (round binary64 s num den))
units_opposite s num den = ap units (round_opposite binary64 s num den) ∙ units_neg (round binary64 s num den)

zero_value : (x : Float) (s : Bool) (c : ℕ) → 0 < c → HasValue x s 0 c → units x ≡ pos 0
unfolding units
zero_value nan s c h v = refl
zero_value (inf t) s c h v = refl
zero_value (fin t m e) s c h v = none_units t m e (none_of t s m e c h v)

zero_round : (c : ℕ) → 0 < c → units (round binary64 false 0 c) ≡ pos 0
zero_round c h = zero_value (round binary64 false 0 c) false c h (round_none binary64 false c h)

-- sums of like signs, and of unlike signs: the larger part decides, and equal parts give zero
like : (s : Bool) (a b c : ℕ) → units (round binary64 (not s) (b + a) c) ≡ neg_ℤ (units (round binary64 s (a + b) c))
like s a b c = ap (λ (x : ℕ). units (round binary64 (not s) x c)) (add_comm b a) ∙ units_opposite s (a + b) c

unlike : (s : Bool) (a b c : ℕ) → 0 < c → Dec (a < b) → Dec (b < a)
    → units (cond (ltb b a) (round binary64 (not s) (a - b) c) (round binary64 (s && ltb a b) (b - a) c)) ≡ neg_ℤ (units (cond (ltb a b) (round binary64 (not s) (b - a) c) (round binary64 (s && ltb b a) (a - b) c)))
unlike s a b c h (yes x) y =
    simp (lt-ltb a b x, le-ltb b a (omega arith), and-true) (sym (neg_ℤ-neg_ℤ (units (round binary64 s (b - a) c))) ∙ ap neg_ℤ (sym (units_opposite s (b - a) c)))
unlike s a b c h (no x) (yes y) = simp (lt-ltb b a y, le-ltb a b (omega arith), and-true) (units_opposite s (a - b) c)
unlike s a b c h (no x) (no y) =
    let e : a - b ≡ 0 = omega arith in
    let f : b - a ≡ 0 = omega arith in
    simp (le-ltb b a (omega arith), le-ltb a b (omega arith), and-false, e, f, zero_round c h)

sums : (s t : Bool) (a b c : ℕ) → 0 < c → units (sum binary64 t b (not s) a c) ≡ neg_ℤ (units (sum binary64 s a (not t) b c))
unfolding sum
sums true true a b c h = unlike true a b c h (dec_lt a b) (dec_lt b a)
sums true false a b c h = like true a b c
sums false true a b c h = like false a b c
sums false false a b c h = unlike false a b c h (dec_lt a b) (dec_lt b a)

pub opposite : (x y : Float) → units (y ⊖ x) ≡ neg_ℤ (units (x ⊖ y))
unfolding sub add neg units
opposite nan nan = refl
opposite nan (inf t) = refl
opposite nan (fin t n d) = refl
opposite (inf s) nan = refl
opposite (inf true) (inf true) = refl
opposite (inf true) (inf false) = refl
opposite (inf false) (inf true) = refl
opposite (inf false) (inf false) = refl
opposite (inf s) (fin t n d) = refl
opposite (fin s m e) nan = refl
opposite (fin s m e) (inf t) = refl
opposite (fin s m e) (fin t n d) =
    ap (λ (c : ℕ). units (sum binary64 t (n * up d * down e) (not s) (m * up e * down d) c)) (mul_comm (down d) (down e))
    ∙ sums s t (m * up e * down d) (n * up d * down e) (down e * down d) (mul-pos (down_pos e) (down_pos d))
