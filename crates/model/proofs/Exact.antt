-- "Every finite double is a whole multiple of 2^−1074": `units` loses nothing. Every number of the program fits binary64, as a literal or as an operation's result.
use Prim.Native.Nat.{ℕ, zero, suc, ◌+◌, ◌-◌, ◌*◌, ◌/◌, ◌%◌, ◌^◌, ◌≤◌, ◌<◌}
use native.Mathlib.Nat.{zero-mul, zero-div, mul-pos, eq_of_mul-eq-mul_right, mul_assoc, mul-div_cancel, lt_irrefl, lt_of_lt_of_le}
use native.Mathlib.Decide.{dec_lt}
use native.Mathlib.Omega.{arith}
use mathlib.Core.Path.{◌≡◌, refl, sym, ap, ◌∙◌}
use mathlib.Core.Bool.{Bool, true, false, cond, ◌&&◌, false≢true}
use lib.Dec.{T, leb, ltb, eqb, leb→le, ltb→lt, eqb→eq}
use lib.Pow.{pow-add, pow_pos, pow-lt}
use lib.IntN.{ℤ, pos, negsuc, neg_ℤ, nat_abs}
use lib.Ieee
use lib.Ieee.{inf, fin, Format, binary64, prec, emax, low, up, down, odd, fits, round}
use lib.Ieee.Exact.{HasValue, round_exact}
use lib.Ieee.Fits.{up_pos, and_l, and_r, down_pos}
use borrow.Author.Tests.{ltb-true}
use Rattle.model.specs.Numbers.{finite}
use Rattle.model.specs.Conic.{units}

-- 2 ^ j, as a multiple of a lower power
pub part : (j k : ℕ) → k ≤ j → 2 ^ (j - k) * 2 ^ k ≡ 2 ^ j
part j k h = sym (pow-add 2 (j - k) k) ∙ ap (λ (x : ℕ). 2 ^ x) (omega arith)

exponents : (j l : ℕ) → 2 ^ j ≤ 2 ^ l → j ≤ l
exponents j l h = go (dec_lt l j)
  where
    go : Dec (l < j) → j ≤ l
    go (yes y) = absurd (lt_irrefl (2 ^ l) (lt_of_lt_of_le (pow-lt y) h))
    go (no y) = omega arith

-- the power of 2 in m * 2 ^ e, in units of the format's smallest value
pub place : ℕ → ℤ → ℕ
place l (pos k) = k + l
place l (negsuc k) = l - suc k

place_is : (m l : ℕ) (e : ℤ) → down e ≤ 2 ^ l → m * up e * 2 ^ l ≡ m * 2 ^ place l e * down e
unfolding place
place_is m l (pos k) h = mul_assoc m (2 ^ k) (2 ^ l) ∙ ap (λ (x : ℕ). m * x) (sym (pow-add 2 k l)) ∙ omega arith
place_is m l (negsuc k) h = regroup (2 ^ l) (2 ^ (l - suc k)) (2 ^ suc k) (part l (suc k) (exponents (suc k) l h))
  where
    regroup : (x y w : ℕ) → y * w ≡ x → m * 1 * x ≡ m * y * w
    regroup x y w e = omega (arith, ap (λ (v : ℕ). m * v) e)

pub units_of : (m l : ℕ) (e : ℤ) → down e ≤ 2 ^ l → m * up e * 2 ^ l / down e ≡ m * 2 ^ place l e
units_of m l e h = ap (λ (x : ℕ). x / down e) (place_is m l e h) ∙ mul-div_cancel (m * 2 ^ place l e) (down_pos e)

pub exact : (m l : ℕ) (e : ℤ) → down e ≤ 2 ^ l → m * up e * 2 ^ l / down e * down e ≡ m * up e * 2 ^ l
exact m l e h = ap (λ (x : ℕ). x * down e) (units_of m l e h) ∙ sym (place_is m l e h)

pub fits_down : (f : Format) (s : Bool) (m : ℕ) (e : ℤ) → T (fits f (fin s m e)) → down e ≤ 2 ^ low f
unfolding fits
fits_down f s zero (pos k) t = pow_pos (low f)
fits_down f s zero (negsuc k) t = omega (arith, eqb→eq (1 * 2 ^ suc k) 1 t, pow_pos (low f))
fits_down f s (suc m) e t =
    let odd-small = eqb (suc m % 2) 1 && ltb (suc m) (2 ^ prec f) in
    let deep = leb (down e) (2 ^ low f) in
    leb→le (down e) (2 ^ low f) (and_r odd-small deep (and_l (odd-small && deep) (ltb (suc m * up e) (2 ^ suc (emax f) * down e)) t))

pub fits_small : (f : Format) (t : Bool) (m : ℕ) (e : ℤ) → T (fits f (fin t m e)) → m < 2 ^ prec f
unfolding fits
fits_small f t zero e h = pow_pos (prec f)
fits_small f t (suc m) e h =
    let odd-one = eqb (suc m % 2) 1 in
    let small = ltb (suc m) (2 ^ prec f) in
    let deep = leb (down e) (2 ^ low f) in
    ltb→lt (suc m) (2 ^ prec f) (and_r odd-one small (and_l (odd-one && small) deep (and_l (odd-one && small && deep) (ltb (suc m * up e) (2 ^ suc (emax f) * down e)) h)))

pub magnitude : (s : Bool) (k : ℕ) → nat_abs (cond s (neg_ℤ (pos k)) (pos k)) ≡ k
magnitude true zero = refl
magnitude true (suc k) = refl
magnitude false k = refl

-- "Every finite double is a whole multiple of 2^−1074"
pub units_exact : (s : Bool) (m : ℕ) (e : ℤ) → T (fits binary64 (fin s m e)) → nat_abs (units (fin s m e)) * down e ≡ m * up e * 2 ^ low binary64
unfolding units
units_exact s m e t = ap (λ (x : ℕ). x * down e) (magnitude s (m * up e * 2 ^ low binary64 / down e)) ∙ exact m (low binary64) e (fits_down binary64 s m e t)

-- `units` of the library: so many of the format's smallest values
pub units_below : (f : Format) (s : Bool) (t k : ℕ) → finite (Ieee.units f s t k) ≡ true → t * 2 ^ k < 2 ^ (low f + suc (emax f))
unfolding Ieee.units
units_below f s t k e = go (ltb (t * 2 ^ k) (2 ^ (low f + suc (emax f)))) refl e
  where
    go : (b : Bool) → ltb (t * 2 ^ k) (2 ^ (low f + suc (emax f))) ≡ b → finite (cond b (odd (suc (prec f)) s t k (low f)) (inf s)) ≡ true → t * 2 ^ k < 2 ^ (low f + suc (emax f))
    go true q h = ltb-true (t * 2 ^ k) (2 ^ (low f + suc (emax f))) q
    go false q h = absurd (false≢true h)

-- ---- nothing

pub round_none : (f : Format) (s : Bool) (c : ℕ) → 0 < c → HasValue (round f s 0 c) s 0 c
round_none f s c h = round_exact f s 0 c 0 0 h (pow_pos (prec f)) (omega (arith, pow_pos (low f + suc (emax f)))) (omega arith)

pub none_of : (t s : Bool) (m : ℕ) (e : ℤ) (c : ℕ) → 0 < c → HasValue (fin t m e) s 0 c → m ≡ 0
none_of t s m e c h v = eq_of_mul-eq-mul_right (up e * c) (mul-pos (up_pos e) h) m 0 (omega (arith, v.1))

pub none_units : (t : Bool) (m : ℕ) (e : ℤ) → m ≡ 0 → units (fin t m e) ≡ pos 0
unfolding units
none_units t m e h = ap (λ (k : ℕ). cond t (neg_ℤ (pos k)) (pos k)) (ap (λ (k : ℕ). k * up e * 2 ^ low binary64 / down e) h ∙ ap (λ (k : ℕ). k * 2 ^ low binary64 / down e) (zero-mul (up e)) ∙ zero-div (down e)) ∙ go t
  where
    go : (t : Bool) → cond t (neg_ℤ (pos 0)) (pos 0) ≡ pos 0
    go true = refl
    go false = refl
