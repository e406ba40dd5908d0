-- What an operation's finite result is, exactly, in units of the format's smallest value: the sum, difference or multiple of the operands' exact values, rounded (proofs/Rounding.antt).
use Prim.Native.Nat.{ℕ, zero, suc, ◌+◌, ◌-◌, ◌*◌, ◌/◌, ◌^◌, ◌≤◌, ◌<◌}
use native.Mathlib.Nat.{le_of_mul-le-mul_right, mul-le-mul_right, mul_assoc, mul_comm, mul-pos, mul-div_cancel, mul-lt-mul_of_pos_right, lt_of_mul-lt-mul_right}
use native.Mathlib.Decide.{dec_lt}
use native.Mathlib.Omega.{arith}
use mathlib.Core.Path.{◌≡◌, refl, sym, ap, ap₂, ◌∙◌, subst}
use mathlib.Core.Bool.{Bool, true, false, not, cond, ◌&&◌, and-true, and-false, false≢true}
use lib.Dec.{T, eqb, ltb, leb→le, le→leb, lt→ltb}
use lib.Pow.{pow_pos, shl-shr}
use lib.IntN.{ℤ, pos, negsuc, neg_ℤ, nat_abs, neg_ℤ-neg_ℤ, ◌+ℤ◌, ◌-ℤ◌, ◌*ℤ◌}
use lib.Signed.{◌≤ℤ◌, ◌<ℤ◌, le_z_yes, lt_z_yes}
use lib.Ieee
use lib.Ieee.{Float, nan, inf, fin, Format, prec, low, up, down, size, round, sum, add, sub, mul, neg, lt, below, unlike, fits, binary64, of_bits}
use lib.Ieee.Fits.{core, round_is, down_pos, neg-fits}
use lib.Ieee.Exact.{HasValue, units_val}
use lib.Ieee.Nearest.{closest, closest_same}
use lib.Ieee.Scale.{round_same}
use borrow.Author.Tests.{lt-ltb, le-ltb, ltb-true}
use Rattle.model.specs.Numbers.{finite, ◌⊗◌, −2}
use Rattle.model.specs.Conic.{units}
use Rattle.model.proofs.Exact.{exact, magnitude, units_of, place, fits_down, fits_small, units_below}
use Rattle.model.proofs.Integers.{AsDiff, is, as_diff, differences}
use Rattle.model.proofs.Rounding.{rounded, Representable, digits_and_zeros, representable_twice, rounded_same, rounded_zero, rounded_mono}

-- ---- whole numbers rounded, on both sides of zero alike

abbrev pub signed : Bool → ℕ → ℤ
signed s n = cond s (neg_ℤ (pos n)) (pos n)

unfoldable pub rounding : ℕ → ℤ → ℤ
rounding p (pos n) = pos (rounded p n)
rounding p (negsuc n) = neg_ℤ (pos (rounded p (suc n)))

pub rounding_signed : (p : ℕ) (s : Bool) (n : ℕ) → rounding p (signed s n) ≡ signed s (rounded p n)
unfolding rounding
rounding_signed p false n = refl
rounding_signed p true zero = simp rounded_zero
rounding_signed p true (suc n) = refl

pub neg_le_pos : (a b : ℕ) → neg_ℤ (pos a) ≤ℤ pos b
neg_le_pos a b = simp differences (omega arith)

pub neg_le_neg : (a b : ℕ) → b ≤ a → neg_ℤ (pos a) ≤ℤ neg_ℤ (pos b)
neg_le_neg a b h = simp differences (omega arith)

pub rounding_mono : (p : ℕ) → 0 < p → (x y : ℤ) → x ≤ℤ y → rounding p x ≤ℤ rounding p y
unfolding rounding
rounding_mono p P (pos a) (pos b) h = le_z_yes (le→leb _ _ (rounded_mono p a b P (leb→le a b h.le)))
rounding_mono p P (pos a) (negsuc b) h = absurd h.le
rounding_mono p P (negsuc a) (pos b) h = neg_le_pos (rounded p (suc a)) (rounded p b)
rounding_mono p P (negsuc a) (negsuc b) h = neg_le_neg (rounded p (suc a)) (rounded p (suc b)) (rounded_mono p (suc b) (suc a) P (omega (arith, leb→le b a h.le)))

pub rounding_same : (p : ℕ) (x : ℤ) → Representable p (nat_abs x) → rounding p x ≡ x
unfolding rounding
rounding_same p (pos n) h = ap pos (rounded_same h)
rounding_same p (negsuc n) h = ap (λ (k : ℕ). neg_ℤ (pos k)) (rounded_same h)

-- ---- a float's exact value; NaN and the infinities have none

unfoldable pub value : Format → Float → ℤ
value f nan = pos 0
value f (inf s) = pos 0
value f (fin s m e) = signed s (m * up e * 2 ^ low f / down e)

-- it has no more digits than the format
pub value_representable : (f : Format) (x : Float) → T (fits f x) → Representable (prec f) (nat_abs (value f x))
unfolding value
value_representable f nan h = digits_and_zeros 0 0 (pow_pos (prec f))
value_representable f (inf s) h = digits_and_zeros 0 0 (pow_pos (prec f))
value_representable f (fin s m e) h =
    subst (Representable (prec f)) (sym (magnitude s (m * up e * 2 ^ low f / down e) ∙ units_of m (low f) e (fits_down f s m e h))) (digits_and_zeros m (place (low f) e) (fits_small f s m e h))

-- a fraction that is n units
value_of : (f : Format) (x : Float) (s : Bool) (n : ℕ) → HasValue x s n (2 ^ low f) → value f x ≡ signed s n
unfolding value
value_of f nan s n v = absurd v
value_of f (inf t) s n v = absurd v
value_of f (fin t m e) s n v = ap₂ signed v.0 (ap (λ (x : ℕ). x / down e) v.1 ∙ mul-div_cancel n (down_pos e))

round_value : (f : Format) (s : Bool) (num den n : ℕ) → 0 < den → num * 2 ^ low f ≡ n * den → finite (round f s num den) ≡ true
    → value f (round f s num den) ≡ signed s (rounded (prec f) n)
unfolding rounded
round_value f s num den n h e ok =
    let l = 2 ^ low f in
    let L = pow_pos (low f) in
    let k = size n - prec f in
    let c = closest n (2 ^ k) in
    let is : round f s num den ≡ Ieee.units f s c k =
    round_same f s num den n l h L e ∙ round_is f s n l
    ∙ ap (λ (x : ℕ). core f s (n * l) l (size x - prec f)) (shl-shr n (low f))
    ∙ ap (λ (x : ℕ). Ieee.units f s x k) (closest_same (n * l) (l * 2 ^ k) n (2 ^ k) (mul-pos L (pow_pos k)) (pow_pos k) (mul_assoc n l (2 ^ k))) in
    ap (value f) is ∙ value_of f (Ieee.units f s c k) s (c * 2 ^ k) (units_val f s c k (units_below f s c k (subst (λ (x : Float). finite x ≡ true) is ok)))

-- ---- two values over one denominator D: a·D = A·L and b·D = B·L, L the units in 1

less : (A B a b D L : ℕ) → 0 < L → a * D ≡ A * L → b * D ≡ B * L → A < B → a < b
less A B a b D L l e g h = lt_of_mul-lt-mul_right D {m = a} {n = b} (omega (arith, mul-lt-mul_of_pos_right h l))

less_value : (s t : Bool) (A B a b D L : ℕ) → 0 < L → a * D ≡ A * L → b * D ≡ B * L → below s A t B ≡ true → signed s a <ℤ signed t b
less_value false false A B a b D L l e g h = lt_z_yes (lt→ltb a b (less A B a b D L l e g (ltb-true A B h)))
less_value false true A B a b D L l e g h = absurd (false≢true h)
less_value true false A B a b D L l e g h = go a b (less 0 (A + B) 0 (a + b) D L l (omega arith) (omega arith) (ltb-true 0 (A + B) h))
  where
    go : (a b : ℕ) → 0 < a + b → neg_ℤ (pos a) <ℤ pos b
    go zero b h = lt_z_yes (lt→ltb 0 b (omega arith))
    go (suc a) b h = lt_z_yes tt
less_value true true A B a b D L l e g h = go a b (less B A b a D L l g e (ltb-true B A h))
  where
    go : (a b : ℕ) → b < a → neg_ℤ (pos a) <ℤ neg_ℤ (pos b)
    go zero b h = absurd (omega arith)
    go (suc a) zero h = lt_z_yes tt
    go (suc a) (suc b) h = lt_z_yes (lt→ltb b a (omega arith))

-- so is the difference
difference : (A B a b D L : ℕ) → 0 < D → a * D ≡ A * L → b * D ≡ B * L → B ≤ A → ((A - B) * L ≡ (a - b) * D) × (b ≤ a)
difference A B a b D L d e g h =
    let l : b ≤ a = le_of_mul-le-mul_right {m = b} {n = a} {k = D} (omega (arith, mul-le-mul_right L h)) d in
    (by (A - B) (a - b) (omega arith) (omega arith), l)
  where
    by : (C c : ℕ) → A ≡ B + C → a ≡ b + c → C * L ≡ c * D
    by C c x y = omega (arith, ap (λ (z : ℕ). z * L) x, ap (λ (z : ℕ). z * D) y)

over : (s : Bool) (a b : ℕ) → b ≤ a → signed s a +ℤ signed (not s) b ≡ signed s (a - b)
over true a b h = simp differences (omega arith)
over false a b h = simp differences (omega arith)

under : (s : Bool) (a b : ℕ) → a ≤ b → signed s a +ℤ signed (not s) b ≡ signed (not s) (b - a)
under true a b h = simp differences (omega arith)
under false a b h = simp differences (omega arith)

both : (s : Bool) (a b : ℕ) → signed s a +ℤ signed s b ≡ signed s (a + b)
both true a b = simp differences (omega arith)
both false a b = refl

module _ (f : Format) (A B a b D : ℕ) (d : 0 < D) (e : a * D ≡ A * 2 ^ low f) (g : b * D ≡ B * 2 ^ low f) where
  abbrev p : ℕ
  p = prec f

  like : (s : Bool) → finite (round f s (A + B) D) ≡ true → value f (round f s (A + B) D) ≡ rounding p (signed s a +ℤ signed s b)
  like s ok = round_value f s (A + B) D (a + b) d (omega arith) ok ∙ sym (ap (rounding p) (both s a b) ∙ rounding_signed p s (a + b))

  none : (s : Bool) → pos (rounded p 0) ≡ signed s (rounded p 0)
  none true = simp rounded_zero
  none false = refl

  apart : (s : Bool) → Dec (A < B) → Dec (B < A) → finite (cond (ltb A B) (round f (not s) (B - A) D) (round f (s && ltb B A) (A - B) D)) ≡ true
      → value f (cond (ltb A B) (round f (not s) (B - A) D) (round f (s && ltb B A) (A - B) D)) ≡ rounding p (signed s a +ℤ signed (not s) b)
  apart s (yes x) y =
      let w = difference B A b a D (2 ^ low f) d g e (omega arith) in
      simp (lt-ltb A B x) (λ ok. round_value f (not s) (B - A) D (b - a) d w.0 ok ∙ sym (ap (rounding p) (under s a b w.1) ∙ rounding_signed p (not s) (b - a)))
  apart s (no x) (yes y) =
      let w = difference A B a b D (2 ^ low f) d e g (omega arith) in
      simp (le-ltb A B (omega arith), lt-ltb B A y, and-true) (λ ok. round_value f s (A - B) D (a - b) d w.0 ok ∙ sym (ap (rounding p) (over s a b w.1) ∙ rounding_signed p s (a - b)))
  apart s (no x) (no y) =
      let w = difference A B a b D (2 ^ low f) d e g (omega arith) in
      let v = difference B A b a D (2 ^ low f) d g e (omega arith) in
      let z : a - b ≡ 0 = omega (arith, w.1, v.1) in
      simp (le-ltb A B (omega arith), le-ltb B A (omega arith), and-false)
      (λ ok. round_value f false (A - B) D (a - b) d w.0 ok ∙ ap (λ (k : ℕ). pos (rounded p k)) z ∙ none s ∙ ap (λ (k : ℕ). signed s (rounded p k)) (sym z)
      ∙ sym (ap (rounding p) (over s a b w.1) ∙ rounding_signed p s (a - b)))

  sum_value : (s t : Bool) → finite (sum f s A t B D) ≡ true → value f (sum f s A t B D) ≡ rounding p (signed s a +ℤ signed t b)
  unfolding sum
  sum_value true true = like true
  sum_value false false = like false
  sum_value true false = apart true (dec_lt A B) (dec_lt B A)
  sum_value false true = apart false (dec_lt A B) (dec_lt B A)

-- ---- the floats

-- a finite float by its parts
data Number : Float → Type 0 where
  number : (s : Bool) (m : ℕ) (e : ℤ) → Number (fin s m e)

as_number : (x : Float) → finite x ≡ true → Number x
as_number nan h = absurd (false≢true h)
as_number (inf s) h = absurd (false≢true h)
as_number (fin s m e) h = number s m e

-- over the product of two denominators
module _ (f : Format) (s : Bool) (m : ℕ) (e : ℤ) (k : ℕ) (h : T (fits f (fin s m e))) where
  left : m * up e * 2 ^ low f / down e * (down e * k) ≡ m * up e * k * 2 ^ low f
  left = regroup (m * up e * 2 ^ low f / down e) (down e) (m * up e) (2 ^ low f) (exact m (low f) e (fits_down f s m e h))
    where
      regroup : (a d n l : ℕ) → a * d ≡ n * l → a * (d * k) ≡ n * k * l
      regroup a d n l i = omega (arith, ap (λ (x : ℕ). x * k) i)

  right : m * up e * 2 ^ low f / down e * (k * down e) ≡ m * up e * k * 2 ^ low f
  right = ap (λ (x : ℕ). m * up e * 2 ^ low f / down e * x) (mul_comm k (down e)) ∙ left

pub value_lt : (f : Format) (x y : Float) → T (fits f x) → T (fits f y) → finite x ≡ true → finite y ≡ true → lt x y ≡ true → value f x <ℤ value f y
unfolding value lt
value_lt f x y a b g h = go (as_number x g) (as_number y h) a b
  where
    go : {x y : Float} → Number x → Number y → T (fits f x) → T (fits f y) → lt x y ≡ true → value f x <ℤ value f y
    go (number s m e) (number t n d) a b l =
        less_value s t (m * up e * down d) (n * up d * down e) _ _ (down e * down d) (2 ^ low f) (pow_pos (low f)) (left f s m e (down d) a) (right f t n d (down e) b) l

pub add_finite : (f : Format) (x y : Float) → finite (add f x y) ≡ true → (finite x ≡ true) × (finite y ≡ true)
unfolding add
add_finite f nan y h = absurd (false≢true h)
add_finite f (inf s) nan h = absurd (false≢true h)
add_finite f (inf true) (inf true) h = absurd (false≢true h)
add_finite f (inf true) (inf false) h = absurd (false≢true h)
add_finite f (inf false) (inf true) h = absurd (false≢true h)
add_finite f (inf false) (inf false) h = absurd (false≢true h)
add_finite f (inf s) (fin t n d) h = absurd (false≢true h)
add_finite f (fin s m e) nan h = absurd (false≢true h)
add_finite f (fin s m e) (inf t) h = absurd (false≢true h)
add_finite f (fin s m e) (fin t n d) h = (refl, refl)

pub finite_neg : (x : Float) → finite (neg x) ≡ finite x
unfolding neg
finite_neg nan = refl
finite_neg (inf s) = refl
finite_neg (fin s m e) = refl

pub sub_finite : (f : Format) (x y : Float) → finite (sub f x y) ≡ true → (finite x ≡ true) × (finite y ≡ true)
unfolding sub
sub_finite f x y h = let a = add_finite f x (neg y) h in (a.0, sym (finite_neg y) ∙ a.1)

pub add_value : (f : Format) (x y : Float) → T (fits f x) → T (fits f y) → finite (add f x y) ≡ true → value f (add f x y) ≡ rounding (prec f) (value f x +ℤ value f y)
unfolding value add
add_value f x y a b h = let ok = add_finite f x y h in go (as_number x ok.0) (as_number y ok.1) a b h
  where
    go : {x y : Float} → Number x → Number y → T (fits f x) → T (fits f y) → finite (add f x y) ≡ true → value f (add f x y) ≡ rounding (prec f) (value f x +ℤ value f y)
    go (number s m e) (number t n d) a b h =
        sum_value f (m * up e * down d) (n * up d * down e) _ _ (down e * down d) (mul-pos (down_pos e) (down_pos d)) (left f s m e (down d) a) (right f t n d (down e) b) s t h

pub neg_value : (f : Format) (x : Float) → value f (neg x) ≡ neg_ℤ (value f x)
unfolding value neg
neg_value f nan = refl
neg_value f (inf s) = refl
neg_value f (fin true m e) = sym (neg_ℤ-neg_ℤ _)
neg_value f (fin false m e) = refl

pub sub_value : (f : Format) (x y : Float) → T (fits f x) → T (fits f y) → finite (sub f x y) ≡ true → value f (sub f x y) ≡ rounding (prec f) (value f x -ℤ value f y)
unfolding sub
sub_value f x y a b h = add_value f x (neg y) a (neg-fits f y b) h ∙ ap (λ (v : ℤ). rounding (prec f) (value f x +ℤ v)) (neg_value f y)

pub times_finite : (f : Format) (s : Bool) (m : ℕ) (e : ℤ) (x : Float) → finite (mul f (fin s m e) x) ≡ true → finite x ≡ true
unfolding mul
times_finite f s m e nan h = h
times_finite f s m e (inf t) h = go (eqb m 0) h
  where
    go : (b : Bool) → finite (cond b nan (inf (unlike s t))) ≡ true → false ≡ true
    go true h = h
    go false h = h
times_finite f s m e (fin t n d) h = refl

-- a whole number times a float
pub times_value : (f : Format) (s : Bool) (c k : ℕ) (x : Float) → T (fits f x) → finite (mul f (fin s c (pos k)) x) ≡ true
    → value f (mul f (fin s c (pos k)) x) ≡ rounding (prec f) (signed s (c * 2 ^ k) *ℤ value f x)
unfolding value mul
times_value f s c k x a h = go (as_number x (times_finite f s c (pos k) x h)) a h
  where
    signs : (s t : Bool) (a b : ℕ) → signed s a *ℤ signed t b ≡ signed (unlike s t) (a * b)
    signs true true a b = simp differences (omega arith)
    signs true false a b = simp differences (omega arith)
    signs false true a b = simp differences (omega arith)
    signs false false a b = refl

    regroup : (x a d n l : ℕ) → a * d ≡ n * l → x * n * l ≡ x * a * (1 * d)
    regroup x a d n l e = omega (arith, ap (λ (y : ℕ). x * y) e)

    go : {x : Float} → Number x → T (fits f x) → finite (mul f (fin s c (pos k)) x) ≡ true
        → value f (mul f (fin s c (pos k)) x) ≡ rounding (prec f) (signed s (c * 2 ^ k) *ℤ value f x)
    go (number t m e) a h =
        let n = m * up e * 2 ^ low f / down e in
        round_value f (unlike s t) (c * 2 ^ k * (m * up e)) (1 * down e) (c * 2 ^ k * n) (omega (arith, down_pos e)) (regroup (c * 2 ^ k) n (down e) (m * up e) (2 ^ low f) (exact m (low f) e (fits_down f t m e a))) h
        ∙ sym (ap (rounding (prec f)) (signs s t (c * 2 ^ k) n) ∙ rounding_signed (prec f) (unlike s t) (c * 2 ^ k * n))

-- ---- doubles

pub units_value : (x : Float) → units x ≡ value binary64 x
unfolding units value
units_value nan = refl
units_value (inf s) = refl
units_value (fin s m e) = refl

-- −2·x, as the Rust writes it, is exact if it is finite
pub twice_exact : (x : Float) → T (fits binary64 x) → finite (−2 ⊗ x) ≡ true → units (−2 ⊗ x) ≡ neg_ℤ (pos 2 *ℤ units x)
unfolding neg of_bits
twice_exact x h ok =
    units_value (−2 ⊗ x) ∙ times_value binary64 true 1 1 x h ok ∙ rounding_same (prec binary64) (neg_ℤ (pos 2) *ℤ value binary64 x) (twice_representable (value binary64 x) (value_representable binary64 x h))
    ∙ turned (as_diff (value binary64 x)) ∙ ap (λ (v : ℤ). neg_ℤ (pos 2 *ℤ v)) (sym (units_value x))
  where
    turned : {v : ℤ} → AsDiff v → neg_ℤ (pos 2) *ℤ v ≡ neg_ℤ (pos 2 *ℤ v)
    turned (is a b) = simp differences (omega arith)

    twice_representable : {p : ℕ} (v : ℤ) → Representable p (nat_abs v) → Representable p (nat_abs (neg_ℤ (pos 2) *ℤ v))
    twice_representable {p} (pos n) g = subst (Representable p) (sym (magnitude true (2 * n))) (representable_twice g)
    twice_representable (negsuc n) g = representable_twice g
