-- A natural number rounded to p binary digits: to the nearest multiple of its unit, a tie to the even one. This is what `round` does with a fraction that is whole (proofs/Values.antt).
use Prim.Native.Nat.compare
use Prim.Native.Nat.{ℕ, zero, suc, ◌+◌, ◌-◌, ◌*◌, ◌/◌, ◌%◌, ◌^◌, ◌≤◌, ◌<◌, compare, Ordering}
use native.Mathlib.Nat.{le_of_lt, le_of_eq, lt_of_lt_of_le, lt_of_le_of_lt, mul_assoc, mul-le-mul_right, le_of_mul-le-mul_right, div-add-mod', mod-lt, mul-div_cancel, mul-mod_left, lt_irrefl}
use native.Mathlib.Decide.{dec_lt}
use native.Mathlib.Omega.{arith}
use mathlib.Core.Path.{◌≡◌, refl, sym, ap, ◌∙◌, subst}
use mathlib.Core.Bool.{not}
use lib.Dec.{T, is_le, compare_is_eq, leb→le, nleb→lt, eqb→eq}
use lib.Pow.{pow-add, pow_pos, pow_mono, shl_lt, shl-shr}
use lib.Ieee.{size, nearest}
use lib.Ieee.Digits.{size-lt, size-le, size_reaches}
use lib.Ieee.Nearest.{closest, closest_mono}
use Rattle.model.proofs.Exact.{part}

above_zero : (u : ℕ) → 0 < u → compare 0 u ≡ Ordering.lt
above_zero zero h = absurd (lt_irrefl 0 h)
above_zero (suc u) h = compare.zero-suc u

-- a whole number of units is the closest to itself
closest_exact : (q u : ℕ) → 0 < u → closest (q * u) u ≡ q
closest_exact q u h =
    ap (λ (x : ℕ). nearest x (compare (q * u % u * 2) u)) (mul-div_cancel q h)
    ∙ ap (λ (x : ℕ). nearest q (compare (x * 2) u)) (mul-mod_left q u)
    ∙ ap (nearest q) (above_zero u h)

-- the unit in the last place that n keeps: n has `size n` digits
abbrev pub ulp : ℕ → ℕ → ℕ
ulp p n = 2 ^ (size n - p)

unfoldable pub rounded : ℕ → ℕ → ℕ
rounded p n = closest n (ulp p n) * ulp p n

-- ---- a number that needs no rounding: at most p digits and zeros after them
pub data Representable (p : ℕ) : ℕ → Type 0 where
  digits_and_zeros : (c j : ℕ) → c < 2 ^ p → Representable p (c * 2 ^ j)

pub size_mono : (a b : ℕ) → a ≤ b → size a ≤ size b
size_mono a b h = size-le a (size b) (lt_of_le_of_lt h (size-lt b))

whole : (c j k : ℕ) → k ≤ j → c * 2 ^ j / 2 ^ k * 2 ^ k ≡ c * 2 ^ j
whole c j k h =
    let e : c * 2 ^ j ≡ c * 2 ^ (j - k) * 2 ^ k = ap (λ (x : ℕ). c * x) (sym (part j k h)) ∙ sym (mul_assoc c (2 ^ (j - k)) (2 ^ k)) in
    ap (λ (x : ℕ). x / 2 ^ k * 2 ^ k) e ∙ ap (λ (x : ℕ). x * 2 ^ k) (shl-shr (c * 2 ^ (j - k)) k) ∙ sym e

pub representable_twice : {p n : ℕ} → Representable p n → Representable p (2 * n)
representable_twice {p} (digits_and_zeros c j l) = let e : 2 ^ suc j ≡ 2 * 2 ^ j = omega arith in subst (Representable p) (ap (λ (x : ℕ). c * x) e ∙ omega arith) (digits_and_zeros c (suc j) l)

-- it is a multiple of its unit, and of every smaller one
pub representable_whole : {p n : ℕ} (k : ℕ) → Representable p n → k ≤ size n - p → n / 2 ^ k * 2 ^ k ≡ n
representable_whole {p} k (digits_and_zeros c j l) h = let t = size-le (c * 2 ^ j) (p + j) (shl_lt p j l) in whole c j k (omega arith)

pub rounded_same : {p n : ℕ} → Representable p n → rounded p n ≡ n
unfolding rounded
rounded_same {p} {n} h =
    let u = ulp p n in
    let e = representable_whole (size n - p) h (le_of_eq refl) in
    ap (λ (x : ℕ). closest x u * u) (sym e) ∙ ap (λ (x : ℕ). x * u) (closest_exact (n / u) u (pow_pos (size n - p))) ∙ e

pub rounded_zero : (p : ℕ) → rounded p 0 ≡ 0
rounded_zero p = rounded_same (digits_and_zeros 0 0 (pow_pos p))

-- ---- rounding keeps the order

same_unit : (u a b : ℕ) → 0 < u → a ≤ b → closest a u * u ≤ closest b u * u
same_unit u a b v h = mul-le-mul_right u (closest_mono a u b u v v (mul-le-mul_right u h))

-- multiples of the unit bound the rounded number as they bound the number
rounded_under : (p n q : ℕ) → n ≤ q * ulp p n → rounded p n ≤ q * ulp p n
unfolding rounded
rounded_under p n q h = let u = ulp p n in let v = pow_pos (size n - p) in rw (closest_exact q u v) at (same_unit u n (q * u) v h)

rounded_over : (p n q : ℕ) → q * ulp p n ≤ n → q * ulp p n ≤ rounded p n
unfolding rounded
rounded_over p n q h = let u = ulp p n in let v = pow_pos (size n - p) in rw (closest_exact q u v) at (same_unit u (q * u) n v h)

pub rounded_mono : (p a b : ℕ) → 0 < p → a ≤ b → rounded p a ≤ rounded p b
unfolding rounded
rounded_mono p a b P h = go (dec_lt (size a - p) (size b - p))
  where
    go : Dec (size a - p < size b - p) → rounded p a ≤ rounded p b
    -- a power of two lies between them
    go (yes l) =
        let i = size a - p in
        let j = size b - p in
        let k = p - 1 + j in
        let low : a ≤ 2 ^ k = le_of_lt (lt_of_lt_of_le (size-lt a) (pow_mono (omega arith))) in
        let high : 2 ^ k ≤ b = size_reaches b k (omega arith) in
        let x : 2 ^ (k - i) * 2 ^ i ≡ 2 ^ k = part k i (omega arith) in
        let y : 2 ^ (k - j) * 2 ^ j ≡ 2 ^ k = part k j (omega arith) in
        omega (arith, rounded_under p a (2 ^ (k - i)) (omega arith), rounded_over p b (2 ^ (k - j)) (omega arith))
    go (no l) =
        let m = size_mono a b h in
        let e : size b - p ≡ size a - p = omega arith in
        subst (λ (k : ℕ). closest a (2 ^ k) * 2 ^ k ≤ rounded p b) e (same_unit (ulp p b) a b (pow_pos (size b - p)) h)

-- ---- the rounded number is half a unit away at most

abbrev Compared : Ordering → ℕ → ℕ → Type 0
Compared Ordering.lt a b = a ≤ b
Compared Ordering.eq a b = a ≡ b
Compared Ordering.gt a b = b ≤ a

compared : (a b : ℕ) → Compared (compare a b) a b
compared a b = go (compare a b) (leb→le a b) (nleb→lt a b) (eqb→eq a b)
  where
    go : (o : Ordering) → (T (is_le o) → a ≤ b) → (T (not (is_le o)) → b < a) → (T (compare_is_eq o) → a ≡ b) → Compared o a b
    go Ordering.lt h k e = h tt
    go Ordering.eq h k e = e tt
    go Ordering.gt h k e = le_of_lt (k tt)

abbrev Near : ℕ → ℕ → ℕ → Type 0
Near t n u = (t * 2 ≤ n * 2 + u) × (n * 2 ≤ t * 2 + u)

nearest_near : (q r u : ℕ) (o : Ordering) → r ≤ u → Compared o (r * 2) u → Near (nearest q o * u) (q * u + r) u
nearest_near q r u Ordering.lt l h = omega arith
nearest_near q r u Ordering.eq l h = go (q % 2) (omega arith)
  where
    go : (b : ℕ) → b ≤ 1 → Near ((q + b) * u) (q * u + r) u
    go zero g = omega arith
    go (suc zero) g = omega arith
    go (suc (suc b)) g = absurd (omega arith)
nearest_near q r u Ordering.gt l h = omega arith

closest_near : (n u : ℕ) → 0 < u → Near (closest n u * u) n u
closest_near n u h =
    subst (λ (x : ℕ). Near (closest n u * u) x u) (div-add-mod' n u)
    (nearest_near (n / u) (n % u) u (compare (n % u * 2) u) (le_of_lt (mod-lt n h)) (compared (n % u * 2) u))

-- a rounded to a multiple of 1, 2, 4 or 8: two off at most, or four off and a multiple of 8
pub data Close (a : ℕ) : ℕ → Type 0 where
  by_two : (t : ℕ) → t ≤ a + 2 → a ≤ t + 2 → Close a t
  by_four : (r : ℕ) → 8 * r ≤ a + 4 → a ≤ 8 * r + 4 → Close a (8 * r)

-- the same, counted in u
near_scaled : (c a v u : ℕ) → 0 < u → Near (c * (v * u)) (a * u) (v * u) → Near (c * v) a v
near_scaled c a v u h e =
    (le_of_mul-le-mul_right {m = c * v * 2} {n = a * 2 + v} {k = u} (omega (arith, e.0)) h, le_of_mul-le-mul_right {m = a * 2} {n = c * v * 2 + v} {k = u} (omega (arith, e.1)) h)

coarse : (c a d : ℕ) → d ≤ 3 → Near (c * 2 ^ d) a (2 ^ d) → Close a (c * 2 ^ d)
coarse c a zero l h = by_two (c * 1) (omega arith) (omega arith)
coarse c a (suc zero) l h = by_two (c * 2) (omega arith) (omega arith)
coarse c a (suc (suc zero)) l h = by_two (c * 4) (omega arith) (omega arith)
coarse c a (suc (suc (suc zero))) l h = subst (Close a) (omega arith) (by_four c (omega arith) (omega arith))
coarse c a (suc (suc (suc (suc d)))) l h = absurd (omega arith)

-- n is a times the unit of a number x that is no larger, a below 8 * 2 ^ p: rounded, it is so many of these units
pub record Steps (p x a n : ℕ) : Type 0 where
  pub steps : ℕ
  pub near : Close a steps
  pub is : rounded p n ≡ steps * ulp p x

pub rounded_steps : (p x a n : ℕ) → n ≡ a * ulp p x → x ≤ n → a < 8 * 2 ^ p → Steps p x a n
unfolding rounded
rounded_steps p x a n e h l =
    let k = size x - p in
    let d = size n - p - k in
    let top : 2 ^ (p + 3) ≡ 8 * 2 ^ p = pow-add 2 p 3 ∙ omega arith in
    let m = size_mono x n h in
    let s = size-le n (p + 3 + k) (subst (λ (y : ℕ). y < 2 ^ (p + 3 + k)) (sym e) (shl_lt (p + 3) k (omega arith))) in
    let c = closest n (ulp p n) in
    let v : ulp p n ≡ 2 ^ d * 2 ^ k = ap (λ (y : ℕ). 2 ^ y) (omega arith) ∙ pow-add 2 d k in
    let near = subst (λ (y : ℕ). Near (c * y) n y) v (closest_near n (ulp p n) (pow_pos (size n - p))) in
    record {
      steps = c * 2 ^ d;
      near = coarse c a d (omega arith) (near_scaled c a (2 ^ d) (2 ^ k) (pow_pos k) (subst (λ (y : ℕ). Near (c * (2 ^ d * 2 ^ k)) y (2 ^ d * 2 ^ k)) e near));
      is = ap (λ (y : ℕ). c * y) v ∙ sym (mul_assoc c (2 ^ d) (2 ^ k));
    }
