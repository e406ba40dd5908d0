-- Different numbers of p digits are a unit apart. So for w < x < y of p digits 5·x, rounded, is no less than 5·w, and 6·y less 5·x, both rounded, no less than w; and the like below zero.
use Prim.Native.Nat.{ℕ, zero, suc, ◌+◌, ◌-◌, ◌*◌, ◌/◌, ◌^◌, ◌≤◌, ◌<◌}
use native.Mathlib.Nat.{le_of_eq, lt_of_lt_of_le, lt_of_not-le, not-le_of_lt, lt_of_mul-lt-mul_right, mul-le-mul_right}
use native.Mathlib.Decide.{dec_lt, ℕ_discrete}
use native.Mathlib.Omega.{arith}
use mathlib.Core.Path.{◌≡◌, refl, sym, ap, subst}
use lib.Pow.{pow_pos, pow_mono}
use lib.Ieee.{size}
use lib.Ieee.Digits.{size-lt, size_reaches}
use lib.Ieee.Fits.{kept-lt}
use Rattle.model.proofs.Exact.{part}
use Rattle.model.proofs.Rounding.{ulp, rounded, Representable, digits_and_zeros, representable_whole, size_mono, rounded_same, rounded_zero, rounded_mono, Close, by_two, by_four, Steps, rounded_steps}

-- ---- the numbers above and below one

apart : (i j u a b : ℕ) → i * u ≡ a → j * u ≡ b → a < b → a + u ≤ b
apart i j u a b e f h = let l : i < j = lt_of_mul-lt-mul_right u {m = i} {n = j} (omega arith) in omega (arith, mul-le-mul_right u l)

above : {p x y : ℕ} → Representable p x → Representable p y → x < y → x + ulp p x ≤ y
above {p} {x} {y} a b h =
    let u = ulp p x in
    let m = size_mono x y (omega arith) in
    apart (x / u) (y / u) u x y (representable_whole (size x - p) a (omega arith)) (representable_whole (size x - p) b (omega arith)) h

size_gt : (n j : ℕ) → 2 ^ j ≤ n → j < size n
size_gt n j h = lt_of_not-le (λ (g : size n ≤ j). not-le_of_lt (lt_of_lt_of_le (size-lt n) (pow_mono g)) h)

-- below a power of two the numbers may be closer
data Lower (p w x : ℕ) : Type 0 where
  gap : w + ulp p x ≤ x → Lower p w x
  power : (j : ℕ) → x ≡ 2 ^ j → Lower p w x

below : {p w x : ℕ} → 0 < p → Representable p w → Representable p x → w < x → Lower p w x
below {p} {w} {x} P a b h = go (dec_lt 0 (size x - p))
  where
    go : Dec (0 < size x - p) → Lower p w x
    go (no l) = let e : 0 ≡ size x - p = omega arith in gap (subst (λ (k : ℕ). w + 2 ^ k ≤ x) e (omega arith))
    go (yes l) = by (ℕ_discrete x (2 ^ (p - 1 + (size x - p)))) (dec_lt w (2 ^ (p - 1 + (size x - p))))
      where
        by : Dec (x ≡ 2 ^ (p - 1 + (size x - p))) → Dec (w < 2 ^ (p - 1 + (size x - p))) → Lower p w x
        by (yes e) d = power (p - 1 + (size x - p)) e
        by (no e) (yes d) =
            let k = size x - p in
            let t = p - 1 + k in
            let r = size_reaches x t (omega arith) in
            let s = apart (2 ^ (t - k)) (x / 2 ^ k) (2 ^ k) (2 ^ t) x (part t k (omega arith)) (representable_whole k b (omega arith)) (omega arith) in
            gap (omega arith)
        by (no e) (no d) =
            let k = size x - p in
            let s = size_gt w (p - 1 + k) (omega arith) in
            gap (apart (w / 2 ^ k) (x / 2 ^ k) (2 ^ k) w x (representable_whole k a (omega arith)) (representable_whole k b (omega arith)) h)

-- ---- 5·q and 6·(q ± 1), rounded

close_low : {a t : ℕ} → Close a t → a ≤ t + 4
close_low (by_two t h l) = omega arith
close_low (by_four r h l) = omega arith

close_high : {a t : ℕ} → Close a t → t ≤ a + 4
close_high (by_two t h l) = omega arith
close_high (by_four r h l) = omega arith

even_odd : (a b : ℕ) → 2 * a ≡ 2 * b + 1 → ⊥
even_odd a b e = omega arith

-- four off both ways cannot be: q would be even by the one and odd by the other
six_after : (q : ℕ) {t v : ℕ} → Close (5 * q) t → Close (6 * (q + 1)) v → t + q ≤ v + 1
six_after q (by_two t a b) v = omega (arith, close_low v)
six_after q (by_four t a b) (by_two v c d) = omega arith
six_after q (by_four t a b) (by_four v c d) = go (dec_lt (8 * v + 1) (8 * t + q))
  where
    go : Dec (8 * v + 1 < 8 * t + q) → 8 * t + q ≤ 8 * v + 1
    go (yes l) = absurd (even_odd (12 * t) (10 * v + 3) (omega arith))
    go (no l) = omega arith

six_before : (q n : ℕ) {t v : ℕ} → q ≡ n + 1 → Close (5 * q) t → Close (6 * n) v → v ≤ t + q + 1
six_before q n e (by_two t a b) v = omega (arith, close_high v)
six_before q n e (by_four t a b) (by_two v c d) = omega arith
six_before q n e (by_four t a b) (by_four v c d) = go (dec_lt (8 * t + q + 1) (8 * v))
  where
    go : Dec (8 * t + q + 1 < 8 * v) → 8 * v ≤ 8 * t + q + 1
    go (yes l) = absurd (even_odd (10 * v) (12 * t + 3) (omega arith))
    go (no l) = omega arith

-- ---- and so of 5·x and 6·x

module _ {p : ℕ} (P : 3 ≤ p) where
  powers : (c j x : ℕ) → c < 8 → x ≡ 2 ^ j → rounded p (c * x) ≡ c * x
  powers c j x h e = rounded_same (subst (λ (y : ℕ). Representable p (c * y)) (sym e) (digits_and_zeros c j (lt_of_lt_of_le h (pow_mono P))))

  module _ {x : ℕ} (X : Representable p x) where
    abbrev u : ℕ
    u = ulp p x

    abbrev q : ℕ
    q = x / u

    by_units : q * u ≡ x
    by_units = representable_whole (size x - p) X (le_of_eq refl)

    -- a multiple of x's unit, up to 6·(x + the unit)
    steps : (a n : ℕ) → n ≡ a * u → x ≤ n → a ≤ 6 * q + 6 → Steps p x a n
    steps a n e h l = rounded_steps p x a n e h (omega (arith, kept-lt p x, pow_pos p))

    five : Steps p x (5 * q) (5 * x)
    five = steps (5 * q) (5 * x) (omega (arith, by_units)) (omega arith) (omega arith)

    pub five_below : {w : ℕ} → Representable p w → w < x → 5 * w ≤ rounded p (5 * x)
    five_below {w} W h = go (below (omega arith) W X h)
      where
        go : Lower p w x → 5 * w ≤ rounded p (5 * x)
        go (gap g) = omega (arith, by_units, mul-le-mul_right u (close_low five.near), five.is)
        go (power j e) = omega (arith, powers 5 j x (omega arith) e)

    pub five_above : {w : ℕ} → Representable p w → x < w → rounded p (5 * x) ≤ 5 * w
    five_above {w} W h = omega (arith, above X W h, by_units, mul-le-mul_right u (close_high five.near), five.is)

    pub six_above : {w y : ℕ} → Representable p w → Representable p y → w < x → x < y → w + rounded p (5 * x) ≤ rounded p (6 * y)
    six_above {w} {y} W Y h l = go (below (omega arith) W X h)
      where
        go : Lower p w x → w + rounded p (5 * x) ≤ rounded p (6 * y)
        go (gap g) =
            let six = steps (6 * (q + 1)) (6 * (x + u)) (omega (arith, by_units)) (omega arith) (omega arith) in
            let m = rounded_mono p (6 * (x + u)) (6 * y) (omega arith) (omega (arith, above X Y l)) in
            omega (arith, by_units, mul-le-mul_right u (six_after q five.near six.near), five.is, six.is)
        go (power j e) = omega (arith, powers 5 j x (omega arith) e, powers 6 j x (omega arith) e, rounded_mono p (6 * x) (6 * y) (omega arith) (omega arith))

    pub six_below : {y w : ℕ} → Representable p y → Representable p w → y < x → x < w → rounded p (6 * y) ≤ rounded p (5 * x) + w
    six_below {y} {w} Y W h l = go (below (omega arith) Y X h)
      where
        before : y + u ≤ x → (i : ℕ) → q ≡ i → rounded p (6 * y) ≤ rounded p (5 * x) + w
        before g zero e = absurd (omega (arith, by_units, ap (λ (k : ℕ). k * u) e))
        before g (suc zero) e =
            let none : 6 * y ≡ 0 = omega (arith, by_units, ap (λ (k : ℕ). k * u) e) in
            omega (arith, ap (rounded p) none, rounded_zero p)
        before g (suc (suc i)) e =
            let is = ap (λ (k : ℕ). k * u) e in
            let six = steps (6 * (i + 1)) (6 * (i + 1) * u) refl (omega (arith, by_units)) (omega arith) in
            let m = rounded_mono p (6 * y) (6 * (i + 1) * u) (omega arith) (omega (arith, by_units)) in
            omega (arith, by_units, mul-le-mul_right u (six_before q (i + 1) (omega arith) five.near six.near), five.is, six.is, above X W l)

        go : Lower p y x → rounded p (6 * y) ≤ rounded p (5 * x) + w
        go (gap g) = before g q refl
        go (power j e) = omega (arith, powers 5 j x (omega arith) e, powers 6 j x (omega arith) e, rounded_mono p (6 * y) (6 * x) (omega arith) (omega arith))
