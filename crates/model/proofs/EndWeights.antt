-- Over a grid that rises the Time weights of the two ends are not negative, though they round three times: 5·s[N0] + s[N0+1] − 6·s[0] and 6·s[n] − 5·s[n−N1] − s[n−N1−1].
use Prim.Native.Nat.{ℕ, zero, suc, ◌+◌, ◌*◌, ◌^◌, ◌≤◌, ◌<◌}
use native.Mathlib.Omega.{arith}
use mathlib.Core.Path.{◌≡◌, refl, sym, ap, ◌∙◌, subst}
use mathlib.Core.Bool.{true, false}
use lib.Dec.{T, le→leb, ltb→lt, lit≤}
use lib.IntN.{ℤ, pos, negsuc, neg_ℤ, nat_abs, ◌+ℤ◌, ◌-ℤ◌, ◌*ℤ◌}
use lib.Pow.{pow_pos}
use lib.Signed.{◌<ℤ◌, le_z_yes}
use lib.Ieee.{Float, nan, inf, fin, Format, binary32, binary64, prec, low, down, add, sub, mul, fits, of_bits}
use lib.Ieee.Fits.{add-fits, sub-fits, mul-fits}
use Rattle.model.specs.Numbers.{finite, ◌⊕◌, ◌⊖◌, ◌⊗◌, +5, +6}
use Rattle.model.specs.Meaning.{◌≼◌}
use Rattle.model.proofs.Integers.{AsDiff, is, as_diff, differences}
use Rattle.model.proofs.Exact.{exact, fits_down}
use Rattle.model.proofs.Rounding.{Representable, rounded, rounded_mono, rounded_zero}
use Rattle.model.proofs.Neighbours.{five_below, five_above, six_above, six_below}
use Rattle.model.proofs.Values.{rounding, rounding_signed, rounding_mono, rounding_same, neg_le_pos, neg_le_neg, value, value_representable, add_finite, sub_finite, add_value, sub_value, times_value}
use Rattle.model.proofs.Signs.{plus, zero_plus}

-- ---- numbers below zero, compared

right_of : (a r s : ℕ) → r ≤ s → neg_ℤ (pos a) +ℤ pos r ≼ pos s
right_of a r s h = simp differences (omega arith)

around : (a r s : ℕ) → neg_ℤ (pos a) +ℤ neg_ℤ (pos r) ≼ pos s
around a r s = simp differences (omega arith)

left_of : (a r s : ℕ) → s ≤ r + a → neg_ℤ (pos a) +ℤ neg_ℤ (pos r) ≼ neg_ℤ (pos s)
left_of a r s h = simp differences (omega arith)

-- ---- whole numbers of p digits, w < x < y

module _ {p : ℕ} (P : 3 ≤ p) where
  turned : (n : ℕ) → rounding p (neg_ℤ (pos n)) ≡ neg_ℤ (pos (rounded p n))
  turned n = rounding_signed p true n

  five_law : (w x : ℤ) → Representable p (nat_abs w) → Representable p (nat_abs x) → w <ℤ x → pos 5 *ℤ w ≼ rounding p (pos 5 *ℤ x)
  unfolding rounding
  five_law (pos a) (pos b) W X h = le_z_yes (le→leb _ _ (five_below P X W (ltb→lt a b h.lt)))
  five_law (pos a) (negsuc b) W X h = absurd h.lt
  five_law (negsuc a) (pos b) W X h = neg_le_pos (5 * suc a) (rounded p (5 * b))
  five_law (negsuc a) (negsuc b) W X h = rw (turned (5 * suc b)) (neg_le_neg (5 * suc a) (rounded p (5 * suc b)) (five_above P X W (omega (arith, ltb→lt b a h.lt))))

  six_law : (w x y : ℤ) → Representable p (nat_abs w) → Representable p (nat_abs x) → Representable p (nat_abs y) → w <ℤ x → x <ℤ y → w +ℤ rounding p (pos 5 *ℤ x) ≼ rounding p (pos 6 *ℤ y)
  unfolding rounding
  six_law (pos a) (pos b) (pos c) W X Y h l = le_z_yes (le→leb _ _ (six_above P X W Y (ltb→lt a b h.lt) (ltb→lt b c l.lt)))
  six_law (pos a) (pos b) (negsuc c) W X Y h l = absurd l.lt
  six_law (pos a) (negsuc b) y W X Y h l = absurd h.lt
  six_law (negsuc a) (pos b) (pos c) W X Y h l =
      right_of (suc a) (rounded p (5 * b)) (rounded p (6 * c)) (rounded_mono p (5 * b) (6 * c) (omega arith) (omega (arith, ltb→lt b c l.lt)))
  six_law (negsuc a) (pos b) (negsuc c) W X Y h l = absurd l.lt
  six_law (negsuc a) (negsuc b) (pos c) W X Y h l = rw (turned (5 * suc b)) (around (suc a) (rounded p (5 * suc b)) (rounded p (6 * c)))
  six_law (negsuc a) (negsuc b) (negsuc c) W X Y h l =
      rw (turned (5 * suc b), turned (6 * suc c))
      (left_of (suc a) (rounded p (5 * suc b)) (rounded p (6 * suc c)) (six_below P X Y W (omega (arith, ltb→lt c b l.lt)) (omega (arith, ltb→lt b a h.lt))))

  zero_rounding : rounding p (pos 0) ≡ pos 0
  zero_rounding = rounding_signed p false 0 ∙ ap pos (rounded_zero p)

  -- a difference that is not below zero
  difference : (u v : ℤ) → u ≼ v → pos 0 ≼ rounding p (v -ℤ u)
  difference u v h = subst (λ (z : ℤ). z ≼ rounding p (v -ℤ u)) zero_rounding (rounding_mono p (omega arith) (pos 0) (v -ℤ u) (law (as_diff u) (as_diff v) h))
    where
      law : {u v : ℤ} → AsDiff u → AsDiff v → u ≼ v → pos 0 ≼ v -ℤ u
      law (is a b) (is c d) = simp differences (omega arith)

pub lt_le : (x y : ℤ) → x <ℤ y → x ≼ y
lt_le (pos a) (pos b) h = le_z_yes (le→leb a b (omega (arith, ltb→lt a b h.lt)))
lt_le (pos a) (negsuc b) h = absurd h.lt
lt_le (negsuc a) (pos b) h = le_z_yes tt
lt_le (negsuc a) (negsuc b) h = le_z_yes (le→leb b a (omega (arith, ltb→lt b a h.lt)))

six_of_five : {w x y a : ℤ} → AsDiff w → AsDiff x → AsDiff y → AsDiff a → pos 5 *ℤ w ≼ a → w ≼ x → x ≼ y → pos 6 *ℤ w ≼ a +ℤ y
six_of_five (is a b) (is c d) (is e f) (is g h) = simp differences (omega arith)

moved : {w a c : ℤ} → AsDiff w → AsDiff a → AsDiff c → w +ℤ a ≼ c → w ≼ c -ℤ a
moved (is a b) (is c d) (is e f) = simp differences (omega arith)

-- ---- the floats

digits : (f : Format) → 3 ≤ prec f
digits binary32 = lit≤ tt
digits binary64 = lit≤ tt

plus_when : (f : Format) (z : Float) → T (fits f z) → (finite z ≡ true → pos 0 ≼ value f z) → plus z ≡ true
unfolding value
plus_when f nan t h = refl
plus_when f (inf s) t h = refl
plus_when f (fin false m e) t h = refl
plus_when f (fin true m e) t h =
    zero_plus (fin true m e) true (2 ^ low f) (pow_pos (low f)) (refl, sym (exact m (low f) e (fits_down f true m e t)) ∙ ap (λ (k : ℕ). k * down e) (by _ (h refl)))
  where
    by : (k : ℕ) → pos 0 ≼ neg_ℤ (pos k) → k ≡ 0
    by zero i = refl
    by (suc k) i = absurd i.le

module _ (f : Format) (w x y : Float) (W : T (fits f w)) (X : T (fits f x)) (Y : T (fits f y)) (h : value f w <ℤ value f x) (l : value f x <ℤ value f y) where
  abbrev p : ℕ
  p = prec f

  positive : 0 < p
  positive = omega (arith, digits f)

  abbrev five : Float → Float
  five z = mul f (fin false 5 (pos 0)) z

  abbrev six : Float → Float
  six z = mul f (fin false 3 (pos 1)) z

  at_start_lem : finite (sub f (add f (five x) y) (six w)) ≡ true → pos 0 ≼ value f (sub f (add f (five x) y) (six w))
  at_start_lem ok =
      let r = sub_finite f (add f (five x) y) (six w) ok in
      let t = add_finite f (five x) y r.0 in
      let v = value f w in
      let g = five_law (digits f) v (value f x) (value_representable f w W) (value_representable f x X) h in
      let k = six_of_five (as_diff v) (as_diff (value f x)) (as_diff (value f y)) (as_diff _) g (lt_le _ _ h) (lt_le _ _ l) in
      rw (sub_value f (add f (five x) y) (six w) (add-fits f (five x) y) (mul-fits f (fin false 3 (pos 1)) w) ok)
      (difference (digits f) (value f (six w)) (value f (add f (five x) y))
      (rw (times_value f false 3 1 w W r.1, add_value f (five x) y (mul-fits f (fin false 5 (pos 0)) x) Y r.0, times_value f false 5 0 x X t.0) (rounding_mono p positive _ _ k)))

  at_end_lem : finite (sub f (sub f (six y) (five x)) w) ≡ true → pos 0 ≼ value f (sub f (sub f (six y) (five x)) w)
  at_end_lem ok =
      let r = sub_finite f (sub f (six y) (five x)) w ok in
      let t = sub_finite f (six y) (five x) r.0 in
      let v = value f w in
      let g = six_law (digits f) v (value f x) (value f y) (value_representable f w W) (value_representable f x X) (value_representable f y Y) h l in
      let k = moved (as_diff v) (as_diff _) (as_diff _) g in
      rw (sub_value f (sub f (six y) (five x)) w (sub-fits f (six y) (five x)) W ok)
      (difference (digits f) v (value f (sub f (six y) (five x)))
      (rw (sub_value f (six y) (five x) (mul-fits f (fin false 3 (pos 1)) y) (mul-fits f (fin false 5 (pos 0)) x) r.0, times_value f false 3 1 y Y t.0, times_value f false 5 0 x X t.1)
      (rw (rounding_same p v (value_representable f w W)) at (rounding_mono p positive v _ k))))

-- a later station less an earlier one
later_less : (f : Format) (x y : Float) → T (fits f x) → T (fits f y) → value f x <ℤ value f y → finite (sub f y x) ≡ true → pos 0 ≼ value f (sub f y x)
later_less f x y X Y h ok = rw (sub_value f y x Y X ok) (difference (digits f) (value f x) (value f y) (lt_le _ _ h))

-- of doubles w < x < y

abbrev pub Double : Float → Type 0
Double x = T (fits binary64 x)

infix 4 ◌≺◌
abbrev pub ◌≺◌ : Float → Float → Type 0
◌≺◌ x y = value binary64 x <ℤ value binary64 y

pub start_plus : (w x y : Float) → Double w → Double x → Double y → w ≺ x → x ≺ y → plus (+5 ⊗ x ⊕ y ⊖ +6 ⊗ w) ≡ true
unfolding of_bits
start_plus w x y W X Y h l = plus_when binary64 (+5 ⊗ x ⊕ y ⊖ +6 ⊗ w) (sub-fits binary64 (+5 ⊗ x ⊕ y) (+6 ⊗ w)) (at_start_lem binary64 w x y W X Y h l)

pub end_plus : (w x y : Float) → Double w → Double x → Double y → w ≺ x → x ≺ y → plus (+6 ⊗ y ⊖ +5 ⊗ x ⊖ w) ≡ true
unfolding of_bits
end_plus w x y W X Y h l = plus_when binary64 (+6 ⊗ y ⊖ +5 ⊗ x ⊖ w) (sub-fits binary64 (+6 ⊗ y ⊖ +5 ⊗ x) w) (at_end_lem binary64 w x y W X Y h l)

pub moving_plus : (x y : Float) → Double x → Double y → x ≺ y → plus (y ⊖ x) ≡ true
moving_plus x y X Y h = plus_when binary64 (y ⊖ x) (sub-fits binary64 y x) (later_less binary64 x y X Y h)
