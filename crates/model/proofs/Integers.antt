-- Whole numbers as differences of two naturals. By these laws an expression over ℤ becomes one difference, and `omega`, which multiplies out, proves what is left.
use Prim.Native.Nat.{ℕ, zero, suc, ◌+◌, ◌-◌, ◌*◌, ◌≤◌, ◌<◌}
use native.Mathlib.Nat.{le_of_mul-le-mul_left, mul-le-mul_left}
use native.Mathlib.Decide.{dec_lt}
use native.Mathlib.Omega.{arith}
use mathlib.Core.Path.{◌≡◌, refl, sym, ap, ap₂, ◌∙◌, subst}
use mathlib.Core.Logic.{◌↔◌}
use lib.Dec.{T, leb→le, le→leb}
use lib.IntN.{ℤ, pos, negsuc, neg_ℤ, sub_ℕ, ◌+ℤ◌, ◌-ℤ◌, ◌*ℤ◌}
use lib.Signed.{le_z, ◌≤ℤ◌, ≤ℤ_refl}
use borrow.Author.Tests.{lt-ltb, le-ltb}

-- a − b
unfoldable pub diff : ℕ → ℕ → ℤ
diff a b = sub_ℕ a b

diff_over : (b k : ℕ) → diff (b + k) b ≡ pos k
unfolding diff
diff_over b k = simp (le-ltb (b + k) b (omega arith)) (ap pos (omega arith))

diff_under : (a k : ℕ) → diff a (a + suc k) ≡ negsuc k
unfolding diff
diff_under a k = simp (lt-ltb a (a + suc k) (omega arith)) (ap negsuc (omega arith))

pub diff_pos : (a b k : ℕ) → a ≡ b + k → diff a b ≡ pos k
diff_pos a b k e = ap (λ (x : ℕ). diff x b) e ∙ diff_over b k

pub diff_neg : (a b k : ℕ) → b ≡ a + suc k → diff a b ≡ negsuc k
diff_neg a b k e = ap (λ (x : ℕ). diff a x) e ∙ diff_under a k

-- a difference is one or the other
pub data View : ℕ → ℕ → Type 0 where
  over : (b k : ℕ) → View (b + k) b
  under : (a k : ℕ) → View a (a + suc k)

pub view : (a b : ℕ) → View a b
view a b = go (dec_lt a b)
  where
    go : Dec (a < b) → View a b
    go (yes h) = subst (λ (x : ℕ). View a x) (omega arith) (under a (b - suc a))
    go (no h) = subst (λ (x : ℕ). View x b) (omega arith) (over b (a - b))

pub pos_diff : (k : ℕ) → pos k ≡ diff k 0
pos_diff k = sym (diff_pos k 0 k (omega arith))

pub neg_pos : (k : ℕ) → neg_ℤ (pos k) ≡ diff 0 k
neg_pos zero = sym (diff_pos 0 0 0 refl)
neg_pos (suc k) = sym (diff_neg 0 (suc k) k (omega arith))

-- equal differences
pub same_diff : (a b c d : ℕ) → a + d ≡ c + b → diff a b ≡ diff c d
same_diff a b c d e = go a b (view a b) e
  where
    go : (a b : ℕ) → View a b → a + d ≡ c + b → diff a b ≡ diff c d
    go _ _ (over b k) e = diff_over b k ∙ sym (diff_pos c d k (omega arith))
    go _ _ (under a k) e = diff_under a k ∙ sym (diff_neg c d k (omega arith))

pub neg_diff : (a b : ℕ) → neg_ℤ (diff a b) ≡ diff b a
neg_diff a b = go a b (view a b)
  where
    go : (a b : ℕ) → View a b → neg_ℤ (diff a b) ≡ diff b a
    go _ _ (over b k) = ap neg_ℤ (diff_over b k) ∙ neg_pos k ∙ same_diff 0 k b (b + k) (omega arith)
    go _ _ (under a k) = ap neg_ℤ (diff_under a k) ∙ sym (diff_over a (suc k))

mixed : (k l : ℕ) → sub_ℕ k (suc l) ≡ diff k (suc l)
unfolding diff
mixed k l = refl

pub add_diff : (a b c d : ℕ) → diff a b +ℤ diff c d ≡ diff (a + c) (b + d)
add_diff a b c d = go a b c d (view a b) (view c d)
  where
    go : (a b c d : ℕ) → View a b → View c d → diff a b +ℤ diff c d ≡ diff (a + c) (b + d)
    go _ _ _ _ (over b k) (over d l) = ap₂ ◌+ℤ◌ (diff_over b k) (diff_over d l) ∙ sym (diff_pos (b + k + (d + l)) (b + d) (k + l) (omega arith))
    go _ _ _ _ (over b k) (under c l) = ap₂ ◌+ℤ◌ (diff_over b k) (diff_under c l) ∙ mixed k l ∙ same_diff k (suc l) (b + k + c) (b + (c + suc l)) (omega arith)
    go _ _ _ _ (under a k) (over d l) = ap₂ ◌+ℤ◌ (diff_under a k) (diff_over d l) ∙ mixed l k ∙ same_diff l (suc k) (a + (d + l)) (a + suc k + d) (omega arith)
    go _ _ _ _ (under a k) (under c l) = ap₂ ◌+ℤ◌ (diff_under a k) (diff_under c l) ∙ sym (diff_neg (a + c) (a + suc k + (c + suc l)) (suc (k + l)) (omega arith))

pub mul_diff : (a b c d : ℕ) → diff a b *ℤ diff c d ≡ diff (a * c + b * d) (a * d + b * c)
mul_diff a b c d = go a b c d (view a b) (view c d)
  where
    go : (a b c d : ℕ) → View a b → View c d → diff a b *ℤ diff c d ≡ diff (a * c + b * d) (a * d + b * c)
    go _ _ _ _ (over b k) (over d l) = ap₂ ◌*ℤ◌ (diff_over b k) (diff_over d l) ∙ pos_diff (k * l) ∙ same_diff (k * l) 0 _ _ (omega arith)
    go _ _ _ _ (over b k) (under c l) = ap₂ ◌*ℤ◌ (diff_over b k) (diff_under c l) ∙ neg_pos (k * suc l) ∙ same_diff 0 (k * suc l) _ _ (omega arith)
    go _ _ _ _ (under a k) (over d l) = ap₂ ◌*ℤ◌ (diff_under a k) (diff_over d l) ∙ neg_pos (suc k * l) ∙ same_diff 0 (suc k * l) _ _ (omega arith)
    go _ _ _ _ (under a k) (under c l) = ap₂ ◌*ℤ◌ (diff_under a k) (diff_under c l) ∙ pos_diff (suc k * suc l) ∙ same_diff (suc k * suc l) 0 _ _ (omega arith)

-- differences compared
le_cases : (x y : ℤ) → x ≤ℤ y ↔ T (le_z x y)
le_cases x y = (λ h. h.le, λ h. record { le = h })

pub le_diff : (a b c d : ℕ) → diff a b ≤ℤ diff c d ↔ (a + d ≤ c + b)
le_diff a b c d = go a b c d (view a b) (view c d)
  where
    go : (a b c d : ℕ) → View a b → View c d → diff a b ≤ℤ diff c d ↔ (a + d ≤ c + b)
    go _ _ _ _ (over b k) (over d l) = simp (diff_over, le_cases) ((λ t. let h = leb→le k l t in omega arith), λ h. le→leb k l (omega arith))
    go _ _ _ _ (over b k) (under c l) = simp (diff_over, diff_under, le_cases) ((λ t. absurd t), λ h. omega arith)
    go _ _ _ _ (under a k) (over d l) = simp (diff_over, diff_under, le_cases) ((λ t. omega arith), λ h. tt)
    go _ _ _ _ (under a k) (under c l) = simp (diff_under, le_cases) ((λ t. let h = leb→le l k t in omega arith), λ h. le→leb l k (omega arith))

pub eq_diff : (a b c d : ℕ) → (diff a b ≡ diff c d) ↔ (a + d ≡ c + b)
eq_diff a b c d = (λ e. omega (arith, ((le_diff a b c d).0 (subst (λ (x : ℤ). diff a b ≤ℤ x) e (≤ℤ_refl (diff a b)))), ((le_diff c d a b).0 (subst (λ (x : ℤ). x ≤ℤ diff a b) e (≤ℤ_refl (diff a b))))), same_diff a b c d)

pub ruleset differences = (pos_diff, neg_pos, neg_diff, add_diff, mul_diff, eq_diff, le_diff)

-- Every whole number is a difference: a law matches on `is a b` for each of its numbers, and its user writes `as_diff x`
pub data AsDiff : ℤ → Type 0 where
  is : (a b : ℕ) → AsDiff (diff a b)

pub as_diff : (x : ℤ) → AsDiff x
as_diff (pos k) = subst AsDiff (sym (pos_diff k)) (is k 0)
as_diff (negsuc k) = subst AsDiff (diff_neg 0 (suc k) k (omega arith)) (is 0 (suc k))

pub add_mul : {x y z : ℤ} → AsDiff x → AsDiff y → AsDiff z → (x +ℤ y) *ℤ z ≡ x *ℤ z +ℤ y *ℤ z
add_mul (is a b) (is c d) (is e f) = simp (add_diff, mul_diff) (same_diff _ _ _ _ (omega arith))

pub times_le : (u : ℕ) → 0 < u → {x y : ℤ} → AsDiff x → AsDiff y → (pos u *ℤ x) ≤ℤ (pos u *ℤ y) ↔ x ≤ℤ y
times_le u h (is a b) (is c d) =
    simp (pos_diff, mul_diff, le_diff) ((λ e. le_of_mul-le-mul_left {m = a + d} {n = c + b} {k = u} (omega arith) h), λ e. omega (arith, mul-le-mul_left u e))

pub add_swap : {w x y z : ℤ} → AsDiff w → AsDiff x → AsDiff y → AsDiff z → w +ℤ x +ℤ (y +ℤ z) ≡ w +ℤ y +ℤ (x +ℤ z)
add_swap (is a b) (is c d) (is e f) (is g h) = simp add_diff (same_diff _ _ _ _ (omega arith))

pub add_sub : {x y : ℤ} → AsDiff x → AsDiff y → x +ℤ (y -ℤ x) ≡ y
add_sub (is a b) (is c d) = simp (neg_diff, add_diff) (same_diff _ _ _ _ (omega arith))

pub natural : (k : ℕ) → pos 0 ≤ℤ pos k
natural k = simp (pos_diff, le_diff) (omega arith)

-- a positive factor does not change the sign
pub sign_law : (u : ℕ) → 0 < u → {x : ℤ} → AsDiff x → pos 0 ≤ℤ (pos u *ℤ x) ↔ pos 0 ≤ℤ x
sign_law u h (is a b) =
    simp differences ((λ e. omega (arith, le_of_mul-le-mul_left {m = b} {n = a} {k = u} (omega arith) h)), λ e. omega (arith, mul-le-mul_left {m = b} {n = a} u (omega arith)))

pub add_le : {a b c d : ℤ} → AsDiff a → AsDiff b → AsDiff c → AsDiff d → a ≤ℤ b → c ≤ℤ d → (a +ℤ c) ≤ℤ (b +ℤ d)
add_le (is _ _) (is _ _) (is _ _) (is _ _) = simp differences (λ e f. omega arith)

-- a factor in a sum; before and behind another factor; and in a product
pub times_sum : {k x y : ℤ} → AsDiff k → AsDiff x → AsDiff y → k *ℤ x +ℤ k *ℤ y ≡ k *ℤ (x +ℤ y)
times_sum (is _ _) (is _ _) (is _ _) = simp differences (omega arith)

pub times_past : {k v x : ℤ} → AsDiff k → AsDiff v → AsDiff x → v *ℤ (k *ℤ x) ≡ k *ℤ (v *ℤ x)
times_past (is _ _) (is _ _) (is _ _) = simp differences (omega arith)

pub times_assoc : {x y w : ℤ} → AsDiff x → AsDiff y → AsDiff w → x *ℤ (y *ℤ w) ≡ x *ℤ y *ℤ w
times_assoc (is _ _) (is _ _) (is _ _) = simp differences (omega arith)
