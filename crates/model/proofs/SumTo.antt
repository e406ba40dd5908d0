-- Laws of the sum of f 0, f 1, .., c whole numbers.
use Prim.Native.Nat.{ℕ, zero, suc, ◌<◌}
use native.Mathlib.Nat.{not-suc-le-zero}
use native.Mathlib.Decide.{ℕ_discrete}
use native.Mathlib.Omega.{arith}
use mathlib.Core.Path.{◌≡◌, refl, sym, ap, ap₂, ◌∙◌}
use mathlib.Core.Logic.{◌≢◌}
use lib.IntN.{ℤ, pos, ◌+ℤ◌, ◌*ℤ◌, +ℤ_idl, +ℤ_idr, +ℤ_assoc, *ℤ-zero}
use lib.Signed.{◌≤ℤ◌, ≤ℤ_refl}
use Rattle.model.specs.Conic.{sum_to}
use Rattle.model.proofs.Integers.{as_diff, add_swap, add_le, times_sum}

pub sum_to_ext : (f g : ℕ → ℤ) (c : ℕ) → ((i : ℕ) → i < c → f i ≡ g i) → sum_to f c ≡ sum_to g c
sum_to_ext f g zero h = refl
sum_to_ext f g (suc c) h = ap₂ ◌+ℤ◌ (sum_to_ext f g c (λ i l. h i (omega arith))) (h c (omega arith))

pub sum_to_le : (f g : ℕ → ℤ) (c : ℕ) → ((i : ℕ) → i < c → f i ≤ℤ g i) → sum_to f c ≤ℤ sum_to g c
sum_to_le f g zero h = ≤ℤ_refl (pos 0)
sum_to_le f g (suc c) h = add_le (as_diff (sum_to f c)) (as_diff (sum_to g c)) (as_diff (f c)) (as_diff (g c)) (sum_to_le f g c (λ i l. h i (omega arith))) (h c (omega arith))

pub sum_to_plus : (f g : ℕ → ℤ) (c : ℕ) → sum_to (λ i. f i +ℤ g i) c ≡ sum_to f c +ℤ sum_to g c
sum_to_plus f g zero = refl
sum_to_plus f g (suc c) = ap (λ (x : ℤ). x +ℤ (f c +ℤ g c)) (sum_to_plus f g c) ∙ add_swap (as_diff (sum_to f c)) (as_diff (sum_to g c)) (as_diff (f c)) (as_diff (g c))

pub sum_to_times : (k : ℤ) (f : ℕ → ℤ) (c : ℕ) → sum_to (λ i. k *ℤ f i) c ≡ k *ℤ sum_to f c
sum_to_times k f zero = sym (*ℤ-zero k)
sum_to_times k f (suc c) = ap (λ (x : ℤ). x +ℤ k *ℤ f c) (sum_to_times k f c) ∙ times_sum (as_diff k) (as_diff (sum_to f c)) (as_diff (f c))

pub sum_to_first : (f : ℕ → ℤ) (c : ℕ) → sum_to f (suc c) ≡ f 0 +ℤ sum_to (λ i. f (suc i)) c
sum_to_first f zero = +ℤ_idl (f 0) ∙ sym (+ℤ_idr (f 0))
sum_to_first f (suc c) = ap (λ (x : ℤ). x +ℤ f (suc c)) (sum_to_first f c) ∙ +ℤ_assoc (f 0) (sum_to (λ i. f (suc i)) c) (f (suc c))

pub sum_to_none : (f : ℕ → ℤ) (c : ℕ) → ((i : ℕ) → i < c → f i ≡ pos 0) → sum_to f c ≡ pos 0
sum_to_none f zero h = refl
sum_to_none f (suc c) h = simp (sum_to_none f c (λ i a. h i (omega arith)), h c (omega arith))

-- only number k counts
pub sum_to_one : (f : ℕ → ℤ) (k c : ℕ) → k < c → ((i : ℕ) → k ≢ i → f i ≡ pos 0) → sum_to f c ≡ f k
sum_to_one f k zero a h = absurd (not-suc-le-zero a)
sum_to_one f k (suc c) a h = go (λ b. sum_to_one f k c b h) (ℕ_discrete k c)
  where
    go : (k < c → sum_to f c ≡ f k) → Dec (k ≡ c) → sum_to f c +ℤ f c ≡ f k
    go t (yes e) = ap₂ ◌+ℤ◌ (sum_to_none f c (λ i b. h i (omega arith))) (ap f (sym e)) ∙ +ℤ_idl (f k)
    go t (no e) = ap₂ ◌+ℤ◌ (t (omega arith)) (h c e) ∙ +ℤ_idr (f k)
