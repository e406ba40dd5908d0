-- Sums over the numbers from k to below e.
use Prim.Native.Nat.{ℕ, zero, suc, ◌+◌, ◌-◌, ◌≤◌, ◌<◌}
use native.Mathlib.Omega.{arith}
use native.Mathlib.Numerals.{add-one}
use mathlib.Core.Path.{◌≡◌, ap}
use Rattle.model.specs.Lists.{sum_over}

module _ (f : ℕ → ℕ) where
  pub sum_next : (k e : ℕ) → k < e → sum_over f k (e - k) ≡ f k + sum_over f (k + 1) (e - (k + 1))
  sum_next k e h = let z : e - k ≡ suc (e - (k + 1)) = omega arith in rw (z, add-one k)

  pub sum_none : (k e : ℕ) → e ≤ k → sum_over f k (e - k) ≡ 0
  sum_none k e h = let z : e - k ≡ 0 = omega arith in rw z

  -- the last number of a sum
  sum_last : (k c : ℕ) → sum_over f k (suc c) ≡ sum_over f k c + f (k + c)
  sum_last k zero = let z : k + 0 ≡ k = omega arith in rw z (omega arith)
  sum_last k (suc c) =
      let h = sum_last (suc k) c in
      let z : suc k + c ≡ k + suc c = omega arith in
      let g : f (suc k + c) ≡ f (k + suc c) = ap f z in
      omega arith

  -- what two neighbouring sums have in common
  pub sum_twice : (k c : ℕ) → 0 < c → sum_over f k c + sum_over f (k + 1) c ≡ f k + sum_over f (k + 1) (c - 1) + sum_over f (k + 1) (c - 1) + f (k + c)
  sum_twice k zero h = absurd (omega arith)
  sum_twice k (suc c) h =
      let a : sum_over f k (suc c) ≡ f k + sum_over f (k + 1) c = rw (add-one k) in
      let b = sum_last (k + 1) c in
      let z : k + 1 + c ≡ k + suc c = omega arith in
      let g : f (k + 1 + c) ≡ f (k + suc c) = ap f z in
      let y : suc c - 1 ≡ c = omega arith in
      rw y (omega arith)
