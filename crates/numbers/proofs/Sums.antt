-- The library's sum is `total`.
use mathlib.Core.Path.{◌≡◌, sym}
use mathlib.Core.List.{List, [], ◌∷◌}
use Prim.Native.Nat.{ℕ, ◌+◌}
use native.Mathlib.Nat.{add-zero}
use native.Mathlib.Omega.{arith}
use Rattle.std.specs.Prelude.{fold}
use Rattle.model.specs.Lists.{total}

sum_go : (n : ℕ) (xs : List ℕ) → fold (λ a x. a + x) n xs ≡ n + total xs
sum_go n [] = sym (add-zero n)
sum_go n (x ∷ xs) = omega (arith, sum_go (n + x) xs)

pub sum_total : (xs : List ℕ) → fold (λ a x. a + x) 0 xs ≡ total xs
sum_total xs = omega (arith, sum_go 0 xs)
