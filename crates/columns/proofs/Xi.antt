-- How many xi there are, and where their stations lie: l is the length of the grid, a and b the stationary counts.
use mathlib.Core.Path.{◌≡◌}
use mathlib.Core.List.{List}
use lib.Ieee.{Float}
use lib.ListN.{length}
use Prim.Native.Nat.{ℕ, ◌+◌, ◌-◌, ◌≤◌, ◌<◌, max}
use native.Mathlib.Omega.{arith}
use Rattle.model.specs.Problem.{L}
use Rattle.model.specs.declared.Ends.{Ends}
use Rattle.buffers.specs.Inputs.{path}

pub xi_in : (l a b j : ℕ) → j < l - 1 + 1 - max a 1 - max b 1 → max a 1 + j < l
xi_in l a b j h = omega arith

pub xi_le : (l a b x : ℕ) → x ≡ l - 1 + 1 - max a 1 - max b 1 → x ≤ l
xi_le l a b x e = omega arith

pub at_most_xi : (g : List Float) (e : Ends) {x : ℕ} → x ≡ L (path g e) → x ≤ length g
unfolding L
at_most_xi g e {x} h = xi_le (length g) e.n0 e.n1 x h

pub xi_next : (l a b j : ℕ) → j < l - 1 + 1 - max a 1 - max b 1 → max a 1 + j + 1 < l
xi_next l a b j h = omega arith

-- there is one at least
pub xi_some : (l a b x : ℕ) → x ≡ l - 1 + 1 - max a 1 - max b 1 → 2 < l → a + b + 1 < l → 0 < x
xi_some l a b x e h g = omega arith

-- the grid's length is n + 1
pub stations : {l a b x y : ℕ} → 0 < l → x ≡ a → y ≡ b → l - x - y ≡ l - 1 + 1 - a - b
stations {l} h e f = let g : l ≡ l - 1 + 1 = omega arith in λ i. g i - e i - f i
