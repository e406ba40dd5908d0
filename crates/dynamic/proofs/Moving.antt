-- The stations of the moving intervals, and how many these are at most.
use Prim.Native.Nat.{ℕ, ◌+◌, ◌≤◌}
use native.Mathlib.Omega.{arith}
use mathlib.Core.Path.{◌≡◌}
use lib.ListN.{length}
use Rattle.model.specs.Problem.{Path, m}

pub next : (k i : ℕ) → k + 1 + i ≡ k + i + 1
next k i = omega arith

pub moving_most : (q : Path) → m q ≤ length q.grid
unfolding m
moving_most q = omega arith
