-- A part of a list, as the code takes it.
use mathlib.Core.Path.{◌≡◌, ap}
use mathlib.Core.List.{List}
use Prim.Native.Nat.{ℕ, ◌+◌, ◌-◌, ◌≤◌}
use native.Mathlib.Omega.{arith}
use lib.Ieee.{Float}
use lib.ListN.{length, take, drop, length-take, length-drop}
use Rattle.model.specs.Lists.{part}

pub cancel : (a k : ℕ) → a + k - a ≡ k
cancel a k = omega arith

pub part_of : (l : List Float) (a k : ℕ) → take (a + k - a) (drop a l) ≡ part l a k
part_of l a k = ap (λ (z : ℕ). take z (drop a l)) (cancel a k)

pub part_length : (l : List Float) (a k : ℕ) {m : ℕ} → a + k ≤ length l → k ≡ m → length (take (a + k - a) (drop a l)) ≡ m
part_length l a k h e = let x = length-take (a + k - a) (drop a l) in let y = length-drop a l in let z = cancel a k in omega arith
