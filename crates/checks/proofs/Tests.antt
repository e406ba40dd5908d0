-- Tests on floats and on whole numbers.
use Prim.Native.Nat.{ℕ, ◌+◌, ◌≤◌, ◌<◌}
use native.Mathlib.Omega.{arith}
use native.Mathlib.Numerals.{add-one}
use mathlib.Core.Path.{◌≡◌, refl, ◌∙◌}
use mathlib.Core.Bool.{Bool, true, false, ◌||◌}
use mathlib.Core.List.{List}
use lib.Dec.{ltb, leb}
use lib.ListN.{length, drop, get_or}
use lib.Seq.{drop-cons, get_or-take, get_or-drop}
use borrow.Author.Tests.{ltb-true, ltb-false, leb-true, leb-false}
use lib.Ieee.{Float, nan, inf, fin, eq, of_bits, binary64}
use Rattle.std.specs.Prelude.{is_nan}
use Rattle.model.specs.Numbers.{at, unusable}
use mir.Val.{Fits}
use mir.Syntax.{w32}
use Rattle.model.specs.Lists.{part, total}
use Rattle.model.specs.Refusals.{most_stations}
use Rattle.model.proofs.Fits.{total_le}

pub nan_or_low : (x : Float) → (is_nan x || eq x (of_bits binary64 0xfff0000000000000)) ≡ unusable x
unfolding lib.Ieee.is_nan eq of_bits
nan_or_low nan = refl
nan_or_low (inf true) = refl
nan_or_low (inf false) = refl
nan_or_low (fin s m k) = refl

-- tests that say the same; one more number of a sum
pub ltb_same : (a b c d : ℕ) → (a < b → c < d) → (c < d → a < b) → ltb a b ≡ ltb c d
ltb_same a b c d f g = go (ltb a b) (ltb c d) refl refl
  where
    go : (x y : Bool) → ltb a b ≡ x → ltb c d ≡ y → x ≡ y
    go true true e h = refl
    go false false e h = refl
    go true false e h = absurd (omega (arith, f (ltb-true a b e), ltb-false c d h))
    go false true e h = absurd (omega (arith, g (ltb-true c d h), ltb-false a b e))

pub leb_same : (a b c d : ℕ) → (a ≤ b → c ≤ d) → (c ≤ d → a ≤ b) → leb a b ≡ leb c d
leb_same a b c d f g = go (leb a b) (leb c d) refl refl
  where
    go : (x y : Bool) → leb a b ≡ x → leb c d ≡ y → x ≡ y
    go true true e h = refl
    go false false e h = refl
    go true false e h = absurd (omega (arith, f (leb-true a b e), leb-false c d h))
    go false true e h = absurd (omega (arith, g (leb-true c d h), leb-false a b e))

-- element j of a part
pub at_part : (l : List Float) (start len j : ℕ) → j < len → at (part l start len) j ≡ at l (start + j)
at_part l start len j h = get_or-take len _ j nan h ∙ get_or-drop start l j nan

pub total_next : (l : List ℕ) (k : ℕ) → k < length l → total (drop k l) ≡ get_or l k 0 + total (drop (k + 1) l)
total_next l k h = rw (add-one, drop-cons l k 0)

-- so many counts of 32 bits fit 64 bits
pub counts_fit : (l : List ℕ) → length l ≤ most_stations → ((k : ℕ) → Fits w32 (get_or l k 0)) → total l < 18446744073709551616
counts_fit l h f = omega (arith, total_le 4294967295 l (λ k. omega (arith, f k)))
