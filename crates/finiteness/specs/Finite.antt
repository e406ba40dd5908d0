-- Whether every number of bands is finite, told row by row and column by column.
use Rattle.std.specs.Prelude.{◌≡◌, Bool, true, false, ◌&&◌, List, [], ◌∷◌, ℕ, zero, suc, Float}
use Rattle.model.specs.Numbers.{finite}
use Rattle.model.specs.Lists.{joined}
use Rattle.model.specs.Program.{Cell, Band, Cone, Block}
use Rattle.model.specs.Assembled.{all_finite}

-- numbers in a row: finite a && (finite b && finite c)
abbrev pub finite_each : List Float → Bool
finite_each [] = true
finite_each (x ∷ []) = finite x
finite_each (x ∷ y ∷ ys) = finite x && finite_each (y ∷ ys)

-- f k, f (k + 1), .., c tests
abbrev pub each : (ℕ → Bool) → ℕ → ℕ → Bool
each f k zero = true
each f k (suc c) = f k && each f (suc k) c

-- a test that counts only if another passes
abbrev pub if_test : Bool → Bool → Bool
if_test true b = b
if_test false b = true

-- a loop's answer
pub record Each (r : Bool) (f : ℕ → Bool) (k c : ℕ) : Type 0 where
  pub says : r ≡ each f k c

abbrev pub finite_columns : List (ℕ → Cell) → ℕ → Bool
finite_columns [] h = true
finite_columns (f ∷ fs) h = each (λ i. finite (f i).value) 0 h && finite_columns fs h

abbrev pub finite_band : Band → Bool
finite_band b = finite_columns b.columns b.height && each (λ i. finite (b.right i)) 0 b.height

abbrev pub finite_bands : List Band → Bool
finite_bands [] = true
finite_bands (b ∷ bs) = finite_band b && finite_bands bs

abbrev pub finite_cones : List Cone → Bool
finite_cones cs = finite_bands (joined (λ c. c.bands) cs)

-- a block but for its charges
abbrev pub finite_block : Block → Bool
finite_block b = finite_cones b.cones && all_finite b.cost

abbrev pub finite_blocks : List Block → Bool
finite_blocks [] = true
finite_blocks (b ∷ bs) = finite_block b && finite_blocks bs
