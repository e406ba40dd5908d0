-- Request 6: "When the solver blames a row, we want its owner: standard rows, root stage, or objective i." These are owners 0, 1 and 2 + i; each has a block of `blocks`.
use Rattle.std.specs.Prelude.{◌+◌, ◌*◌, ◌∷◌}
use Rattle.model.specs.Base.{ℕ, List, [], length, FourCounts}
use Rattle.model.specs.Lists.{joined}
use Rattle.model.specs.Problem.{Problem, n}
use Rattle.model.specs.Program.{Band, Block, entries_from, right_sides}
use Rattle.model.specs.Assembled.{width, blocks}
use Rattle.model.specs.Counts.{four_counts, ◌plus◌}

-- the bands of all its cones
abbrev pub block_bands : Block → List Band
block_bands b = joined (λ c. c.bands) b.cones

-- "the four lengths": how many entries, rows, cones and columns a block has
unfoldable pub size_of : Block → FourCounts
size_of b = four_counts (length (entries_from 0 (block_bands b))) (length (right_sides (block_bands b))) (length b.cones) (width b)

-- "the first entry, row, cone and column and the four lengths for each owner"
pub record Owner : Type 0 where
  pub first : FourCounts
  pub size : FourCounts

-- "an empty part has length 0 and, as its first, the tally at that moment": t is the tally before the blocks
abbrev pub owners_from : FourCounts → List Block → List Owner
owners_from t [] = []
owners_from t (b ∷ bs) = record { first = t; size = size_of b } ∷ owners_from (t plus size_of b) bs

-- "the column tally starts at 2n+2, so the standard rows have none"
abbrev pub tally_start : Problem → FourCounts
tally_start p = four_counts 0 0 0 (2 * n p.path + 2)

-- "for each owner in that order": standard rows, root stage, objectives
unfoldable pub owners : Problem → List Owner
owners p = owners_from (tally_start p) (blocks p)

-- "The index takes eight places for each owner": the first entry, row, cone and column, then the four lengths
abbrev pub eight : Owner → List ℕ
eight o =
    o.first.entries
    ∷ o.first.rows
    ∷ o.first.cones
    ∷ o.first.columns
    ∷ o.size.entries
    ∷ o.size.rows
    ∷ o.size.cones
    ∷ o.size.columns
    ∷ []

unfoldable pub index : Problem → List ℕ
index p = joined eight (owners p)

-- "The index takes eight places for each owner, and there are two owners more than objectives"
abbrev pub index_places : ℕ → ℕ
index_places objectives = 8 * (objectives + 2)
