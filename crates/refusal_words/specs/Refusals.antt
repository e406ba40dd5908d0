-- docs/LISTING.md: a refused problem in words, and who is to look where.
use Rattle.std.specs.Prelude.{ℕ, Bool, true, false, cond, List, [], ◌∷◌, ◌++◌, eqb, leb}
use Prim.Native.String.{String}
use Rattle.text.specs.Text.{ascii}
use Rattle.text.specs.Digits.{decimal}

-- a refusal's number with words, and whether the place stands at their end
pub record Worded : Type 0 where
  pub number : ℕ
  pub words : List ℕ
  pub placed : Bool

infix 5 ◌placed◌
abbrev pub ◌placed◌ : ℕ → String → Worded
◌placed◌ number words = record { number = number; words = ascii words; placed = true }

infix 5 ◌plain◌
abbrev pub ◌plain◌ : ℕ → String → Worded
◌plain◌ number words = record { number = number; words = ascii words; placed = false }

-- the words of refusal r at place k in a table, or others
abbrev pub among : List Worded → List ℕ → ℕ → ℕ → List ℕ
among [] others r k = others
among (x ∷ xs) others r k = cond (eqb r x.number) (x.words ++ cond x.placed (decimal k) []) (among xs others r k)

-- what is wrong
abbrev pub complaints : List Worded
complaints =
    (1 plain "a boundary number is not finite")
    ∷ (2 plain "a boundary a is below 0")
    ∷ (3 plain "a path at rest moves backward")
    ∷ (4 plain "there are fewer than 3 stations")
    ∷ (5 plain "there are too many stations")
    ∷ (6 plain "a grid number is not finite")
    ∷ (7 plain "a grid number is not above the one before")
    ∷ (8 plain "d is outside 1 to 32")
    ∷ (9 plain "there is no objective")
    ∷ (10 plain "there are more than 16 objectives")
    ∷ (11 plain "a weight is NaN, infinite or negative")
    ∷ (12 plain "a list has a wrong length or runs past the pool")
    ∷ (13 plain "a scale is NaN, infinite or negative")
    ∷ (14 plain "the stationary counts leave no moving interval")
    ∷ (15 plain "a table has a wrong length")
    ∷ (16 plain "a row count is above 256")
    ∷ (17 plain "a bound is NaN or infinite where it may not be")
    ∷ (18 plain "a stationary maximum is below its minimum")
    ∷ (19 plain "a buffer is too short")
    ∷ (20 plain "a number to be written is not finite")
    ∷ (28 plain "the index is too short")
    ∷ []

unfoldable pub complaint : ℕ → List ℕ
complaint r = among complaints (ascii "this number is not one of the assembly's") r 0

-- where to look
abbrev pub places : List Worded
places =
    (1 placed "boundary number ")
    ∷ (2 placed "end ")
    ∷ (3 placed "end ")
    ∷ (4 plain "the grid")
    ∷ (5 plain "the grid")
    ∷ (6 placed "station ")
    ∷ (7 placed "station ")
    ∷ (8 plain "d")
    ∷ (9 plain "the objectives")
    ∷ (10 plain "the objectives")
    ∷ (11 placed "objective ")
    ∷ (12 placed "objective ")
    ∷ (13 placed "objective ")
    ∷ (14 plain "N0 and N1")
    ∷ (15 placed "table ")
    ∷ (16 placed "tables 0 and 1, station ")
    ∷ (17 placed "bound ")
    ∷ (18 placed "end ")
    ∷ (19 placed "buffer ")
    ∷ (20 plain "the grid, the tables and the objectives")
    ∷ (28 plain "the index")
    ∷ []

unfoldable pub place : ℕ → ℕ → List ℕ
place r k = among places (ascii "document 01") r k

-- "Whoever draws the path" (1 to 7), "sets up the job" (8 to 13), "fills the tables" (14 to 18 and 20), "lends the buffers" (19, and 28 of request 6)
unfoldable pub person : ℕ → List ℕ
person r =
    cond (eqb r 0) (ascii "calls the library")
    (cond (leb r 7) (ascii "draws the path")
    (cond (leb r 13) (ascii "sets up the job")
    (cond (eqb r 19) (ascii "lends the buffers")
    (cond (leb r 20) (ascii "fills the tables") (cond (eqb r 28) (ascii "lends the buffers") (ascii "calls the library"))))))

unfoldable pub refused : ℕ → ℕ → List ℕ
refused r k =
    ascii "refused " ++ decimal r ++ ascii ", place " ++ decimal k ++ ascii ": " ++ complaint r ++ ascii "; whoever " ++ person r
    ++ ascii " is to look at "
    ++ place r k
    ++ ascii ".\n"
