-- docs/LISTING.md, "Terms and rows", and the cones and the cost of "The page of an answer".
use Rattle.std.specs.Prelude.{ℕ, zero, suc, ◌+◌, ◌-◌, min, cond, List, [], ◌∷◌, ◌++◌, eqb, get_or, Float}
use Rattle.std.specs.Float.Ieee.{eq}
use Rattle.model.specs.Numbers.{at, +0}
use Rattle.model.specs.Lists.{over}
use Rattle.text.specs.Text.{ascii}
use Rattle.text.specs.Digits.{decimal}
use Rattle.text.specs.Number.{minus, number}
use Rattle.column_names.specs.Columns.{Layout, name, row_owner}

-- `·` (U+00B7) in UTF-8
abbrev pub dot : List ℕ
dot = 194 ∷ 183 ∷ []

abbrev pub plus : Float → List ℕ
plus x = cond (minus x) [] (ascii "+")

unfoldable pub term : Layout → Float → ℕ → List ℕ
term y x k = ascii " " ++ plus x ++ number x ++ dot ++ name y k

-- the matrix: row, column and value of each entry
pub record Matrix : Type 0 where
  pub rows : List ℕ
  pub columns : List ℕ
  pub values : List Float

abbrev pub matrix : List ℕ → List ℕ → List Float → Matrix
matrix rows columns values = record { rows = rows; columns = columns; values = values }

abbrev pub kind_word : ℕ → List ℕ
kind_word k =
    cond (eqb k 0) (ascii "zero") (cond (eqb k 1) (ascii "nonnegative") (cond (eqb k 2) (ascii "second-order") (ascii "unknown")))

-- the line of cone j, whose first row is `first`
unfoldable pub cone_head : Layout → List ℕ → List ℕ → ℕ → ℕ → List ℕ
cone_head y kinds dimensions j first =
    ascii "cone " ++ decimal j ++ ascii ": " ++ kind_word (get_or kinds j 3) ++ ascii ", dimension " ++ decimal (get_or dimensions j 0) ++ ascii ", "
    ++ row_owner y first
    ++ ascii "\n"

-- the first row of cone j; no row is past the last
unfoldable pub first_row : ℕ → List ℕ → ℕ → ℕ
first_row rows dimensions zero = 0
first_row rows dimensions (suc j) = min (first_row rows dimensions j + get_or dimensions j 0) rows

module _ (y : Layout) (a : Matrix) where
  -- entry i, if it stands in row r
  unfoldable pub entry : ℕ → ℕ → List ℕ
  entry r i = cond (eqb (get_or a.rows i 0) r) (term y (at a.values i) (get_or a.columns i 0)) []

  -- of the first `entries` entries
  unfoldable pub row : ℕ → List Float → ℕ → List ℕ
  row entries right r = ascii "  " ++ decimal r ++ ascii ":" ++ over (entry r) 0 entries ++ ascii " + s = " ++ number (at right r) ++ ascii "\n"

  -- cone j of those with these kinds and dimensions, of so many rows
  unfoldable pub cone : ℕ → List Float → ℕ → List ℕ → List ℕ → ℕ → List ℕ
  cone entries right rows kinds dimensions j =
      let first = first_row rows dimensions in
      cone_head y kinds dimensions j (first j) ++ over (row entries right) (first j) (first (suc j) - first j)

-- "a term for each column in order whose cost is not zero"
unfoldable pub charge : Layout → List Float → ℕ → List ℕ
charge y cost k = cond (eq (at cost k) +0) [] (term y (at cost k) k)

unfoldable pub cost_line : Layout → List Float → ℕ → List ℕ
cost_line y cost columns = ascii "cost:" ++ over (charge y cost) 0 columns ++ ascii "\n"
