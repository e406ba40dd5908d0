-- docs/LISTING.md: the pattern of the matrix as a picture.
use Rattle.std.specs.Prelude.{ℕ, zero, suc, cond, ◌&&◌, List, [], ◌∷◌, ◌++◌, eqb, get_or, Float}
use Rattle.std.specs.Float.Ieee.{lt}
use Rattle.model.specs.Numbers.{at, +0}
use Rattle.model.specs.Lists.{over}
use Rattle.text.specs.Text.{ascii}
use Rattle.text.specs.Digits.{decimal}
use Rattle.column_names.specs.Columns.{letter, Layout, letter_at}
use Rattle.listing.specs.Rows.{Matrix}

-- "`+` for an entry above 0, `-` below 0, `0` for a zero that is stored"
abbrev pub sign_mark : Float → ℕ
sign_mark x = cond (lt +0 x) (letter "+") (cond (lt x +0) (letter "-") (letter "0"))

-- of entries i, i + 1, .., c of them, the first at row r and column k; "`.` where the matrix has no entry"
unfoldable pub mark_from : Matrix → ℕ → ℕ → ℕ → ℕ → ℕ
mark_from a r k i zero = letter "."
mark_from a r k i (suc c) = cond (eqb (get_or a.rows i 0) r && eqb (get_or a.columns i 0) k) (sign_mark (at a.values i)) (mark_from a r k (suc i) c)

unfoldable pub picture_row : Matrix → ℕ → ℕ → ℕ → List ℕ
picture_row a entries columns r = ascii "  " ++ over (λ k. mark_from a r k 0 entries ∷ []) 0 columns ++ ascii "  " ++ decimal r ++ ascii "\n"

unfoldable pub picture : Layout → Matrix → ℕ → ℕ → ℕ → List ℕ
picture y a entries rows columns =
    ascii "pattern:\n  " ++ over (λ k. letter_at y k ∷ []) 0 columns ++ ascii "\n" ++ over (picture_row a entries columns) 0 rows
