-- What writers take: room in the tally, terms, and the paths whose sizes the checks leave.
use Rattle.std.specs.Prelude.{List, ℕ, ◌+◌, ◌*◌, ◌^◌, ◌<◌, map, Float}
use Rattle.model.specs.Program.{Cell, cell, Band, row}
use Rattle.model.specs.declared.Tally.{Tally}
use Rattle.model.specs.declared.Term.{Term}

-- room for b rows
abbrev pub Room : Tally → ℕ → Type 0
Room t b = (t.entries + 5 * b < 2 ^ 64) × (t.rows.at + b < 2 ^ 64)

-- and for b cones and columns
abbrev pub RoomAll : Tally → ℕ → Type 0
RoomAll t b = (t.entries + 5 * b < 2 ^ 64) × (t.rows.at + b < 2 ^ 64) × (t.cones + b < 2 ^ 64) × (t.columns.at + b < 2 ^ 64)

-- room for n entries, one in a row, from row r on
abbrev pub RoomFrom : Tally → ℕ → ℕ → Type 0
RoomFrom t r n = (t.entries + n < 2 ^ 64) × (r + n < 2 ^ 64)

abbrev pub term : Term → Cell
term p = cell p.col.at p.v

-- a row of terms
abbrev pub row_of : Float → List Term → Band
row_of x ps = row x (map term ps)

-- its columns
abbrev pub constant_cells : List Term → List (ℕ → Cell)
constant_cells ps = map (λ c i. c) (map term ps)
