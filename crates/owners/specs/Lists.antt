-- The number of a list of the index: range f is that of entries for 0, rows for 1, cones for 2, columns for 3 (crate model, OwnerAnswers.antt).
use Rattle.std.specs.Prelude.{ℕ}
use Rattle.owners.specs.declared.IndexList.{IndexList}
use Rattle.owners.specs.declared.IndexList.TheVariants.{Rows, Columns}

abbrev pub list_number : IndexList → ℕ
list_number Rows = 1
list_number Columns = 3
