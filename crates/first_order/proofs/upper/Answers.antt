use mathlib.Core.Path.{sym, ◌∙◌, refl}
use Rattle.model.specs.Standard.{upper_row}
use Rattle.buffers.proofs.Laws.{wrote_skip}
use Rattle.columns.proofs.Cells.{band_at, at_column}
use Rattle.first_order.proofs.upper.Goals as goal

pub returns-then-not-is_finite : goal.returns-then-not-is_finite
unfolding upper_row
returns-then-not-is_finite c = rw (sym c.is_finite.ensures ∙ c.if-not-is_finite.true) wrote_skip

pub returns : goal.returns
unfolding upper_row
returns c = rw (sym c.is_finite.ensures ∙ c.if-not-is_finite.false) (band_at c.row.ensures (at_column c.column_a.ensures refl))
