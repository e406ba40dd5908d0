use mathlib.Core.Path.{refl}
use Rattle.model.specs.Standard.{interval_rows}
use Rattle.buffers.proofs.Laws.{wrote_then}
use Rattle.columns.proofs.Cells.{band_at, at_column}
use Rattle.first_order.proofs.interval_rows.Goals as goal

pub returns : goal.returns
unfolding interval_rows
returns c = rw (← c.spacing-h.ensures) (wrote_then (band_at c.row-u.ensures (at_column c.column_a.ensures (at_column c.column_b-b.ensures refl))) (band_at c.row.ensures (at_column c.column_a.ensures (at_column c.column_b-b.ensures (at_column c.column_b-next.ensures refl)))))
