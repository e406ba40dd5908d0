use mathlib.Core.Path.{refl, ◌∙◌}
use Rattle.model.specs.Standard.{boundary_rows}
use Rattle.buffers.proofs.Laws.{wrote_then}
use Rattle.columns.proofs.Cells.{band_at, at_column}
use Rattle.dynamic.proofs.clarabel_boundary_constraint_topp3.Goals as goal

pub returns : goal.returns
unfolding boundary_rows
returns c = wrote_then (wrote_then (wrote_then (band_at c.boundary_row-u.ensures (at_column c.column_a.ensures refl)) (band_at c.boundary_row-u-2.ensures (at_column (c.column_a-2.ensures ∙ c.last-last.ensures) refl))) (band_at c.boundary_row-u-3.ensures (at_column c.column_b.ensures refl))) (band_at c.boundary_row.ensures (at_column (rw (c.column_b-2.ensures, c.last-last.ensures)) refl))
