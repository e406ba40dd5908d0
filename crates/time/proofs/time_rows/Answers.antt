use mathlib.Core.Path.{refl}
use Rattle.model.specs.Objectives.{time_cone}
use Rattle.buffers.proofs.Laws.{wrote_then}
use Rattle.columns.proofs.Cells.{band_at, at_column}
use Rattle.time.proofs.time_rows.Goals as goal

pub returns : goal.returns
unfolding time_cone
returns c =
    wrote_then (wrote_then (band_at c.row-u.ensures (at_column c.column_xi.ensures refl)) (band_at c.row-u-2.ensures (at_column c.column_xi.ensures refl))) c.row.ensures
