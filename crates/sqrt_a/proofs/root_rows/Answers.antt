use mathlib.Core.Path.{refl}
use Rattle.model.specs.Problem.{skip}
use Rattle.model.specs.Standard.{root_cone}
use Rattle.buffers.proofs.Laws.{wrote_then}
use Rattle.columns.proofs.Cells.{band_at, at_column}
use Rattle.sqrt_a.proofs.root_rows.Goals as goal

pub returns : goal.returns
unfolding root_cone skip
returns c =
    let a = at_column c.column_a-a.ensures refl in
    rw (← c.first_xi.ensures) (wrote_then (wrote_then (band_at c.row-u.ensures a) (band_at c.row-u-2.ensures a)) (band_at c.row.ensures (at_column c.column_xi-xi.ensures refl)))
