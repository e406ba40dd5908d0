use Rattle.std.proofs.Common.{arith}
use Rattle.model.specs.Objectives.{thermal_cone}
use Rattle.buffers.proofs.Laws.{band_wrote, wrote_then, wrote_most, closes}
use Rattle.thermal_energy.proofs.cone.Goals as goal

pub close_cone-requires : goal.close_cone-requires
close_cone-requires g c =
    let told = c.requires.told in
    let sides = c.fill_right-w.ensures told.0 told.1 in
    omega (arith, c.requires.room, c.first_rows-u.ensures.moves, c.joint_columns-v.ensures, sides, c.args.station.torque.given)

pub returns : goal.returns
unfolding thermal_cone
returns g c = λ f h.
    let first = rw c.column_xi-xi.ensures at c.first_rows-u.ensures in
    let rows = wrote_then first (band_wrote c.joint_columns-v.ensures (c.fill_right-w.ensures f h) (omega arith)) in
    closes (wrote_most rows (omega (arith, c.args.station.torque.given))) c.close_cone.ensures (omega (arith, rows.moves)) (omega arith)
