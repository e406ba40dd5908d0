use Rattle.model.specs.Objectives.{end_torque_rows}
use Rattle.buffers.proofs.Laws.{wrote_then}
use Rattle.tv_torque.proofs.end_rows.Goals as goal

pub returns : goal.returns
unfolding end_torque_rows
returns c =
    let m = c.moving_station-moving.ensures in
    let r = c.resting_station-resting.ensures in
    let a = rw (m.torque, m.station) at c.a-a.ensures in
    let b = rw (m.torque, m.station) at c.b-b.ensures in
    let g = rw (m.torque, m.station) at c.g-g.ensures in
    let h = rw (r.torque, r.station) at c.g-h.ensures in
    rw (← a, ← b, ← g, ← h) (wrote_then (rw (c.column_a-ca.ensures, c.column_b-cb.ensures) at c.row-u.ensures) (rw (c.column_a-ca.ensures, c.column_b-cb.ensures) at c.row.ensures))
