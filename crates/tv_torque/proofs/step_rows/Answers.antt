use Rattle.model.specs.Objectives.{step_torque_rows}
use Rattle.buffers.proofs.Laws.{wrote_then}
use Rattle.tv_torque.proofs.step_rows.Goals as goal

pub returns : goal.returns
unfolding step_torque_rows
returns c = rw (← c.a-a.ensures, ← c.a-a1.ensures, ← c.b-b.ensures, ← c.b-b1.ensures, ← c.g-g.ensures, ← c.g-h.ensures)
    (wrote_then (rw (c.column_a-ca.ensures, c.column_a-ca1.ensures, c.column_b-cb.ensures, c.column_b-cb1.ensures) at c.row-u.ensures) (rw (c.column_a-ca.ensures, c.column_a-ca1.ensures, c.column_b-cb.ensures, c.column_b-cb1.ensures) at c.row.ensures))
