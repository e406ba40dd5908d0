use native.Mathlib.Omega.{arith}
use Rattle.model.specs.Problem.{m}
use Rattle.model.specs.Standard.{upper_row, end_rows, first_order}
use Rattle.buffers.proofs.Laws.{wrote_then, wrote_most}
use Rattle.first_order.proofs.clarabel_1order_constraint_topp3.Goals as goal

pub returns : goal.returns
unfolding first_order upper_row end_rows m
returns c =
    let lower = rw (c.column_a.ensures, c.moving.ensures) at c.positive-u.ensures in
    rw (← c.stop.ensures) (wrote_most (wrote_then (wrote_then (wrote_then (wrote_then c.end_rows-u.ensures c.end_rows-u-2.ensures) lower) c.uppers-u.ensures) c.clarabel_interval_a_constraint_topp3.ensures) (omega (arith, c.moving.ensures)))
