use native.Mathlib.Omega.{arith}
use Rattle.model.specs.Standard.{inequalities}
use Rattle.buffers.proofs.Laws.{wrote_then, wrote_most}
use Rattle.standard.proofs.inequalities.Goals as goal

pub returns : goal.returns
unfolding inequalities
returns c =
    let first = rw (c.limits.ensures.path, c.limits.ensures.limits) at c.clarabel_1order_constraint_topp3-u.ensures in
    let second = rw (c.acceleration_rows.ensures.path, c.acceleration_rows.ensures.tables) at c.clarabel_2order_constraint_topp3-u.ensures in
    let third = rw (c.jerk_rows.ensures.path, c.jerk_rows.ensures.tables) at c.clarabel_3order_constraint_topp3.ensures in
    wrote_most (wrote_then (wrote_then first second) third) (omega arith)
