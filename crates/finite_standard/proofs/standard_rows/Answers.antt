use mathlib.Core.Path.{◌∙◌}
use Rattle.buffers.specs.Paths.{path_of}
use Rattle.first_order.specs.Limits.{limits}
use Rattle.acc_jerk.specs.Tables.{acc_of, jerk_of}
use Rattle.finite_standard.proofs.Rows.{standard_scanned}
use Rattle.finite_standard.proofs.standard_rows.Goals as goal

pub returns : goal.returns
returns c =
    let input = c.args.input in
    let two = rw (c.limits.ensures.path, c.limits.ensures.limits) at c.first_order-two.ensures in
    let three = rw (c.acceleration_rows.ensures.path, c.acceleration_rows.ensures.tables) at c.acceleration-three.ensures in
    let four = rw (c.jerk_rows.ensures.path, c.jerk_rows.ensures.tables) at c.jerk-four.ensures in
    rw (← c.both.ensures, ← c.both-2.ensures) c.both-3.ensures
    ∙ standard_scanned (path_of input.path) input.boundary (limits input.start input.end input.amax.now) (acc_of input.acceleration) (jerk_of input.jerk) c.equalities-one.ensures two three four
