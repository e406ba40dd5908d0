use Rattle.std.proofs.Common.{rules, arith, ◌+◌, ◌-◌, ◌≤◌, length}
use Rattle.std.proofs.iter.Serving.{serving}
use Rattle.model.specs.Problem.{m, stop}
use Rattle.buffers.specs.Paths.{path_of}
use Rattle.acc_jerk.specs.Tables.{acc_of}
use Rattle.acc_jerk.proofs.Sums.{before_below, before_upto, same_place}
use Rattle.finite_standard.specs.Tests.{acc_test}
use Rattle.finite_standard.proofs.AccJerk.{acc_scanned}
use Rattle.finite_standard.proofs.acceleration.Goals as goal

-- the rows that are tested are those that are written
pub returns : goal.returns
unfolding m stop
returns c =
    let rows = c.args.rows in
    let first = rows.path.ends.n0 + 1 in
    let count = m (path_of rows.path) - 1 in
    acc_scanned (path_of rows.path) (acc_of rows.tables) first count c.offset-first.ensures
    (same_place rows.tables.rows.now {i = c.stop.result} {k = first + count} c.offset-last.ensures (omega (arith, rows.path.sized, c.stop.ensures)) (omega (arith, rows.path.sized, c.stop.ensures)))
    (omega (arith, rows.sized, rows.path.sized)) (c.every.ensures (acc_test rows.tables.a.now rows.tables.b.now rows.tables.max.now) (λ k b lo hi e. search rules))

pub overflow_sub-last : goal.overflow_sub-last
unfolding stop
overflow_sub-last c =
    let rows = c.args.rows in
    omega (arith, c.offset-first.ensures, before_upto rows.tables.rows.now (rows.path.ends.n0 + 1) c.stop.result (omega (arith, rows.path.sized, c.stop.ensures)) c.offset-last.ensures)

pub every-requires-clause-callable : goal.every-requires-clause-callable
unfolding stop
every-requires-clause-callable c =
    let rows = c.args.rows in
    let rises = before_upto rows.tables.rows.now (rows.path.ends.n0 + 1) c.stop.result (omega (arith, rows.path.sized, c.stop.ensures)) c.offset-last.ensures in
    let up : c.offset-first.result ≤ c.offset-last.result = omega (arith, c.offset-first.ensures, rises) in
    let below : c.offset-last.result ≤ length rows.tables.a.now = omega (arith, c.offset-last.ensures, before_below rows.tables.rows.now c.stop.result, rows.sized) in
    grind (serving, up, below)
