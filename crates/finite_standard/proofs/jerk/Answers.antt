use Rattle.std.proofs.Common.{arith}
use Rattle.model.specs.Problem.{m, stop}
use Rattle.model.specs.Standard.{jerk_rows_at}
use Rattle.buffers.specs.Paths.{path_of}
use Rattle.acc_jerk.specs.Tables.{jerk_of}
use Rattle.acc_jerk.proofs.Sums.{before_within, place_next}
use Rattle.finiteness.proofs.Laws.{each_start, each_next, each_all}
use Rattle.finite_standard.proofs.AccJerk.{over_scanned}
use Rattle.finite_standard.proofs.jerk.Goals as goal

pub loop-k-init : goal.loop-k-init
unfolding stop
loop-k-init c = (omega arith, omega (arith, c.args.rows.path.sized), c.offset-from.ensures, each_start)

pub invariant_of-jerk_at : goal.invariant_of-jerk_at
unfolding stop
invariant_of-jerk_at c =
    let rows = c.args.rows in
    record {
      placed = omega (arith, rows.sized, rows.path.sized, c.stop-last.ensures, c.loop-k.invariant, c.loop-k-test, before_within rows.tables.rows.now c.loop-k.k);
    }

pub loop-k-preserved : goal.loop-k-preserved
unfolding stop
loop-k-preserved c =
    let rows = c.args.rows in
    let k = c.loop-k.k in (
      omega (arith, c.loop-k.invariant),
      omega (arith, c.loop-k-test, c.stop-last.ensures),
      place_next rows.tables.rows.now _ k c.loop-k.invariant.2 (omega (arith, rows.sized, rows.path.sized, c.stop-last.ensures, c.loop-k-test)),
      each_next c.loop-k.invariant.0 c.loop-k.invariant.3 c.jerk_at.ensures c.both-ok.ensures,
    )

pub returns : goal.returns
unfolding m stop
returns c =
    let rows = c.args.rows in
    over_scanned (jerk_rows_at (path_of rows.path) (jerk_of rows.tables))
    (each_all c.loop-k.invariant.3 (omega (arith, c.loop-k.invariant)) (omega (arith, c.loop-k-test, c.stop-last.ensures, rows.path.sized)))
