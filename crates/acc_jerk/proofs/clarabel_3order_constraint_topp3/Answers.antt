use Rattle.std.proofs.Common.{arith}
use Rattle.model.specs.Problem.{m, stop}
use Rattle.buffers.proofs.Laws.{overs_all, wrote_most}
use Rattle.buffers.proofs.Turns.{stations_none, stations_more}
use Rattle.acc_jerk.proofs.Sums.{before_within, place_next}
use Rattle.acc_jerk.proofs.clarabel_3order_constraint_topp3.Goals as goal

pub loop-k-init : goal.loop-k-init
unfolding stop
loop-k-init c = (omega arith, omega (arith, c.args.rows.path.sized), c.offset-from.ensures, stations_none)

pub invariant_of-jerk_at : goal.invariant_of-jerk_at
unfolding stop
invariant_of-jerk_at c =
    let rows = c.args.rows in
    record {
      placed = omega (arith, rows.sized, rows.path.sized, c.stop-k-end.ensures, c.loop-k.invariant, c.loop-k-test, before_within rows.tables.rows.now c.loop-k.k);
    }

pub loop-k-preserved : goal.loop-k-preserved
unfolding stop
loop-k-preserved c =
    let rows = c.args.rows in
    let k = c.loop-k.k in (
      omega (arith, c.loop-k.invariant),
      omega (arith, c.loop-k-test, c.stop-k-end.ensures),
      place_next rows.tables.rows.now _ k c.loop-k.invariant.2 (omega (arith, rows.sized, rows.path.sized, c.stop-k-end.ensures, c.loop-k-test)),
      stations_more c.loop-k.invariant.0 c.loop-k.invariant.3 (wrote_most c.jerk_at-u.ensures (omega (arith, c.requires.1 k))),
    )

pub returns : goal.returns
unfolding m stop
returns c = overs_all c.loop-k.invariant.3 (omega (arith, c.loop-k.invariant)) (omega (arith, c.loop-k-test, c.stop-k-end.ensures)) (omega (arith, c.args.rows.path.sized))
