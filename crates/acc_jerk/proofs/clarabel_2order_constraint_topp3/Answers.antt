use Rattle.std.proofs.Common.{arith}
use Rattle.model.specs.Problem.{m, stop}
use Rattle.buffers.proofs.Laws.{lists_all, wrote_most}
use Rattle.buffers.proofs.Turns.{bands_none, bands_more}
use Rattle.acc_jerk.proofs.Sums.{before_within, place_next}
use Rattle.acc_jerk.proofs.clarabel_2order_constraint_topp3.Goals as goal

pub loop-k-init : goal.loop-k-init
unfolding stop
loop-k-init c = (omega arith, omega (arith, c.args.rows.path.sized), c.offset-from.ensures, bands_none)

pub acceleration_at-u-requires : goal.acceleration_at-u-requires
unfolding stop
acceleration_at-u-requires c =
    let a = c.args in
    let k = c.loop-k.k in
    omega (arith, c.requires, a.rows.sized, a.rows.path.sized, c.stop-k-end.ensures, c.loop-k.invariant, c.loop-k.invariant.3.wrote.moves, c.loop-k-test, before_within a.rows.tables.rows.now k, c.requires.1 k)

pub overflow_add-from : goal.overflow_add-from
overflow_add-from c =
    let a = c.args in
    omega (arith, a.rows.sized, c.well_formed, c.loop-k.invariant.2, before_within a.rows.tables.rows.now c.loop-k.k)

pub loop-k-preserved : goal.loop-k-preserved
unfolding stop
loop-k-preserved c =
    let rows = c.args.rows in
    let k = c.loop-k.k in (
      omega (arith, c.loop-k.invariant),
      omega (arith, c.loop-k-test, c.stop-k-end.ensures),
      place_next rows.tables.rows.now _ k c.loop-k.invariant.2 (omega (arith, rows.sized, rows.path.sized, c.stop-k-end.ensures, c.loop-k-test)),
      bands_more c.loop-k.invariant.0 c.loop-k.invariant.3 (wrote_most c.acceleration_at-u.ensures (c.requires.1 k)),
    )

pub returns : goal.returns
unfolding m stop
returns c = lists_all c.loop-k.invariant.3 (omega (arith, c.loop-k.invariant)) (omega (arith, c.loop-k-test, c.stop-k-end.ensures)) (omega (arith, c.args.rows.path.sized))
