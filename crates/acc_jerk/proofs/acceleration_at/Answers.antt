use Rattle.std.proofs.Common.{rules, arith, refl, ◌+◌, get_or}
use Rattle.std.proofs.lemmas.List.{places}
use Rattle.model.specs.Numbers.{at}
use Rattle.model.specs.Standard.{acceleration_rows}
use Rattle.buffers.proofs.Laws.{columns_none, columns_cons, band_wrote}
use Rattle.buffers.proofs.Parts.{part_of}
use Rattle.columns.proofs.Cells.{band_at, at_column}
use Rattle.acc_jerk.proofs.Parts.{part_filled}
use Rattle.acc_jerk.proofs.acceleration_at.Goals as goal

pub returns : goal.returns
unfolding acceleration_rows
returns c =
    let a = c.args in
    let t = a.rows.tables in
    let count = get_or t.rows.now a.k 0 in
    let one = part_filled t.a.now a.from count (omega arith) (part_of t.a.now a.from count) c.column_table-u.ensures in
    let two = part_filled t.b.now a.from count (omega (arith, a.rows.sized)) (part_of t.b.now a.from count) c.column_table-u-2.ensures in
    let right = c.fill_right.ensures (λ i. at t.max.now (a.from + i)) (λ i x lt e. search (rules, places)) in
    rw (← c.requires.1) (band_at (band_wrote (columns_cons one (columns_cons two columns_none)) right (omega arith)) (at_column c.column_a-a.ensures (at_column c.column_b-b.ensures refl)))
