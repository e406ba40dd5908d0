use Rattle.std.proofs.Common.{rules, arith, refl, ◌+◌}
use Rattle.std.proofs.lemmas.List.{places}
use Rattle.model.specs.Numbers.{at}
use Rattle.buffers.proofs.Laws.{columns_none, columns_cons, band_wrote}
use Rattle.columns.proofs.Cells.{band_at, at_column}
use Rattle.acc_jerk.proofs.Parts.{part_filled}
use Rattle.acc_jerk.proofs.group.Goals as goal

pub returns : goal.returns
returns c =
    let s = c.args.station in
    let one = part_filled s.rows.tables.a.now s.from _ s.placed.2 c.part.ensures c.column_table-u.ensures in
    let right = c.fill_right.ensures (λ i. at s.rows.tables.max.now (s.from + i)) (λ i x lt e. search (rules, places)) in
    rw (← s.placed.0, ← c.spacing-r.ensures)
    (band_at (band_wrote (columns_cons one (columns_cons c.column_jerk-u.ensures (columns_cons c.column_jerk-u-2.ensures columns_none))) (rw c.count.ensures at right) (omega arith))
    (at_column c.column_a-a.ensures (at_column c.column_b-b.ensures (at_column c.column_b-next.ensures refl))))
