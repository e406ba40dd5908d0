use native.Mathlib.Omega.{arith}
use mathlib.Core.Path.{refl}
use borrow.Author.Tests.{lt-ltb, le-ltb}
use Rattle.model.specs.Standard.{end_rows}
use Rattle.buffers.proofs.Laws.{wrote_then, wrote_skip}
use Rattle.columns.proofs.Cells.{band_at, at_column}
use Rattle.first_order.proofs.end_rows.Goals as goal

pub returns-then-count-eq0 : goal.returns-then-count-eq0
returns-then-count-eq0 c = rw (le-ltb 0 c.args.count (omega (arith, c.if-count-eq0.true))) wrote_skip

pub returns : goal.returns
unfolding end_rows
returns c = rw (lt-ltb 0 c.args.count (omega (arith, c.if-count-eq0.false))) (wrote_then c.upper-u.ensures (band_at c.row.ensures (at_column c.column_a.ensures refl)))
