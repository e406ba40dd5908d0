use native.Mathlib.Omega.{arith}
use mathlib.Core.Path.{refl}
use borrow.Author.Tests.{lt-ltb, le-ltb}
use Rattle.model.specs.Standard.{stationary_row}
use Rattle.buffers.proofs.Laws.{wrote_skip}
use Rattle.columns.proofs.Cells.{band_at, at_column}
use Rattle.dynamic.proofs.clarabel_dynamic_stationary_topp3.Goals as goal

pub returns-then-count-eq0 : goal.returns-then-count-eq0
returns-then-count-eq0 c = rw (le-ltb 0 c.args.count (omega (arith, c.if-count-eq0.true))) wrote_skip

pub returns : goal.returns
unfolding stationary_row
returns c = rw (lt-ltb 0 c.args.count (omega (arith, c.if-count-eq0.false))) (band_at c.row.ensures (at_column c.column_a.ensures (at_column c.column_b.ensures refl)))
