use Rattle.std.proofs.Common.{◌≡◌, ◌+◌, ◌≤◌, take}
use Rattle.buffers.specs.Buffers.{Columns}
use Rattle.buffers.specs.Lent.{constant_cells}
use Rattle.buffers.proofs.put_all.Given as goal

abbrev pub invariant-loop-p : goal.invariant-loop-p
invariant-loop-p g l = (l.p-index ≤ l.p-index-end) × (l.u.entries ≡ l.initial.u.entries + l.p-index) × Columns l.initial.u l.initial.out l.u l.out l.row.at (constant_cells (take l.p-index l.fn.terms)) 1
