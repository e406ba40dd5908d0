use Rattle.std.proofs.Common.{◌≤◌}
use Rattle.model.specs.Program.{positive_row}
use Rattle.buffers.specs.Buffers.{Lists}
use Rattle.buffers.proofs.positive.Given as goal

abbrev pub invariant-loop-i : goal.invariant-loop-i
invariant-loop-i l = (l.i ≤ l.count) × Lists l.initial.u l.initial.out l.u l.out positive_row l.from.at l.i 1
