use Rattle.std.proofs.Common.{arith}
use Rattle.model.specs.Program.{positive_row}
use Rattle.buffers.proofs.Laws.{lists_none, lists_more}
use Rattle.buffers.proofs.positive.Goals as goal

pub loop-i-init : goal.loop-i-init
loop-i-init c = (omega arith, lists_none)

pub loop-i-preserved : goal.loop-i-preserved
unfolding positive_row
loop-i-preserved c = (omega arith, lists_more c.loop-i.invariant.1 c.row-u.ensures)
