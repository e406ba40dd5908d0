use Rattle.std.proofs.Common.{arith}
use Rattle.buffers.proofs.Laws.{turns_none}
use Rattle.buffers.proofs.Blocks.{turns_next}
use Rattle.sqrt_a.proofs.root_cones.Goals as goal

pub loop-i-init : goal.loop-i-init
loop-i-init c = (omega arith, turns_none)

pub loop-i-preserved : goal.loop-i-preserved
loop-i-preserved c = (omega arith, turns_next c.loop-i.invariant.1 c.root_cone-u.ensures)
