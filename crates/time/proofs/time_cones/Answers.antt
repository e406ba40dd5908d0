use Rattle.std.proofs.Common.{arith}
use Rattle.buffers.proofs.Laws.{turns_none}
use Rattle.buffers.proofs.Blocks.{turns_next}
use Rattle.time.proofs.time_cones.Goals as goal

pub loop-i-init : goal.loop-i-init
loop-i-init c = (omega arith, turns_none)

pub loop-i-preserved : goal.loop-i-preserved
loop-i-preserved c = (omega arith, turns_next c.loop-i.invariant.1 c.time_cone-u.ensures)
