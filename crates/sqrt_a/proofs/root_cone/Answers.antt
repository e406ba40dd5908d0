use Rattle.std.proofs.Common.{arith}
use Rattle.model.specs.Standard.{root_cone}
use Rattle.buffers.proofs.Laws.{closes}
use Rattle.sqrt_a.proofs.root_cone.Goals as goal

pub returns : goal.returns
unfolding root_cone
returns c = closes c.root_rows-u.ensures c.close_cone.ensures (omega arith) (omega arith)
