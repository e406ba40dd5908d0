use Rattle.std.proofs.Common.{arith}
use Rattle.model.specs.Objectives.{time_cone}
use Rattle.buffers.proofs.Laws.{closes}
use Rattle.time.proofs.time_cone.Goals as goal

pub returns : goal.returns
unfolding time_cone
returns c = closes c.time_rows-u.ensures c.close_cone.ensures (omega arith) (omega arith)
