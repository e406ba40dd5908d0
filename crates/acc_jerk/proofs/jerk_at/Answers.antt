use Rattle.std.proofs.Common.{arith}
use Rattle.model.specs.Standard.{jerk_rows_at}
use Rattle.buffers.proofs.Laws.{wrote_then, wrote_most}
use Rattle.acc_jerk.proofs.jerk_at.Goals as goal

pub returns : goal.returns
unfolding jerk_rows_at
returns c = wrote_most (wrote_then c.backward-u.ensures c.forward.ensures) (omega arith)
