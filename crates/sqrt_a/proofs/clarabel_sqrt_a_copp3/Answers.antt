use Rattle.buffers.proofs.Blocks.{builds_skip}
use Rattle.sqrt_a.proofs.clarabel_sqrt_a_copp3.Goals as goal

pub returns : goal.returns
returns c = rw (← c.has_root.ensures, c.if-has_root.false) builds_skip
