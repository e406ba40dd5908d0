use Rattle.std.proofs.Common.{rules}
use Rattle.buffers.proofs.Laws.{one_right}
use Rattle.buffers.proofs.put_right.Goals as goal

pub returns : goal.returns
returns c = search (one_right, rules)
