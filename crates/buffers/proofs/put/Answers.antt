use Rattle.std.proofs.Common.{rules}
use Rattle.buffers.specs.Buffers.{emit}
use Rattle.buffers.proofs.Laws.{one_entry}
use Rattle.buffers.proofs.put.Goals as goal

pub returns : goal.returns
unfolding emit
returns c = search (one_entry, rules)
