use Rattle.std.proofs.Common.{rules}
use Rattle.buffers.proofs.Laws.{one_cost}
use Rattle.buffers.proofs.put_cost.Goals as goal

pub returns : goal.returns
returns c = search (one_cost, rules)
