use Rattle.std.proofs.Common.{rules}
use Rattle.buffers.proofs.Laws.{cost_filled}
use Rattle.buffers.proofs.fill_cost.Goals as goal

pub returns : goal.returns
returns g c = λ f h. search (cost_filled, c.store_each.ensures f h, rules)
