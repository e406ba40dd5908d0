use Rattle.std.proofs.Common.{rules}
use Rattle.buffers.proofs.Laws.{right_filled}
use Rattle.buffers.proofs.fill_right.Goals as goal

pub returns : goal.returns
returns g c = λ f h. search (right_filled, c.store_each.ensures f h, rules)
