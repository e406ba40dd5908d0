use Rattle.std.proofs.Common.{rules}
use Rattle.replay_list.proofs.Laws.{made}
use Rattle.replay_list.proofs.input.read_floats.Goals as goal

-- `replay_list::input::read_floats` meets its contract: each call answers its number.
pub returns : goal.returns
returns c = made _ _ _ (λ i y t k. search rules) _ _ c.from_fn.ensures.items
