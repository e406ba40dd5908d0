use mathlib.Core.Path.{refl}
use lib.Ieee.{of_bits, neg}
use Rattle.replay_list.proofs.compare.F64Element.BEFORE.Goals as goal

pub returns : goal.returns
unfolding of_bits neg
returns c = refl
