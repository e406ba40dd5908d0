use mathlib.Core.Path.{sym, ap, ◌∙◌}
use lib.Ieee.{is_nan}
use Rattle.replay_list.proofs.Laws.{never}
use borrow.Author.Tests.{eqb-true}
use Rattle.replay_list.proofs.compare.has_bits.Goals as goal

-- `replay_list::compare::has_bits` meets its contract: a NaN has been told apart.
pub returns-then-not-is_nan : goal.returns-then-not-is_nan
unfolding is_nan
returns-then-not-is_nan c = λ e. (λ n. never (sym c.if-not-is_nan.true ∙ c.is_nan.ensures.value ∙ ap is_nan n), eqb-true _ _ e)
