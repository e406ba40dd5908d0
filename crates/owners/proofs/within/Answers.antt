use borrow.Author.Rules.{rules}
use Rattle.model.specs.OwnerAnswers.{within}
use Rattle.owners.proofs.within.Goals as goal

pub returns : goal.returns
unfolding within
returns c = search rules
