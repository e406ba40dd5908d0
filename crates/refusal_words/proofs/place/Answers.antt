use Rattle.std.proofs.Common.{rules}
use Rattle.text.proofs.Laws.{renamed}
use Rattle.refusal_words.specs.Refusals.{place}
use Rattle.refusal_words.proofs.place.Goals as goal

pub returns-in_default : goal.returns-in_default
unfolding place
returns-in_default c = renamed _ (search rules) c.words-in_default.ensures
