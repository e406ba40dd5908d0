use Rattle.text.proofs.Laws.{after}
use Rattle.listing.specs.Rows.{term}
use Rattle.listing.proofs.Assembled.term.Goals as goal

pub returns : goal.returns
unfolding term
returns c = search (after) depth 12
