use Rattle.text.proofs.Laws.{after}
use Rattle.listing.specs.Page.{counts_line}
use Rattle.listing.proofs.counts_line.Goals as goal

pub returns : goal.returns
unfolding counts_line
returns c = search (after) depth 12
