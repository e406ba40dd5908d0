use Rattle.text.proofs.Laws.{after}
use Rattle.listing.specs.Rows.{cost_line}
use Rattle.listing.proofs.Assembled.cost_line.Goals as goal

pub returns : goal.returns
unfolding cost_line
returns c = search (after) depth 12
