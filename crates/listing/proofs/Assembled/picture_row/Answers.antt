use Rattle.text.proofs.Laws.{after}
use Rattle.listing.specs.Pattern.{picture_row}
use Rattle.listing.proofs.Assembled.picture_row.Goals as goal

pub returns : goal.returns
unfolding picture_row
returns c = search (after) depth 12
