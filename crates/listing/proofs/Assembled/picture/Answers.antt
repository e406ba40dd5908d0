use Rattle.text.proofs.Laws.{after}
use Rattle.listing.specs.Pattern.{picture}
use Rattle.listing.proofs.Assembled.picture.Goals as goal

pub returns : goal.returns
unfolding picture
returns c = search (after) depth 12
