use Rattle.std.proofs.Common.{rules}
use lib.Ieee.{div, of_bits}
use Rattle.listing.proofs.rows.float_at.Goals as goal

pub returns : goal.returns
unfolding div of_bits
returns c = search rules
