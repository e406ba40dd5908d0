use lib.Ieee.{of_bits}
use borrow.Author.Rules.{rules}
use Rattle.shown_problems.proofs.job_with.Goals as goal

pub returns : goal.returns
unfolding of_bits
returns c = search rules
