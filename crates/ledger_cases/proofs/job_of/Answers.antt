use lib.Ieee.{of_bits}
use borrow.Author.Rules.{rules}
use Rattle.ledger_cases.proofs.job_of.Goals as goal

pub returns : goal.returns
unfolding of_bits
returns c = search rules
