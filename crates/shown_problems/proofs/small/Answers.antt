use lib.Ieee.{of_bits}
use Rattle.shown_problems.proofs.Shown.{small_assembled}
use Rattle.shown_problems.proofs.small.Goals as goal

pub returns-clause-answer : goal.returns-clause-answer
unfolding of_bits
returns-clause-answer c = small_assembled _ c.objective_count_at.ensures c.job_with.ensures c.objectives_at.ensures c.assemble.ensures.answer
