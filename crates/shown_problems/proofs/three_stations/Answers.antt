use lib.Ieee.{of_bits}
use Rattle.shown_problems.proofs.Shown.{three_assembled}
use Rattle.shown_problems.proofs.three_stations.Goals as goal

pub returns-clause-answer : goal.returns-clause-answer
unfolding of_bits
returns-clause-answer c = three_assembled _ _ c.objective_count_at.ensures c.job_with.ensures c.objectives_at.ensures c.assemble.ensures.answer
