use Rattle.std.proofs.Common.{rules}
use mathlib.Core.Path.{refl, sym}
use lib.Ieee.{of_bits}
use Rattle.shown_problems.specs.Problems.{problem_at}
use Rattle.shown_problems.proofs.Shown.{of_same, past_one}
use Rattle.shown_problems.proofs.assemble.Goals as goal

pub returns-in-0-clause-answer : goal.returns-in-0-clause-answer
unfolding problem_at of_bits
returns-in-0-clause-answer c = of_same _ _ _ c.three_stations.ensures.answer (rw c.in-0.is refl)

pub returns-in-1-clause-answer : goal.returns-in-1-clause-answer
unfolding problem_at of_bits
returns-in-1-clause-answer c = of_same _ _ _ c.small.ensures.answer (rw c.in-1.is refl)

pub returns-in_default-clause-answer : goal.returns-in_default-clause-answer
unfolding of_bits
returns-in_default-clause-answer c = of_same _ _ _ c.three_stations-in_default.ensures.answer (sym (past_one _ (search rules) (search rules)))
