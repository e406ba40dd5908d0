use mathlib.Core.Path.{◌≡◌, refl}
use lib.ListN.{replicate}
use Rattle.model.specs.Numbers.{+1}
use Rattle.model.specs.declared.Objective.TheVariants.{Time}
use Rattle.shown_problems.specs.Problems.{problem_at, objectives_at}
use Rattle.shown_problems.proofs.Shown.{unless_one}
use Rattle.shown_problems.proofs.objectives_at.Goals as goal

pub returns-then-i-eq1 : goal.returns-then-i-eq1
unfolding objectives_at problem_at
returns-then-i-eq1 c = rw c.if-i-eq1.true

pub returns-else-i-eq1 : goal.returns-else-i-eq1
unfolding objectives_at problem_at
returns-else-i-eq1 c = unless_one (λ i. replicate 16 (Time +1) ≡ objectives_at i) refl (λ k. refl) _ c.if-i-eq1.false
