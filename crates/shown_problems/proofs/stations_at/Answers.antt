use mathlib.Core.Path.{◌≡◌, refl}
use Rattle.shown_problems.specs.Problems.{problem_at, stations_at}
use Rattle.shown_problems.proofs.Shown.{unless_one}
use Rattle.shown_problems.proofs.stations_at.Goals as goal

pub returns-then-i-eq1 : goal.returns-then-i-eq1
unfolding stations_at problem_at
returns-then-i-eq1 c = rw c.if-i-eq1.true

pub returns-else-i-eq1 : goal.returns-else-i-eq1
unfolding stations_at problem_at
returns-else-i-eq1 c = unless_one (λ i. 3 ≡ stations_at i) refl (λ k. refl) _ c.if-i-eq1.false
