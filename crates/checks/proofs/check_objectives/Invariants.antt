use mathlib.Core.Path.{◌≡◌}
use lib.ListN.{length, drop}
use Rattle.model.specs.Refusals.{objectives_refusal}
use Rattle.checks.proofs.check_objectives.Given as goal

abbrev pub invariant-loop-i : goal.invariant-loop-i
invariant-loop-i l =
    let p = l.problem in
    objectives_refusal p.pool.now p.job.d (length p.grid.now) 0 l.objectives ≡ objectives_refusal p.pool.now p.job.d (length p.grid.now) l.i (drop l.i l.objectives)
