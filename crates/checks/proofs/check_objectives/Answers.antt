use Rattle.std.proofs.Common.{rules, tests}
use Rattle.checks.proofs.Slots.{one_refuses}
use Rattle.checks.proofs.check_objectives.Goals as goal

pub returns-in_err-check_objective : goal.returns-in_err-check_objective
returns-in_err-check_objective c = one_refuses _ _ _ _ _ c.loop-i.invariant _ c.loop-i-test.true c.check_objective.ensures _ c.in_err-check_objective.was (search (rules, tests))
