use Rattle.std.proofs.Common.{rules, tests}
use Rattle.copp3_c.proofs.KindCheck.{unknown_refused}
use Rattle.copp3_c.proofs.kind_check.Goals as goal

pub returns-in_err-refuse_if : goal.returns-in_err-refuse_if
returns-in_err-refuse_if c =
    unknown_refused _ _ _ c.loop-i.invariant c.min.ensures _ c.loop-i-test.true c.refuse_if.ensures _ c.in_err-refuse_if.was (search (rules, tests))
