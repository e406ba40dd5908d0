use Rattle.std.proofs.Common.{arith}
use Rattle.linear.proofs.Charges.{sums_next}
use Rattle.linear.proofs.parts.LinearEnd.sum.Goals as goal

pub loop-k-preserved : goal.loop-k-preserved
loop-k-preserved c =
    let i = c.loop-k.invariant in
    (omega arith, omega (arith, c.loop-k-test), sums_next i.2 i.0 (omega arith) c.charge-y.ensures)

pub returns-2 : goal.returns-2
returns-2 c =
    let i = c.loop-k.invariant in sums_next i.2 i.0 (omega (arith, c.loop-k-test, c.loop-k.auto.k)) c.charge-y.ensures
