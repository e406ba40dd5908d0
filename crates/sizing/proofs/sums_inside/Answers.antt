use lib.ListN.{get_or}
use native.Mathlib.Omega.{arith}
use Rattle.model.specs.Numbers.{at}
use Rattle.model.specs.Counts.{upper}
use Rattle.model.proofs.Bound.{upper_one}
use Rattle.sizing.proofs.Sums.{sum_next}
use Rattle.sizing.proofs.sums_inside.Goals as goal

pub loop-k-preserved : goal.loop-k-preserved
loop-k-preserved c =
    let a = c.args in let k = c.loop-k.k in
    omega (
      arith,
      c.requires,
      c.loop-k.invariant,
      c.upper_of-uppers.ensures,
      upper_one (at a.amax.now k),
      sum_next (λ i. upper (at a.amax.now i)) k a.to c.loop-k-test.true,
      sum_next (λ i. get_or a.acc_rows.now i 0) k a.to c.loop-k-test.true,
      sum_next (λ i. get_or a.jerk_rows.now i 0) k a.to c.loop-k-test.true,
      c.type_inv.acc_rows k,
      c.type_inv.jerk_rows k,
    )
