use Rattle.std.proofs.Common.{arith}
use Rattle.acc_jerk.proofs.Sums.{before_below}
use Rattle.acc_jerk.proofs.offset.Goals as goal

pub total-requires : goal.total-requires
total-requires c = let a = c.args in omega (arith, c.requires, before_below a.counts.now a.k)
