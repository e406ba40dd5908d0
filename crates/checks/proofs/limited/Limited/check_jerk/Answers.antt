use Rattle.checks.proofs.Tests.{counts_fit}
use Rattle.checks.proofs.limited.Limited.check_jerk.Goals as goal

pub total-rows-requires : goal.total-rows-requires
total-rows-requires c = counts_fit c.args.counts.now c.requires c.type_inv.counts
