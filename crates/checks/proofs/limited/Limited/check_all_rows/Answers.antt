use Rattle.std.proofs.Common.{◌∙◌}
use Rattle.checks.proofs.Chain.{then_ok}
use Rattle.checks.proofs.limited.Limited.check_all_rows.Goals as goal

pub returns : goal.returns
returns c = rw (← c.stations-stations.ensures) (c.check_rows-2.ensures ∙ then_ok c.check_rows.ensures c.in_ok-check_rows.was)
