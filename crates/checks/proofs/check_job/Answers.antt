use Rattle.std.proofs.Common.{◌∙◌}
use Rattle.checks.proofs.Chain.{then_ok}
use Rattle.checks.proofs.Within.{stations_within}
use Rattle.checks.proofs.check_job.Goals as goal

pub returns : goal.returns
returns c = rw (stations_within c.args.problem.now.grid.now c.check_grid.ensures c.in_ok-check_grid.was) (c.check_setup.ensures ∙ then_ok c.check_grid.ensures c.in_ok-check_grid.was ∙ then_ok c.check_boundary.ensures c.in_ok-check_boundary.was)
