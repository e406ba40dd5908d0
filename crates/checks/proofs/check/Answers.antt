use Rattle.checks.proofs.Within.{job_within, tables_within}
use Rattle.checks.proofs.check.Goals as goal

pub invariant_of-limited : goal.invariant_of-limited
invariant_of-limited c = record { limits = job_within _ c.check_job.ensures c.in_ok-check_job.was }

pub check_bounds-requires : goal.check_bounds-requires
check_bounds-requires c = tables_within _ c.check_tables.ensures c.in_ok-check_tables.was
