use Rattle.checks.proofs.Within.{counts_within}
use Rattle.checks.proofs.limited.Limited.check_tables.Goals as goal

pub check_all_rows-requires : goal.check_all_rows-requires
check_all_rows-requires c = counts_within _ c.check_counts.ensures c.in_ok-check_counts.was

pub check_standard_lengths-requires : goal.check_standard_lengths-requires
check_standard_lengths-requires c = counts_within _ c.check_counts.ensures c.in_ok-check_counts.was
