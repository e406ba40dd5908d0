use Rattle.std.proofs.Common.{arith}
use Rattle.checks.proofs.Within.{within}
use Rattle.checks.proofs.check_scaled.Goals as goal

pub overflow_add-scales : goal.overflow_add-scales
overflow_add-scales c = omega (arith, within _ _ _ _ _ c.check_list.ensures c.in_ok-check_list.was)

pub offset_bounds-pool-start : goal.offset_bounds-pool-start
offset_bounds-pool-start c = omega (arith, within _ _ _ _ _ c.check_list.ensures c.in_ok-check_list.was)

pub slice_bounds-scales-end : goal.slice_bounds-scales-end
slice_bounds-scales-end c = omega (arith, within _ _ _ _ _ c.check_list.ensures c.in_ok-check_list.was)
