use native.Mathlib.Omega.{arith}
use Rattle.model.specs.Standard.{equalities}
use Rattle.buffers.proofs.Laws.{wrote_then, wrote_most}
use Rattle.dynamic.proofs.equalities.Goals as goal

pub returns : goal.returns
unfolding equalities
returns c = rw (← c.stop.ensures, ← c.last.ensures) (wrote_most (wrote_then (wrote_then (wrote_then c.clarabel_boundary_constraint_topp3-u.ensures c.clarabel_dynamic_stationary_topp3-u.ensures) c.clarabel_dynamic_stationary_topp3-u-2.ensures) c.clarabel_dynamic_moving_topp3.ensures) (omega arith))
