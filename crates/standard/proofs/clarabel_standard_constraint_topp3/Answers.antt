use native.Mathlib.Omega.{arith}
use Rattle.buffers.proofs.Laws.{closes, closed_then, closed_most}
use Rattle.standard.proofs.clarabel_standard_constraint_topp3.Goals as goal

pub returns : goal.returns
returns c = closed_most (closed_then (closes c.equalities-u.ensures c.close_cone-v.ensures (omega (arith, c.equalities-u.ensures.moves)) (omega arith)) (closes c.inequalities-w.ensures c.close_cone.ensures (omega (arith, c.inequalities-w.ensures.moves)) (omega arith))) (omega arith)
