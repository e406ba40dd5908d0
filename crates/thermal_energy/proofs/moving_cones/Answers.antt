use Rattle.std.proofs.Common.{arith, rules, ◌+◌}
use Rattle.std.specs.Float.Ieee.{neg}
use Rattle.model.specs.Problem.{L, ends, skip}
use Rattle.buffers.proofs.Laws.{turns_none, turns_all}
use Rattle.buffers.proofs.Blocks.{turns_next}
use Rattle.thermal_energy.specs.Cones.{gravity}
use Rattle.thermal_energy.proofs.moving_cones.Goals as goal

pub loop-j-init : goal.loop-j-init
loop-j-init c = turns_none

pub cone-u-requires-clause-told : goal.cone-u-requires-clause-told
cone-u-requires-clause-told c = (λ i. neg (gravity c.args.torque (c.first_xi-first.result + c.loop-j.j) i), λ i x lt e. search rules)

pub loop-j-preserved : goal.loop-j-preserved
loop-j-preserved c = turns_next c.loop-j.invariant (c.cone-u.ensures (λ i. neg (gravity c.args.torque (c.first_xi-first.result + c.loop-j.j) i)) (λ i x lt e. search rules))

pub returns : goal.returns
unfolding ends skip L
returns c = rw (← c.positive_ends-p.ensures, ← c.first_xi-first.ensures) (turns_all c.loop-j.invariant (omega arith) (omega arith) (omega arith))
