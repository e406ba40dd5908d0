use Rattle.std.proofs.Common.{arith}
use Rattle.model.specs.Objectives.{objective_block}
use Rattle.objectives.specs.Lends.{lends_of}
use Rattle.objectives.proofs.Blocks.{builds_most, builds_none, linear_cones, linear_cost}
use Rattle.objectives.proofs.objective.Goals as goal

pub returns-in-Time : goal.returns-in-Time
unfolding objective_block
returns-in-Time c = rw c.in-Time.is (builds_most c.time.ensures (omega arith))

pub returns-in-ThermalEnergy : goal.returns-in-ThermalEnergy
unfolding objective_block
returns-in-ThermalEnergy c =
    let s = c.scaled.ensures in
    rw c.in-ThermalEnergy.is (builds_most (rw (s.path, s.tables, s.scales, s.joints) at c.thermal_energy.ensures) (omega arith))

pub returns-in-TotalVariationTorque : goal.returns-in-TotalVariationTorque
unfolding objective_block
returns-in-TotalVariationTorque c =
    let s = c.scaled-torque.ensures in
    rw c.in-TotalVariationTorque.is (builds_most (rw (s.path, s.tables, s.scales, s.joints) at c.total_variation_torque.ensures) (omega arith))

pub returns-in-Linear : goal.returns-in-Linear
returns-in-Linear c =
    builds_none _ (linear_cones (lends_of c.args.input.now) _ c.in-Linear.is) (linear_cost (lends_of c.args.input.now) _ c.in-Linear.is)
