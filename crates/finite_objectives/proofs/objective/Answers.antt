use Rattle.model.specs.Objectives.{objective_block}
use Rattle.objectives.specs.Lends.{lends_of}
use Rattle.finite_objectives.proofs.Costs.{linear_scanned}
use Rattle.finite_objectives.proofs.objective.Goals as goal

pub returns-in-Time : goal.returns-in-Time
unfolding objective_block
returns-in-Time c = rw c.in-Time.is c.time.ensures

pub returns-in-ThermalEnergy : goal.returns-in-ThermalEnergy
unfolding objective_block
returns-in-ThermalEnergy c =
    let s = c.scaled.ensures in
    rw c.in-ThermalEnergy.is (rw (s.path, s.tables, s.scales, s.joints) at c.thermal_energy.ensures)

pub returns-in-TotalVariationTorque : goal.returns-in-TotalVariationTorque
unfolding objective_block
returns-in-TotalVariationTorque c =
    let s = c.scaled-in-TotalVariationTorque.ensures in
    rw c.in-TotalVariationTorque.is (rw (s.path, s.tables, s.scales, s.joints) at c.total_variation_torque.ensures)

pub returns-in-Linear : goal.returns-in-Linear
returns-in-Linear c = λ k. linear_scanned (lends_of c.args.input.now) k c.in-Linear.is
