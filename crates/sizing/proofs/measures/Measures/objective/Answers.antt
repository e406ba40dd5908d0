use Rattle.std.proofs.Common.{arith, ◌∙◌}
use Rattle.model.specs.Counts.{objective_counts}
use Rattle.sizing.proofs.Additions.{no_counts}
use Rattle.sizing.proofs.measures.Measures.objective.Goals as goal

pub returns-in-Time : goal.returns-in-Time
unfolding objective_counts
returns-in-Time c = (λ p e. c.time.ensures.0 ∙ rw (c.in-Time.is, e.l), c.time.ensures.1)

pub returns-in-ThermalEnergy : goal.returns-in-ThermalEnergy
unfolding objective_counts
returns-in-ThermalEnergy c = (λ p e. c.thermal.ensures.0 ∙ rw (c.in-ThermalEnergy.is, e.d, e.ends, e.l), c.thermal.ensures.1)

pub returns-in-TotalVariationTorque : goal.returns-in-TotalVariationTorque
unfolding objective_counts
returns-in-TotalVariationTorque c = (λ p e. c.torque.ensures.0 ∙ rw (c.in-TotalVariationTorque.is, e.d, e.ends, e.m), c.torque.ensures.1)

pub returns-in-Linear : goal.returns-in-Linear
unfolding objective_counts
returns-in-Linear c = (λ p e. rw c.in-Linear.is (no_counts c.default.ensures), omega (arith, c.default.ensures))
