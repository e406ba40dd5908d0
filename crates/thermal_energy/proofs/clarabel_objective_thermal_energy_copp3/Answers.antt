use Rattle.std.proofs.Common.{arith}
use Rattle.model.specs.Problem.{ends, L}
use Rattle.model.specs.Objectives.{thermal_block}
use Rattle.buffers.proofs.Laws.{builds}
use Rattle.thermal_energy.proofs.clarabel_objective_thermal_energy_copp3.Goals as goal

pub returns : goal.returns
unfolding thermal_block ends L
returns c = builds c.cones-u.ensures c.costs.ensures.0 c.costs.ensures.1 (omega arith) (omega arith)
