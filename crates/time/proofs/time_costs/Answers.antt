use Rattle.std.proofs.Common.{rules, ◌+◌, max}
use Rattle.model.specs.Numbers.{at, ◌⊗◌}
use Rattle.model.specs.Problem.{skip}
use Rattle.model.specs.Objectives.{time_weights}
use Rattle.buffers.specs.Paths.{path_of}
use Rattle.time.proofs.time_costs.Goals as goal

pub returns : goal.returns
unfolding skip
returns c = rw (← c.length_xi-count.ensures) (c.fill_cost.ensures (λ j. c.args.weight ⊗ at (time_weights (path_of c.args.path)) (max c.args.path.ends.n0 1 + j)) (λ i x lt e. search rules))
