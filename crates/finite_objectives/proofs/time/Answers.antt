use Rattle.std.proofs.Common.{rules}
use Rattle.model.specs.Numbers.{at, finite, ◌⊗◌}
use Rattle.model.specs.Problem.{skip}
use Rattle.model.specs.Objectives.{time_weights}
use Rattle.buffers.specs.Paths.{path_of}
use Rattle.finite_objectives.proofs.Costs.{time_scanned}
use Rattle.finite_objectives.proofs.time.Goals as goal

pub returns : goal.returns
unfolding skip
returns c = λ k.
    let q = path_of c.args.path in
    let w = c.args.weight in
    time_scanned q w k (rw (← c.first_xi.ensures, ← c.length_xi.ensures) (c.every.ensures (λ j. finite (w ⊗ at (time_weights q) j)) (λ j b h l p. search rules)))
