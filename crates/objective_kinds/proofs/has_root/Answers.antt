use Rattle.std.proofs.Common.{rules, tests}
use Rattle.model.specs.Problem.{uses_root}
use Rattle.objective_kinds.proofs.has_root.Goals as goal

pub returns : goal.returns
returns c = c.any_is.ensures uses_root (λ o b p. search (rules, tests))
