use Rattle.std.proofs.Common.{List, ap, ◌∙◌}
use Rattle.model.specs.Problem.{some, uses_root}
use Rattle.model.specs.declared.Objective.{Objective}
use Rattle.sizing.proofs.Additions.{whole}
use Rattle.sizing.proofs.measures.Measures.counted.Goals as goal

pub returns : goal.returns
returns c = λ p e f. whole p f (c.standard-standard.ensures.0 p e) (c.root-root.ensures.0 p e (c.has_root.ensures ∙ ap (λ (l : List Objective). some uses_root l) f)) c.sum-before.ensures (c.objectives.ensures.0 p e) c.sum.ensures
