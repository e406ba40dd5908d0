use Rattle.std.proofs.Common.{rules, tests, ◌∙◌}
use Rattle.std.proofs.lemmas.Iterator.{YieldsList-from_slice}
use Rattle.std.proofs.lemmas.Iterator.Search.{any_from_yields_List}
use Rattle.objective_kinds.proofs.Any.{any_is_some}
use Rattle.objective_kinds.proofs.any_is.Goals as goal

pub returns : goal.returns
returns g c test says =
    any_from_yields_List test _ _ _ c.any.ensures.ran (YieldsList-from_slice c.args.objectives.now cc) (λ x b q k. search (rules, tests, says))
    ∙ any_is_some test c.args.objectives.now
