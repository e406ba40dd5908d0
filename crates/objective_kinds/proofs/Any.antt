-- std's test of a list is document 01's "any .. is present".
use Rattle.std.proofs.Common.{◌≡◌, refl, ap, Bool, List, [], ◌∷◌, ◌||◌}
use Rattle.std.specs.List.{list_any}
use Rattle.model.specs.Problem.{some}
use Rattle.model.specs.declared.Objective.{Objective}

pub any_is_some : (f : Objective → Bool) (os : List Objective) → list_any f os ≡ some f os
any_is_some f [] = refl
any_is_some f (o ∷ os) = ap (λ b. f o || b) (any_is_some f os)
