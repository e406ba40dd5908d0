-- What refusal 20 leaves: every number to be written to values, right side or cost is finite.
use mathlib.Core.Path.{◌≡◌}
use mathlib.Core.Bool.{true, not}
use mathlib.Core.List.{List, [], ◌∷◌}
use lib.Ieee.{Float}
use borrow.Author.Tests.{not-false}
use Rattle.model.specs.Verdicts.{accepted}
use Rattle.model.specs.Numbers.{finite}
use Rattle.model.specs.Problem.{Problem}
use Rattle.model.specs.Assembled.{values, right_side, cost, all_finite}
use Rattle.model.specs.Answers.{every_finite, finite_refusal}
use Rattle.model.specs.declared.rule.Rule.TheVariants.{NumberNotFinite}
use Rattle.model.proofs.All.{All}
use Rattle.model.proofs.Passes.{both, refuse_passes}

abbrev pub Finite : Float → Type 0
Finite x = finite x ≡ true

pub all_finite_lem : (l : List Float) → all_finite l ≡ true → All Finite l
all_finite_lem [] e = tt
all_finite_lem (x ∷ l) e = let h = both (finite x) (all_finite l) e in (h.0, all_finite_lem l h.1)

pub record FiniteLists (p : Problem) : Type 0 where
  pub values : All Finite (values p)
  pub right : All Finite (right_side p)
  pub cost : All Finite (cost p)

pub finite_lists : (p : Problem) → finite_refusal p ≡ accepted → FiniteLists p
unfolding finite_refusal
finite_lists p e =
    let t = both _ _ (not-false _ ((refuse_passes NumberNotFinite 0 (not (every_finite p))).0 e)) in
    let k = both (all_finite (values p)) (all_finite (right_side p)) t.0 in
    record { values = all_finite_lem (values p) k.0; right = all_finite_lem (right_side p) k.1; cost = all_finite_lem (cost p) t.1 }
