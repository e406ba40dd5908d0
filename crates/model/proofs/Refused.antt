-- `refuse` is `err_if` of a refusal.
use mathlib.Core.Path.{◌≡◌, refl}
use mathlib.Core.Bool.{Bool, true, false}
use Prim.Native.Nat.{ℕ}
use Rattle.model.specs.Verdicts.{refuse, err_if}
use Rattle.model.specs.declared.Refusal.{Refusal}
use Rattle.model.specs.declared.rule.Rule.{Rule}

pub refuse_is : (r : Rule) (k : ℕ) (t : Bool) (e : Refusal) → e ≡ record { rule = r; place = k } → err_if t e ≡ refuse r k t
unfolding refuse err_if
refuse_is r k true e p = rw p refl
refuse_is r k false e p = refl
