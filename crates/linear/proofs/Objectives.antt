-- What objectives charge, one after another, and where none is a Linear.
use mathlib.Core.Path.{◌≡◌, refl, sym, ap}
use mathlib.Core.Bool.{false}
use mathlib.Core.List.{List, [], ◌∷◌, ◌++◌, append-nil}
use Prim.Native.Nat.{ℕ, ◌+◌}
use lib.Ieee.{Float}
use lib.ListN.{take}
use Rattle.std.specs.List.{filter}
use Rattle.model.specs.Lists.{joined}
use Rattle.model.specs.Problem.{some, is_linear}
use Rattle.model.specs.Program.{Cell}
use Rattle.model.specs.declared.Ends.{Ends}
use Rattle.model.specs.declared.Objective.{Objective}
use Rattle.model.specs.declared.Objective.TheVariants.{Time, ThermalEnergy, TotalVariationTorque, Linear}
use Rattle.model.proofs.Sums.{joined-append}
use Rattle.buffers.proofs.Laws.{never}
use Rattle.linear.specs.Charges.{Charged, charges_of}
use Rattle.linear.proofs.Charges.{charged_then}

-- one objective more
pub charged_next : (f : Objective → List Cell) (os : List Objective) (i : ℕ) {o : Objective} {x y z : Float} {c : ℕ}
    → take (i + 1) os ≡ take i os ++ (o ∷ []) → Charged y x c (joined f (take i os)) → Charged z y c (f o) → Charged z x c (joined f (take (i + 1) os))
charged_next f os i {o} e p q = rw (e, joined-append f (take i os) (o ∷ []), append-nil (f o)) (charged_then p q)

module _ (s : List Float) (e : Ends) (r0 r1 pool : List Float) where
  pub none_charged : (os : List Objective) → some is_linear os ≡ false → joined (charges_of s e r0 r1 pool) os ≡ []
  none_charged [] h = refl
  none_charged (Time w ∷ os) h = none_charged os h
  none_charged (ThermalEnergy w a al ∷ os) h = none_charged os h
  none_charged (TotalVariationTorque w a al ∷ os) h = none_charged os h
  none_charged (Linear w a al b bl ∷ os) h = never (sym h)

  -- the others charge nothing
  pub linears_charge : (os : List Objective) → joined (charges_of s e r0 r1 pool) (filter is_linear os) ≡ joined (charges_of s e r0 r1 pool) os
  linears_charge [] = refl
  linears_charge (Time w ∷ os) = linears_charge os
  linears_charge (ThermalEnergy w a al ∷ os) = linears_charge os
  linears_charge (TotalVariationTorque w a al ∷ os) = linears_charge os
  linears_charge (Linear w a al b bl ∷ os) = ap (λ (l : List Cell). charges_of s e r0 r1 pool (Linear w a al b bl) ++ l) (linears_charge os)
