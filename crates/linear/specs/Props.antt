-- That objectives fit has one proof at most, so a ghost field may say it.
use native.Mathlib.Nat.{ℕ_set}
use Rattle.std.specs.Coded.{Π_prop, →_prop, Unit-prop, le_prop}
use Rattle.std.specs.Prelude.{List, Float, All, slice_index_or}
use Rattle.model.specs.declared.Ends.{Ends}
use Rattle.model.specs.declared.Objective.{Objective}
use Rattle.model.specs.declared.Objective.TheVariants.{Time, ThermalEnergy, TotalVariationTorque, Linear}
use Rattle.linear.specs.Charges.{Fits}
use Rattle.linear.specs.Parts.{FitsIn}
use Rattle.linear.specs.declared.parts.LinearInput.{LinearInput}

fits_prop : (s : List Float) (e : Ends) (r0 r1 pool : List Float) (o : Objective) → IsProp (Fits s e r0 r1 pool o)
fits_prop s e r0 r1 pool (Time w) = Unit-prop
fits_prop s e r0 r1 pool (ThermalEnergy w start len) = Unit-prop
fits_prop s e r0 r1 pool (TotalVariationTorque w start len) = Unit-prop
fits_prop s e r0 r1 pool (Linear w a al b bl) =
    λ x y i. (ℕ_set _ _ x.0 y.0 i, ℕ_set _ _ x.1 y.1 i, ℕ_set _ _ x.2 y.2 i, ℕ_set _ _ x.3 y.3 i, le_prop x.4 y.4 i, le_prop x.5 y.5 i)

pub all_fit_prop : (x : LinearInput) (os : List Objective) → IsProp (All (FitsIn x) os)
all_fit_prop x os =
    Π_prop (λ i. Π_prop (λ d. →_prop (fits_prop x.path.grid.now x.path.ends x.roots.start.now x.roots.end.now x.pool.now (slice_index_or os i d))))
