-- That objectives are ready has one proof at most, so a ghost field may say it.
use native.Mathlib.Nat.{ℕ_set}
use Rattle.std.specs.Coded.{Π_prop, →_prop, Unit-prop, le_prop}
use Rattle.std.specs.Prelude.{List, ℕ, get_or}
use Rattle.std.specs.Float.{nan}
use Rattle.model.specs.Problem.{Problem}
use Rattle.model.specs.declared.Objective.{Objective}
use Rattle.model.specs.declared.Objective.TheVariants.{Time, ThermalEnergy, TotalVariationTorque, Linear}
use Rattle.objectives.specs.Input.{Joints, Ready, AllReady}

joints_prop : (p : Problem) (start len : ℕ) → IsProp (Joints p start len)
joints_prop p start len =
    λ x y i. (le_prop x.0 y.0 i, le_prop x.1 y.1 i, ℕ_set _ _ x.2 y.2 i, ℕ_set _ _ x.3 y.3 i, ℕ_set _ _ x.4 y.4 i, ℕ_set _ _ x.5 y.5 i, le_prop x.6 y.6 i)

ready_prop : (p : Problem) (o : Objective) → IsProp (Ready p o)
ready_prop p (Time w) = Unit-prop
ready_prop p (ThermalEnergy w start len) = λ x y i. (joints_prop p start len x.0 y.0 i, ℕ_set _ _ x.1 y.1 i)
ready_prop p (TotalVariationTorque w start len) = joints_prop p start len
ready_prop p (Linear w a al b bl) = Unit-prop

pub all_ready_prop : (p : Problem) (os : List Objective) (count : ℕ) → IsProp (AllReady p os count)
all_ready_prop p os count = Π_prop (λ i. →_prop (ready_prop p (get_or os i (Time nan))))
