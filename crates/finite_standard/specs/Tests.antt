-- What the scans of the standard rows look at.
use Rattle.std.specs.Prelude.{Bool, ◌&&◌, List, ℕ, ◌-◌, Float, ltb}
use Rattle.model.specs.Numbers.{at, finite, ◌⊗◌, ◌⊘◌, +1, −2}
use Rattle.model.specs.Problem.{Path, spacing, stop}
use Rattle.acc_jerk.specs.Tables.{jerk_value}
use Rattle.acc_jerk.specs.declared.Form.{Form}
use Rattle.acc_jerk.specs.declared.Form.TheVariants.{Here, Ahead}
use Rattle.finiteness.specs.Finite.{each, if_test}

-- an interval: a spacing, and what stands for twice it
abbrev pub twice_test : Float → Bool
twice_test h = finite h && finite (−2 ⊗ h)

abbrev pub acc_test : List Float → List Float → List Float → ℕ → Bool
acc_test a b h k = finite (at a k) && (finite (at b k) && finite (at h k))

abbrev pub pair_test : List Float → List Float → ℕ → Bool
pair_test a h k = finite (at a k) && finite (at h k)

-- of a jerk row one number alone, in one of its forms
abbrev pub jerk_test : Form → List Float → List Float → Float → ℕ → Bool
jerk_test form b c r k = finite (jerk_value form (at b k) (at c k) r)

-- the sum b + c r, the difference b - c r: a product that is not finite makes it not finite too
abbrev pub back_test : List Float → List Float → Float → ℕ → Bool
back_test = jerk_test Here

abbrev pub ahead_test : List Float → List Float → Float → ℕ → Bool
ahead_test = jerk_test Ahead

-- the sums of a station's jerk rows, from place o on
abbrev pub back_at : Path → List Float → List Float → ℕ → ℕ → ℕ → Bool
back_at q b c k o count = if_test (ltb q.N0 k) (each (back_test b c (+1 ⊘ spacing q (k - 1))) o count)

abbrev pub ahead_at : Path → List Float → List Float → ℕ → ℕ → ℕ → Bool
ahead_at q b c k o count = if_test (ltb k (stop q)) (each (ahead_test b c (+1 ⊘ spacing q k)) o count)
