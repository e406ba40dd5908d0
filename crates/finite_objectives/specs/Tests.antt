-- What the scans of the torque objectives look at.
use Rattle.std.specs.Prelude.{Bool, ◌&&◌, List, [], ◌∷◌, ℕ, ◌+◌, ◌*◌, Float}
use Rattle.model.specs.Numbers.{at, finite, ◌⊕◌, ◌⊖◌, ◌⊗◌, +4}
use Rattle.model.specs.Problem.{Torque}
use Rattle.finiteness.specs.Finite.{finite_each, each}

abbrev pub times : List Float → List Float → ℕ → ℕ → ℕ → Float
times table scales d k i = at table (k * d + i) ⊗ at scales i

-- joint i at station k; at an end with the resting station z
abbrev pub joint_test : Torque → List Float → ℕ → ℕ → Bool
joint_test x y k i = finite_each (times x.a y x.d k i ∷ times x.b y x.d k i ∷ times x.g y x.d k i ∷ [])

abbrev pub joint_end_test : Torque → List Float → ℕ → ℕ → ℕ → Bool
joint_end_test x y k z i = finite_each (times x.a y x.d k i ∷ times x.b y x.d k i ∷ (times x.g y x.d k i ⊕ times x.g y x.d z i) ∷ [])

-- ThermalEnergy at a positive end, with its cost; and at the station of xi number j
abbrev pub thermal_end : Torque → List Float → List Float → Float → ℕ → ℕ → Bool
thermal_end x y weights w k z = each (joint_end_test x y k z) 0 x.d && finite (w ⊗ at weights z)

abbrev pub thermal_at : Torque → List Float → List Float → Float → ℕ → Bool
thermal_at x y weights w k = each (joint_test x y k) 0 x.d && finite (+4 ⊗ w ⊗ at weights k)

-- TotalVariationTorque: joint i at an end, and between station k and the next
abbrev pub end_test : Torque → List Float → ℕ → ℕ → ℕ → Bool
end_test x y k z i =
    finite_each
    (times x.a y x.d k i
    ∷ times x.b y x.d k i
    ∷ (times x.g y x.d k i ⊖ times x.g y x.d z i)
    ∷ (times x.g y x.d z i ⊖ times x.g y x.d k i)
    ∷ [])

abbrev pub step_test : Torque → List Float → ℕ → ℕ → Bool
step_test x y k i =
    finite_each
    (times x.a y x.d k i
    ∷ times x.a y x.d (k + 1) i
    ∷ times x.b y x.d k i
    ∷ times x.b y x.d (k + 1) i
    ∷ (times x.g y x.d (k + 1) i ⊖ times x.g y x.d k i)
    ∷ (times x.g y x.d k i ⊖ times x.g y x.d (k + 1) i)
    ∷ [])
