-- The inputs of the writers, put together as crate model's records, and what is known of their sizes.
use Rattle.std.specs.Prelude.{◌≡◌, List, ℕ, ◌+◌, ◌*◌, ◌≤◌, ◌<◌, Float, length}
use Rattle.model.specs.Refusals.{most_stations, most_joints}
use Rattle.model.specs.Problem.{Path, Torque}
use Rattle.model.specs.declared.Ends.{Ends}

abbrev pub path : List Float → Ends → Path
path g e = record { grid = g; N0 = e.n0; N1 = e.n1 }

-- what refusals 4, 5 and 14 leave
abbrev pub Sized : List Float → Ends → Type 0
Sized g e = (2 < length g) × (length g ≤ most_stations) × (e.n0 + e.n1 + 1 < length g)

abbrev pub torque_of : ℕ → List Float → List Float → List Float → Torque
torque_of d a b g = record { d = d; a = a; b = b; g = g }

-- what refusals 8, 12 and 15 leave
abbrev pub TorqueSized : ℕ → List Float → List Float → List Float → List Float → ℕ → Type 0
TorqueSized d a b g scales stations =
    (0 < d) × (d ≤ most_joints) × (length a ≡ stations * d) × (length b ≡ stations * d) × (length g ≡ stations * d) × (length scales ≡ d)
