-- What the writers of objectives are lent, as a problem, and what the checks leave of it.
use Rattle.std.specs.Prelude.{◌≡◌, List, [], ℕ, ◌+◌, ◌*◌, ◌≤◌, ◌<◌, Float, length, get_or}
use Rattle.std.specs.Float.{nan}
use Rattle.model.specs.Refusals.{most_joints}
use Rattle.model.specs.Numbers.{+0}
use Rattle.model.specs.Problem.{Problem, Path, Torque}
use Rattle.model.specs.declared.Objective.{Objective}
use Rattle.model.specs.declared.Objective.TheVariants.{Time, ThermalEnergy, TotalVariationTorque, Linear}

-- a problem with this path, table 10, these torque tables and this pool; nothing else of it counts for cones and own columns (`same_cones`, `same_cost`)
abbrev pub lends : Path → List Float → Torque → List Float → Problem
lends q thermal x pool =
    record {
      boundary = record { a0 = +0; a1 = +0; b0 = +0; b1 = +0 };
      path = q;
      count = 0;
      slots = [];
      pool = pool;
      limits = record { start = record { maximum = +0; minimum = +0 }; end = record { maximum = +0; minimum = +0 }; amax = [] };
      acc = record { counts = []; a = []; b = []; max = [] };
      jerk = record { counts = []; a = []; b = []; c = []; max = [] };
      thermal = thermal;
      torque = x;
      roots = record { start = []; end = [] };
    }

-- what refusals 8, 12 and 15 leave for an objective with scales
abbrev pub Joints : Problem → ℕ → ℕ → Type 0
Joints p start len =
    (0 < p.torque.d)
    × (p.torque.d ≤ most_joints)
    × (length p.torque.a ≡ length p.path.grid * p.torque.d)
    × (length p.torque.b ≡ length p.path.grid * p.torque.d)
    × (length p.torque.g ≡ length p.path.grid * p.torque.d)
    × (len ≡ p.torque.d)
    × (start + len ≤ length p.pool)

abbrev pub Ready : Problem → Objective → Type 0
Ready p (Time w) = Unit {0}
Ready p (ThermalEnergy w start len) = Joints p start len × (length p.thermal ≡ length p.path.grid)
Ready p (TotalVariationTorque w start len) = Joints p start len
Ready p (Linear w a al b bl) = Unit {0}

-- each of the objectives that count
abbrev pub AllReady : Problem → List Objective → ℕ → Type 0
AllReady p os count = (i : ℕ) → i < count → Ready p (get_or os i (Time nan))
