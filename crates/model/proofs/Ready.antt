-- What an accepted problem gives to the writers: every fact that their `requires` ask for, each in the form in which they ask.
use Prim.Native.Nat.{ℕ, ◌+◌, ◌-◌, ◌*◌, ◌≤◌, ◌<◌, max}
use mathlib.Core.Path.{◌≡◌}
use mathlib.Core.Bool.{Bool, true}
use mathlib.Core.List.{List}
use lib.ListN.{length, get_or}
use lib.Ieee.{nan}
use Rattle.model.specs.Lists.{total}
use Rattle.model.specs.Problem.{Problem, objectives, some, is_thermal, is_torque, is_linear}
use Rattle.model.specs.Refusals.{most_stations}
use Rattle.model.specs.declared.Objective.{Objective}
use Rattle.model.specs.declared.Objective.TheVariants.{Time, ThermalEnergy, TotalVariationTorque, Linear}

-- ---- what refusals 12 and 15 leave for one objective

-- a list of an objective has the length that it needs, within the pool
pub record Listed (p : Problem) (need start len : ℕ) : Type 0 where
  pub long : len ≡ need
  pub within : start + len ≤ length p.pool

pub record TorqueTables (p : Problem) : Type 0 where
  pub a : length p.torque.a ≡ length p.path.grid * p.torque.d
  pub b : length p.torque.b ≡ length p.path.grid * p.torque.d
  pub g : length p.torque.g ≡ length p.path.grid * p.torque.d

pub record ThermalTables (p : Problem) : Type 0 where
  pub weights : length p.thermal ≡ length p.path.grid
  pub torque : TorqueTables p

pub record RootTables (p : Problem) : Type 0 where
  pub start : length p.roots.start ≡ max p.path.N0 1 - 1
  pub end : length p.roots.end ≡ max p.path.N1 1 - 1

-- all that the writer of an objective needs
abbrev pub Ready : Problem → Objective → Type 0
Ready p (Time w) = Unit {0}
Ready p (ThermalEnergy w start len) = Listed p p.torque.d start len × ThermalTables p
Ready p (TotalVariationTorque w start len) = Listed p p.torque.d start len × TorqueTables p
Ready p (Linear w alpha alpha_len beta beta_len) = Listed p (length p.path.grid) alpha alpha_len × Listed p (length p.path.grid) beta beta_len × RootTables p

-- the tables that count if there is a ThermalEnergy, a TotalVariationTorque, a Linear
pub record Counting (p : Problem) (thermals torques linears : Bool) : Type 0 where
  pub thermal : thermals ≡ true → ThermalTables p
  pub torque : torques ≡ true → TorqueTables p
  pub roots : linears ≡ true → RootTables p

abbrev pub CountingWith : Problem → List Objective → Type 0
CountingWith p os = Counting p (some is_thermal os) (some is_torque os) (some is_linear os)

-- ---- the whole

pub record Usable (p : Problem) : Type 0 where
  -- 4, 5 and 14
  pub sized : (2 < length p.path.grid) × (length p.path.grid ≤ most_stations) × (p.path.N0 + p.path.N1 + 1 < length p.path.grid)
  -- 8 to 10
  pub joints : (0 < p.torque.d) × (p.torque.d ≤ 32)
  pub count : (0 < p.count) × (p.count ≤ 16)
  -- 15 and 16
  pub acc :
      (length p.acc.counts ≡ length p.path.grid)
      × (total p.acc.counts ≡ length p.acc.a)
      × (length p.acc.b ≡ length p.acc.a)
      × (length p.acc.max ≡ length p.acc.a)
  pub jerk :
      (length p.jerk.counts ≡ length p.path.grid)
      × (total p.jerk.counts ≡ length p.jerk.a)
      × (length p.jerk.b ≡ length p.jerk.a)
      × (length p.jerk.c ≡ length p.jerk.a)
      × (length p.jerk.max ≡ length p.jerk.a)
  pub few_acc : (k : ℕ) → get_or p.acc.counts k 0 ≤ 256
  pub few_jerk : (k : ℕ) → get_or p.jerk.counts k 0 ≤ 256
  pub amax : length p.limits.amax ≡ length p.path.grid
  pub counting : CountingWith p (objectives p)
  -- objective i, among those that count and in its slot
  pub objective : (i : ℕ) → Ready p (get_or (objectives p) i (Time nan))
  pub slot : (i : ℕ) → i < p.count → Ready p (get_or p.slots i (Time nan))
