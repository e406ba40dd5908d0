-- "a problem is the assembly's input without the output buffers", and the numbers that document 01 names after it. Tables go by their number.
use Rattle.std.specs.Prelude.{◌+◌, ◌-◌, ◌*◌, ◌||◌, ◌∷◌}
use Rattle.model.specs.Base.{ℕ, max, min, Bool, true, false, List, [], length, take, Float, Boundary, Bounds, Job, Objective, Time, ThermalEnergy, TotalVariationTorque, Linear}
use Rattle.model.specs.Numbers.{at, ◌⊖◌}

-- "The grid s has stations 0 to n. N0 and N1 are the stationary counts"
pub record Path : Type 0 where
  pub grid : List Float
  pub N0 : ℕ
  pub N1 : ℕ

-- for what reads the grid alone
abbrev pub on_grid : List Float → Path
on_grid g = record { grid = g; N0 = 0; N1 = 0 }

-- the stationary ends' bounds, and "2 amax"
pub record Limits : Type 0 where
  pub start : Bounds
  pub end : Bounds
  pub amax : List Float

-- "0 acceleration row counts", "3 to 5 acc a, b, max"
pub record Acceleration : Type 0 where
  pub counts : List ℕ
  pub a : List Float
  pub b : List Float
  pub max : List Float

-- "1 jerk row counts", "6 to 9 jerk a, b, c, max"
pub record Jerk : Type 0 where
  pub counts : List ℕ
  pub a : List Float
  pub b : List Float
  pub c : List Float
  pub max : List Float

-- "d the dimension", "11 to 13 torque a, b, g", station by station
pub record Torque : Type 0 where
  pub d : ℕ
  pub a : List Float
  pub b : List Float
  pub g : List Float

-- "14 start roots, 15 end roots"
pub record Roots : Type 0 where
  pub start : List Float
  pub end : List Float

-- `slots` are the array of 16, of which the first `count` are the job's: "Objectives are at most 16, each a kind with its weight and the parts (start, length)
-- of a lent pool that hold its lists." `thermal` is "10 thermal weights"
pub record Problem : Type 0 where
  pub boundary : Boundary
  pub path : Path
  pub count : ℕ
  pub slots : List Objective
  pub pool : List Float
  pub limits : Limits
  pub acc : Acceleration
  pub jerk : Jerk
  pub thermal : List Float
  pub torque : Torque
  pub roots : Roots

-- the problem of a job: its record, the 16 objectives, the grid, tables 0 to 15, the pool
abbrev pub problem : Job → List Objective → List Float → List ℕ → List ℕ → List Float → List Float → List Float → List Float → List Float → List Float → List Float → List Float → List Float → List Float → List Float → List Float → List Float → List Float → List Float → Problem
problem job slots grid t0 t1 t2 t3 t4 t5 t6 t7 t8 t9 t10 t11 t12 t13 t14 t15 pool =
    record {
      boundary = job.boundary;
      path = record { grid = grid; N0 = job.ends.n0; N1 = job.ends.n1 };
      count = job.count;
      slots = slots;
      pool = pool;
      limits = record { start = job.start; end = job.end; amax = t2 };
      acc = record { counts = t0; a = t3; b = t4; max = t5 };
      jerk = record { counts = t1; a = t6; b = t7; c = t8; max = t9 };
      thermal = t10;
      torque = record { d = job.d; a = t11; b = t12; g = t13 };
      roots = record { start = t14; end = t15 };
    }

-- what kind of objective it is
abbrev pub is_time : Objective → Bool
is_time (Time w) = true
is_time (ThermalEnergy w s l) = false
is_time (TotalVariationTorque w s l) = false
is_time (Linear w a al b bl) = false

abbrev pub is_thermal : Objective → Bool
is_thermal (Time w) = false
is_thermal (ThermalEnergy w s l) = true
is_thermal (TotalVariationTorque w s l) = false
is_thermal (Linear w a al b bl) = false

abbrev pub is_torque : Objective → Bool
is_torque (Time w) = false
is_torque (ThermalEnergy w s l) = false
is_torque (TotalVariationTorque w s l) = true
is_torque (Linear w a al b bl) = false

abbrev pub is_linear : Objective → Bool
is_linear (Time w) = false
is_linear (ThermalEnergy w s l) = false
is_linear (TotalVariationTorque w s l) = false
is_linear (Linear w a al b bl) = true

-- "once if any Time or ThermalEnergy is present"
abbrev pub uses_root : Objective → Bool
uses_root o = is_time o || is_thermal o

abbrev pub weight : Objective → Float
weight (Time w) = w
weight (ThermalEnergy w s l) = w
weight (TotalVariationTorque w s l) = w
weight (Linear w a al b bl) = w

abbrev pub some : (Objective → Bool) → List Objective → Bool
some f [] = false
some f (o ∷ os) = f o || some f os

-- 1 for a positive count, and 0 for 0
abbrev pub flag : ℕ → ℕ
flag k = min k 1

abbrev pub objectives : Problem → List Objective
objectives p = take p.count p.slots

abbrev pub has_root : Problem → Bool
has_root p = some uses_root (objectives p)

module _ (q : Path) where
  -- "stations 0 to n": the last one
  abbrev pub n : ℕ
  n = length q.grid - 1

  -- "m = n − N0 − N1"
  unfoldable pub m : ℕ
  m = n - q.N0 - q.N1

  -- "p is how many of N0, N1 are positive"
  unfoldable pub ends : ℕ
  ends = flag q.N0 + flag q.N1

  -- "L = n + 1 − max(N0,1) − max(N1,1)": how many xi
  unfoldable pub L : ℕ
  L = n + 1 - max q.N0 1 - max q.N1 1

  -- xi number j "belongs to station max(N0,1)+j"
  unfoldable pub skip : ℕ
  skip = max q.N0 1

  -- the last moving station, n − N1
  unfoldable pub stop : ℕ
  stop = n - q.N1

  -- "a of station k is k; b of station k is n+1+k; xi number j is 2(n+1)+j"
  abbrev pub col_a : ℕ → ℕ
  col_a k = k

  abbrev pub col_b : ℕ → ℕ
  col_b k = n + 1 + k

  abbrev pub col_xi : ℕ → ℕ
  col_xi j = 2 * (n + 1) + j

  abbrev pub s : ℕ → Float
  s k = at q.grid k

  -- the spacing from station k to the next
  abbrev pub spacing : ℕ → Float
  spacing k = s (k + 1) ⊖ s k
