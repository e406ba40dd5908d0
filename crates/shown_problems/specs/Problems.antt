-- The three problems that the program `show` assembles, as docs/LISTING.md has them: document 01's case A, a problem with all four objectives, and case L.
use Rattle.std.specs.Prelude.{ℕ, zero, suc, ◌-◌, List, [], ◌∷◌, ◌++◌, length, replicate, Float}
use Rattle.std.specs.Float.{binary64}
use Rattle.std.specs.Float.Ieee.{of_bits}
use Rattle.model.specs.Numbers.{+0, +1, +2, +3, +4, +5, half, quarter, +∞}
use Rattle.model.specs.Problem.{Problem}
use Rattle.model.specs.Ledger.{given}
use Rattle.model.specs.declared.Job.{Job}
use Rattle.model.specs.declared.Objective.{Objective}
use Rattle.model.specs.declared.Objective.TheVariants.{Time, ThermalEnergy, TotalVariationTorque, Linear}

-- 2.5, 10, 0.1 and 0.05
abbrev +2½ : Float
+2½ = of_bits binary64 0x4004000000000000

abbrev +10 : Float
+10 = of_bits binary64 0x4024000000000000

abbrev tenth : Float
tenth = of_bits binary64 0x3fb999999999999a

abbrev twentieth : Float
twentieth = of_bits binary64 0x3fa999999999999a

-- problem 2 of docs/LISTING.md
abbrev pub small : Problem
small =
    record {
      boundary = record { a0 = +0; a1 = +0; b0 = +0; b1 = +0 };
      path = record { grid = +0 ∷ +1 ∷ +2½ ∷ +4 ∷ +5 ∷ []; N0 = 1; N1 = 1 };
      count = 4;
      slots = Time +1 ∷ ThermalEnergy half 0 1 ∷ TotalVariationTorque quarter 1 1 ∷ Linear +2 2 5 7 5 ∷ [];
      pool = half ∷ +2 ∷ +0 ∷ +0 ∷ tenth ∷ +0 ∷ +0 ∷ +0 ∷ +0 ∷ +0 ∷ twentieth ∷ +0 ∷ [];
      limits =
          record {
            start = record { maximum = +4; minimum = +0 };
            end = record { maximum = +∞; minimum = +0 };
            amax = +∞ ∷ +∞ ∷ +4 ∷ +∞ ∷ +∞ ∷ [];
          };
      acc = record { counts = 0 ∷ 0 ∷ 1 ∷ 0 ∷ 0 ∷ []; a = quarter ∷ []; b = +1 ∷ []; max = +3 ∷ [] };
      jerk = record { counts = 0 ∷ 0 ∷ 1 ∷ 0 ∷ 0 ∷ []; a = half ∷ []; b = quarter ∷ []; c = +1 ∷ []; max = +10 ∷ [] };
      thermal = half ∷ +1 ∷ +1 ∷ +1 ∷ half ∷ [];
      torque =
          record {
            d = 1;
            a = +1 ∷ +1 ∷ +2 ∷ +1 ∷ +1 ∷ [];
            b = half ∷ half ∷ half ∷ half ∷ half ∷ [];
            g = +0 ∷ quarter ∷ half ∷ quarter ∷ +0 ∷ [];
          };
      roots = record { start = []; end = [] };
    }

-- the ledger's usual problem but for its third grid number: case A has 2 there, and case L 1
abbrev pub three_stations : Float → Problem
three_stations x = given +0 (+0 ∷ +1 ∷ x ∷ []) 0 0 1 (Time +1 ∷ []) (replicate 3 +∞) 0

-- problem number i, from 0; case L past the last
unfoldable pub problem_at : ℕ → Problem
problem_at zero = three_stations +2
problem_at (suc zero) = small
problem_at (suc (suc i)) = three_stations +1

unfoldable pub stations_at : ℕ → ℕ
stations_at i = length (problem_at i).path.grid

unfoldable pub count_at : ℕ → ℕ
count_at i = (problem_at i).count

-- the objectives of problem i in an array of 16, whose rest is never read
unfoldable pub objectives_at : ℕ → List Objective
objectives_at i = (problem_at i).slots ++ replicate (16 - (problem_at i).count) (Time +1)

-- the job of a problem with boundaries and stationary minima 0 and d = 1
abbrev pub job_with : Float → ℕ → ℕ → Job
job_with start_maximum stationary count =
    record {
      boundary = record { a0 = +0; a1 = +0; b0 = +0; b1 = +0 };
      start = record { maximum = start_maximum; minimum = +0 };
      end = record { maximum = +∞; minimum = +0 };
      d = 1;
      ends = record { n0 = stationary; n1 = stationary };
      count = count;
    }
