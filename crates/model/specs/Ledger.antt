-- "The ledger program": its fourteen cases, and the table that it prints. The proof is proofs/Ledger.antt.
use Rattle.std.specs.Prelude.{◌*◌, ◌∷◌, ◌++◌, Ok}
use Rattle.model.specs.Base.{ℕ, List, [], length, replicate, Float, nan, Objective, Time, ThermalEnergy, TotalVariationTorque, Linear, FourCounts}
use Rattle.model.specs.Numbers.{+0, +1, +2, +3, +4, −1, +∞}
use Rattle.model.specs.Problem.{Problem, objectives}
use Rattle.model.specs.Verdicts.{Answer, refused}
use Rattle.model.specs.Counts.{four_counts, counts}
use Rattle.model.specs.Owners.{index_places}
use Rattle.model.specs.Answers.{Told, told, sizing, assembly, Buffers}
use Rattle.model.specs.declared.rule.Rule.TheVariants.{BoundaryNegative, TooFewStations, GridNotRising, WeightUnfit, NoMovingInterval}

pub data Name : Type 0 where
  A B C D E F G H I J K L M N : Name

-- a name with a problem, and a name with an answer
pub record Case : Type 0 where
  pub name : Name
  pub problem : Problem

pub record Line : Type 0 where
  pub name : Name
  pub told : Told

abbrev pub line : Case → Line
line c = record { name = c.name; told = sizing c.problem }

-- the same by the assembly, with buffers of just the counted lengths, and of the index
abbrev pub exact : FourCounts → ℕ → Buffers
exact t objectives =
    record {
      rows = replicate t.entries 0;
      columns = replicate t.entries 0;
      values = replicate t.entries nan;
      right = replicate t.rows nan;
      kinds = replicate t.cones 0;
      dimensions = replicate t.cones 0;
      cost = replicate t.columns nan;
      index = replicate (index_places objectives) 0;
    }

abbrev pub assembled_line : Case → Line
assembled_line c = record { name = c.name; told = (assembly c.problem (exact (counts c.problem) (length (objectives c.problem)))).told }

-- "Unless said: grid 0, 1, .. n, n=2, boundaries, stationary minima, counts, tables, alpha and beta 0, amax and stationary maxima plus infinity, d=1,
-- scales and weights 1, one Time." What a case may change: the initial a, the grid, the two stationary counts, d, the objectives, amax, jerk rows per station
abbrev pub given : Float → List Float → ℕ → ℕ → ℕ → List Objective → List Float → ℕ → Problem
given a0 grid N0 N1 d objectives amax jerk =
    let stations = length grid in
    record {
      boundary = record { a0 = a0; a1 = +0; b0 = +0; b1 = +0 };
      path = record { grid = grid; N0 = N0; N1 = N1 };
      count = length objectives;
      slots = objectives;
      pool = replicate d +1 ++ replicate (2 * stations) +0;
      limits = record { start = record { maximum = +∞; minimum = +0 }; end = record { maximum = +∞; minimum = +0 }; amax = amax };
      acc = record { counts = replicate stations 0; a = []; b = []; max = [] };
      jerk =
          record {
            counts = replicate stations jerk;
            a = replicate (jerk * stations) +0;
            b = replicate (jerk * stations) +0;
            c = replicate (jerk * stations) +0;
            max = replicate (jerk * stations) +0;
          };
      thermal = replicate stations +0;
      torque = record { d = d; a = replicate (d * stations) +0; b = replicate (d * stations) +0; g = replicate (d * stations) +0 };
      roots = record { start = []; end = [] };
    }

abbrev three : List Float
three = +0 ∷ +1 ∷ +2 ∷ []

abbrev four : List Float
four = +0 ∷ +1 ∷ +2 ∷ +3 ∷ []

abbrev free : ℕ → List Float
free k = replicate k +∞

-- A cone program to size and to look at, not to solve: at rest at both ends of two equal steps it has no feasible point (`case_a_none`, proofs/Worked.antt)
abbrev pub case_a : Problem
case_a = given +0 three 0 0 1 (Time +1 ∷ []) (free 3) 0

abbrev pub case : Name → Problem → Case
case x p = record { name = x; problem = p }

-- "A as it stands; B two Times; C n=3, N0=N1=1; D n=3, N0=1, N1=2; E TotalVariationTorque; F ThermalEnergy; G ThermalEnergy, n=3, N0=1, d=2; H Linear;
-- I amax 4 at station 1; J weight NaN; K initial a −1, grid 0, 1; L grid 0, 1, 1; M one jerk row per station; N grid 0, 1."
abbrev pub cases : List Case
cases =
    case A case_a
    ∷ case B (given +0 three 0 0 1 (Time +1 ∷ Time +1 ∷ []) (free 3) 0)
    ∷ case C (given +0 four 1 1 1 (Time +1 ∷ []) (free 4) 0)
    ∷ case D (given +0 four 1 2 1 (Time +1 ∷ []) (free 4) 0)
    ∷ case E (given +0 three 0 0 1 (TotalVariationTorque +1 0 1 ∷ []) (free 3) 0)
    ∷ case F (given +0 three 0 0 1 (ThermalEnergy +1 0 1 ∷ []) (free 3) 0)
    ∷ case G (given +0 four 1 0 2 (ThermalEnergy +1 0 2 ∷ []) (free 4) 0)
    ∷ case H (given +0 three 0 0 1 (Linear +1 1 3 4 3 ∷ []) (free 3) 0)
    ∷ case I (given +0 three 0 0 1 (Time +1 ∷ []) (+∞ ∷ +4 ∷ +∞ ∷ []) 0)
    ∷ case J (given +0 three 0 0 1 (Time nan ∷ []) (free 3) 0)
    ∷ case K (given −1 (+0 ∷ +1 ∷ []) 0 0 1 (Time +1 ∷ []) (free 2) 0)
    ∷ case L (given +0 (+0 ∷ +1 ∷ +1 ∷ []) 0 0 1 (Time +1 ∷ []) (free 3) 0)
    ∷ case M (given +0 three 0 0 1 (Time +1 ∷ []) (free 3) 1)
    ∷ case N (given +0 (+0 ∷ +1 ∷ []) 0 0 1 (Time +1 ∷ []) (free 2) 0)
    ∷ []

abbrev pub says : Name → Answer → Line
says x a = record { name = x; told = told a }

abbrev pub table : List Line
table =
    says A (Ok (four_counts 32 19 6 8))
    ∷ says B (Ok (four_counts 37 23 8 9))
    ∷ says C (Ok (four_counts 37 27 8 12))
    ∷ says D (refused NoMovingInterval 0)
    ∷ says E (Ok (four_counts 43 15 3 8))
    ∷ says F (Ok (four_counts 33 18 5 8))
    ∷ says G (Ok (four_counts 58 33 8 13))
    ∷ says H (Ok (four_counts 23 11 2 6))
    ∷ says I (Ok (four_counts 33 20 6 8))
    ∷ says J (refused WeightUnfit 0)
    ∷ says K (refused BoundaryNegative 0)
    ∷ says L (refused GridNotRising 2)
    ∷ says M (Ok (four_counts 44 23 6 8))
    ∷ says N (refused TooFewStations 0)
    ∷ []
