-- Which of document 01's problems a case of the code is, and which problem and letter stand at number i of the definition's cases.
use Rattle.std.specs.Prelude.{ℕ, ◌≤◌, ◌≡◌, [], ◌∷◌, length, get_or, take, replicate}
use Rattle.model.specs.Numbers.{+0, +1, +2, +3, +∞}
use Rattle.model.specs.Problem.{Problem}
use Rattle.model.specs.declared.Objective.{Objective}
use Rattle.model.specs.declared.Job.{Job}
use Rattle.model.specs.Ledger.{Name, A, B, C, D, E, F, G, H, I, J, K, L, M, N, cases, case, case_a, given}
use Rattle.model.specs.Ledger as Definition
use Rattle.ledger_cases.specs.declared.Case.{Case}

-- what is not said of a case
abbrev pub usual_case : ℕ → ℕ → ℕ → ℕ → Objective → Case
usual_case stations n0 n1 d objective =
    record {
      a0 = +0;
      stations = stations;
      grid = +0 ∷ +1 ∷ +2 ∷ +3 ∷ [];
      ends = record { n0 = n0; n1 = n1 };
      d = d;
      objective = objective;
      count = 1;
      amax = replicate 4 +∞;
      jerk = 0;
    }

abbrev pub job_of : Case → Job
job_of c =
    record {
      boundary = record { a0 = c.a0; a1 = +0; b0 = +0; b1 = +0 };
      start = record { maximum = +∞; minimum = +0 };
      end = record { maximum = +∞; minimum = +0 };
      d = c.d;
      ends = c.ends;
      count = c.count;
    }

-- the problem of a case
abbrev pub problem_of : Case → Problem
problem_of c =
    given c.a0 (take c.stations c.grid) c.ends.n0 c.ends.n1 c.d (replicate c.count c.objective) (take c.stations c.amax) c.jerk

-- what the arrays of `answer` have room for
pub record Small (c : Case) : Type 0 where
  pub stations : c.stations ≤ 4
  pub grid : length c.grid ≡ 4
  pub amax : length c.amax ≡ 4
  pub d : c.d ≤ 2
  pub count : c.count ≤ 16
  pub jerk : c.jerk ≤ 1

-- case number i, from 0; A past the last
abbrev pub case_at : ℕ → Definition.Case
case_at i = get_or cases i (case A case_a)

unfoldable pub problem_at : ℕ → Problem
problem_at i = (case_at i).problem

-- a name's letter, as ASCII has it
abbrev pub letter : Name → ℕ
letter A = 65
letter B = 66
letter C = 67
letter D = 68
letter E = 69
letter F = 70
letter G = 71
letter H = 72
letter I = 73
letter J = 74
letter K = 75
letter L = 76
letter M = 77
letter N = 78

unfoldable pub letter_at : ℕ → ℕ
letter_at i = letter (case_at i).name
