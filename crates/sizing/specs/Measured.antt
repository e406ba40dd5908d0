-- The numbers of which document 01's counts are made.
use Rattle.std.specs.Prelude.{ℕ, List, ◌≡◌}
use Rattle.model.specs.Problem.{Problem, Path, Limits, n, m, ends, L}
use Rattle.model.specs.Counts.{uppers, acc_inside, jerk_inside}
use Rattle.sizing.specs.declared.measures.Measures.{Measures}

pub record Measured (path : Path) (joints : ℕ) (limits : Limits) (acc_rows jerk_rows : List ℕ) (s : Measures) : Type 0 where
  pub d : s.d ≡ joints
  pub n : s.n ≡ n path
  pub m : s.m ≡ m path
  pub ends : s.ends ≡ ends path
  pub l : s.l ≡ L path
  pub uppers : s.uppers ≡ uppers path limits
  pub acc : s.acc ≡ acc_inside path acc_rows
  pub jerk : s.jerk ≡ jerk_inside path jerk_rows

-- s holds the numbers of problem p
abbrev pub MeasuredOf : Problem → Measures → Type 0
MeasuredOf p s = Measured p.path p.torque.d p.limits p.acc.counts p.jerk.counts s
