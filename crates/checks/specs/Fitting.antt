-- What an accepted problem's numbers and tables are like, as far as the counts read them: proofs/Within.antt, `fitting`.
use Rattle.std.specs.Prelude.{ℕ, ◌+◌, ◌≤◌, ◌<◌, ◌≡◌, List, length, Float}
use Rattle.model.specs.Refusals.{most_stations, most_joints, most_objectives}
use Rattle.model.specs.Problem.{Problem, Path, n}

pub record Fitting (q : Path) (d count : ℕ) (acc jerk : List ℕ) (amax : List Float) : Type 0 where
  pub least : 3 ≤ length q.grid
  pub most : length q.grid ≤ most_stations
  pub span : q.N0 + q.N1 < n q
  pub joints : d ≤ most_joints
  pub jobs : count ≤ most_objectives
  pub acc_rows : length acc ≡ n q + 1
  pub jerk_rows : length jerk ≡ n q + 1
  pub amax_length : length amax ≡ n q + 1

abbrev pub Fits : Problem → Type 0
Fits p = Fitting p.path p.torque.d p.count p.acc.counts p.jerk.counts p.limits.amax
