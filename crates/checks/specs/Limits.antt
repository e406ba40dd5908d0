-- The limits that refusals 4, 5, 8 and 10 set to a problem: "4 fewer than 3 stations", "Refusal 5 now begins at 65,538 stations", "8 d is outside 1 to 32", "10 more than 16".
use Rattle.std.specs.Prelude.{◌+◌, ◌≤◌, ◌<◌, ◌≡◌, length}
use Rattle.model.specs.Problem.{Problem, n}
use Rattle.model.specs.Refusals.{most_stations, most_joints, most_objectives}

pub record WithinLimits (p : Problem) : Type 0 where
  pub least : 3 ≤ length p.path.grid
  pub most : length p.path.grid ≤ most_stations
  pub joints : p.torque.d ≤ most_joints
  pub jobs : p.count ≤ most_objectives

-- refusal 15 of tables 0 and 1 leaves a row count for each station
pub record Counted (p : Problem) : Type 0 where
  pub acc : length p.acc.counts ≡ n p.path + 1
  pub jerk : length p.jerk.counts ≡ n p.path + 1

-- refusal 14 leaves a moving interval, and refusal 15 an amax for each station
pub record Spanned (p : Problem) : Type 0 where
  pub span : p.path.N0 + p.path.N1 < n p.path
  pub amax : length p.limits.amax ≡ n p.path + 1
