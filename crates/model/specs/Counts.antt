-- "Counts": document 01's closed formulas of the four counts, and its entry bound.
use Rattle.std.specs.Prelude.{◌+◌, ◌-◌, ◌*◌, ◌∷◌}
use Rattle.model.specs.Base.{ℕ, cond, List, [], get_or, Float, Objective, Time, ThermalEnergy, TotalVariationTorque, Linear, FourCounts}
use Rattle.model.specs.Numbers.{at, finite}
use Rattle.model.specs.Lists.{sum_over, total}
use Rattle.model.specs.Problem.{Problem, Path, Limits, objectives, n, m, L, ends, flag, has_root}

-- 1 for a finite bound
abbrev pub upper : Float → ℕ
upper x = cond (finite x) 1 0

abbrev pub four_counts : ℕ → ℕ → ℕ → ℕ → FourCounts
four_counts e r c k = record { entries = e; rows = r; cones = c; columns = k }

infixl 65 ◌plus◌
abbrev pub ◌plus◌ : FourCounts → FourCounts → FourCounts
◌plus◌ a b = four_counts (a.entries + b.entries) (a.rows + b.rows) (a.cones + b.cones) (a.columns + b.columns)

module _ (q : Path) where
  -- "u is the number of finite upper bounds among the maxima of positive ends and amax of stations N0+1 to n−N1−1"
  unfoldable pub uppers : Limits → ℕ
  uppers l =
      flag q.N0 * upper l.start.maximum + flag q.N1 * upper l.end.maximum
      + sum_over (λ k. upper (at l.amax k)) (q.N0 + 1) (m q - 1)

  -- "A' the sum of table 0 over those same stations"
  unfoldable pub acc_inside : List ℕ → ℕ
  acc_inside counts = sum_over (λ k. get_or counts k 0) (q.N0 + 1) (m q - 1)

  -- "J' the sum of table 1 over stations N0 to n−N1, all but the first and last of them taken twice"
  unfoldable pub jerk_inside : List ℕ → ℕ
  jerk_inside counts = sum_over (λ k. get_or counts k 0) q.N0 (m q) + sum_over (λ k. get_or counts k 0) (q.N0 + 1) (m q)

module _ (p : Problem) where
  abbrev q : Path
  q = p.path

  abbrev d : ℕ
  d = p.torque.d

  -- "Before objectives: entries 3 + 3p + 10m + u + 2A' + 3J'; rows 3 + 2p + 4m + u + A' + J'; cones 2; columns 2n+2."
  unfoldable pub standard_counts : FourCounts
  standard_counts =
      four_counts (3 + 3 * ends q + 10 * m q + uppers q p.limits + 2 * acc_inside q p.acc.counts + 3 * jerk_inside q p.jerk.counts)
      (3 + 2 * ends q + 4 * m q + uppers q p.limits + acc_inside q p.acc.counts + jerk_inside q p.jerk.counts)
      2 (2 * n q + 2)

  -- "Root stage adds 4L, 4L, 1+L, L."
  unfoldable pub root_counts : FourCounts
  root_counts = cond (has_root p) (four_counts (4 * L q) (4 * L q) (1 + L q) (L q)) (four_counts 0 0 0 0)

  -- "Time adds 5L, 4L, 1+L, L. ThermalEnergy adds (4+2d)(p+L), (2+d)(p+L), p+L, p+L. TotalVariationTorque adds 6dp + 10dm, 2d(p+m), 1, d(p+m). Linear adds none."
  unfoldable pub objective_counts : Objective → FourCounts
  objective_counts (Time w) = four_counts (5 * L q) (4 * L q) (1 + L q) (L q)
  objective_counts (ThermalEnergy w o len) = four_counts ((4 + 2 * d) * (ends q + L q)) ((2 + d) * (ends q + L q)) (ends q + L q) (ends q + L q)
  objective_counts (TotalVariationTorque w o len) =
      four_counts (6 * d * ends q + 10 * d * m q) (2 * d * (ends q + m q)) 1 (d * (ends q + m q))
  objective_counts (Linear w a al b bl) = four_counts 0 0 0 0

  unfoldable pub objectives_counts : List Objective → FourCounts
  objectives_counts [] = four_counts 0 0 0 0
  objectives_counts (o ∷ os) = objective_counts o plus objectives_counts os

  unfoldable pub counts : FourCounts
  counts = standard_counts plus root_counts plus objectives_counts (objectives p)

  -- "Entry bound: 2 + 11n + 2A + 6J, plus 4n with a root stage, plus 5n per Time, (4+2d)(n+1) per ThermalEnergy, 10dn per TotalVariationTorque."
  unfoldable pub objective_bound : Objective → ℕ
  objective_bound (Time w) = 5 * n q
  objective_bound (ThermalEnergy w o len) = (4 + 2 * d) * (n q + 1)
  objective_bound (TotalVariationTorque w o len) = 10 * d * n q
  objective_bound (Linear w a al b bl) = 0

  unfoldable pub objectives_bound : List Objective → ℕ
  objectives_bound [] = 0
  objectives_bound (o ∷ os) = objective_bound o + objectives_bound os

  unfoldable pub entry_bound : ℕ
  entry_bound =
      2 + 11 * n q + 2 * total p.acc.counts + 6 * total p.jerk.counts + cond (has_root p) (4 * n q) 0 + objectives_bound (objectives p)
