-- The chain of refusals in groups. Joined in this order they are the definition's chain: proofs/Chain.antt, `by_parts` and `by_groups`.
use Rattle.std.specs.Prelude.{ℕ, ◌+◌, ◌-◌, ◌*◌, max, ◌||◌, Bool, ltb, leb, length, get_or}
use Rattle.model.specs.Lists.{total}
use Rattle.model.specs.Problem.{Problem, objectives, n, some, is_thermal, is_torque, is_linear}
use Rattle.model.specs.declared.rule.Rule.TheVariants.{NoMovingInterval, TooManyRows}
use Rattle.model.specs.Verdicts.{Verdict, ◌then◌, refuse, lowest, itself}
use Rattle.model.specs.Refusals.{boundary_refusal, grid_refusal, setup_refusal, table, table_if, most_stations, most_rows}

module _ (p : Problem) where
  -- 1 to 13
  abbrev pub job_refusal : Verdict
  job_refusal =
      boundary_refusal p.boundary then grid_refusal most_stations p.path.grid then setup_refusal p.torque.d p.count p.slots (n p.path + 1) p.pool

  -- 15 of tables 0 and 1
  abbrev pub counts_lengths : Verdict
  counts_lengths = table 0 (length p.acc.counts) (n p.path + 1) then table 1 (length p.jerk.counts) (n p.path + 1)

  -- 16
  abbrev pub rows_refusal : Verdict
  rows_refusal =
      lowest TooManyRows itself (λ k. ltb most_rows (get_or p.acc.counts k 0)) 0 (n p.path + 1)
      then lowest TooManyRows itself (λ k. ltb most_rows (get_or p.jerk.counts k 0)) 0 (n p.path + 1)

  -- tables 3 to 5, then 6 to 9, for so many rows
  abbrev pub acc_lengths : ℕ → Verdict
  acc_lengths rows = table 3 (length p.acc.a) rows then table 4 (length p.acc.b) rows then table 5 (length p.acc.max) rows

  abbrev pub jerk_lengths : ℕ → Verdict
  jerk_lengths rows =
      table 6 (length p.jerk.a) rows then table 7 (length p.jerk.b) rows then table 8 (length p.jerk.c) rows then table 9 (length p.jerk.max) rows

  -- tables 2 to 9
  abbrev pub standard_lengths : Verdict
  standard_lengths = table 2 (length p.limits.amax) (n p.path + 1) then acc_lengths (total p.acc.counts) then jerk_lengths (total p.jerk.counts)

  -- tables 11 to 13, then 14 and 15, if they count
  abbrev pub torque_lengths : Bool → Verdict
  torque_lengths counts =
      let need = p.torque.d * (n p.path + 1) in
      table_if counts 11 (length p.torque.a) need then table_if counts 12 (length p.torque.b) need then table_if counts 13 (length p.torque.g) need

  abbrev pub root_lengths : Bool → Verdict
  root_lengths counts = table_if counts 14 (length p.roots.start) (max p.path.N0 1 - 1) then table_if counts 15 (length p.roots.end) (max p.path.N1 1 - 1)

  -- tables 10 to 15
  abbrev pub objective_lengths : Verdict
  objective_lengths =
      table_if (some is_thermal (objectives p)) 10 (length p.thermal) (n p.path + 1)
      then torque_lengths (some is_thermal (objectives p) || some is_torque (objectives p))
      then root_lengths (some is_linear (objectives p))

  -- 14 to 16
  abbrev pub groups : Verdict
  groups =
      refuse NoMovingInterval 0 (leb (n p.path) (p.path.N0 + p.path.N1)) then counts_lengths then rows_refusal then standard_lengths then objective_lengths
