-- Bounds that keep the sums of document 01's counts within 64 bits.
use Rattle.std.specs.Prelude.{ℕ, ◌+◌, ◌*◌, ◌^◌, ◌≤◌}
use Rattle.model.specs.Refusals.{most_stations, most_joints, most_objectives}
use Rattle.model.specs.declared.FourCounts.{FourCounts}

-- the acceleration rows of all stations, whose counts are of 32 bits
abbrev pub acc_most : ℕ
acc_most = most_stations * 2 ^ 32

-- the jerk rows of the moving intervals: each station between the ends counts twice, and the two at the ends once
abbrev pub jerk_most : ℕ
jerk_most = 2 * acc_most + 2 * 2 ^ 32

-- of the standard counts the most are the entries, of an objective's those of TotalVariationTorque; and those of the root stage, and of all objectives
abbrev pub standard_most : ℕ
standard_most = 12 * most_stations + 2 * acc_most + 3 * jerk_most

abbrev pub root_most : ℕ
root_most = 4 * most_stations

abbrev pub objective_most : ℕ
objective_most = 10 * most_joints * (most_stations + 1)

abbrev pub objectives_most : ℕ
objectives_most = most_objectives * objective_most

-- what the limits of stations and joints and counts of 32 bits leave of d, n, m, p, L, u, A' and J'
abbrev pub Bounded : ℕ → ℕ → ℕ → ℕ → ℕ → ℕ → ℕ → ℕ → Type 0
Bounded d n m ends l uppers acc jerk =
    (d ≤ most_joints)
    × (n + 1 ≤ most_stations)
    × (m + 1 ≤ most_stations)
    × (ends ≤ 2)
    × (l + 1 ≤ most_stations)
    × (uppers ≤ most_stations + 2)
    × (acc ≤ acc_most)
    × (jerk ≤ jerk_most)

-- each of the four is at most b
abbrev pub Few : ℕ → FourCounts → Type 0
Few b t = (t.entries ≤ b) × (t.rows ≤ b) × (t.cones ≤ b) × (t.columns ≤ b)
