-- The ledger, as one table by one proof: by sizing, by the assembly, and by the lengths of the assembled lists. Then document 01's "Traps in this Rust",
-- each as a computed fact about the definitions.
use mathlib.Core.Path.{◌≡◌, refl}
use Rattle.std.specs.Prelude.{Ok}
use mathlib.Core.List.{List, [], ◌∷◌, ◌++◌, map}
use lib.ListN.{replicate, take, drop}
use lib.Ieee.{Float}
use lib.Ieee
use Rattle.model.specs.Numbers.{+0, +1, +2, +3, +∞}
use Rattle.model.specs.Problem.{Problem}
use Rattle.model.specs.Problem as Sizes
use Rattle.model.specs.Program
use Rattle.model.specs.Verdicts
use Rattle.model.specs.Refusals.{refusal}
use Rattle.model.specs.Refusals
use Rattle.model.specs.Standard
use Rattle.model.specs.Objectives
use Rattle.model.specs.Assembled.{column_numbers, cone_kinds, cone_dimensions, cost, list_lengths}
use Rattle.model.specs.Assembled
use Rattle.model.specs.Counts
use Rattle.model.specs.Owners
use Rattle.model.specs.Answers.{sizing, outcome, told}
use Rattle.model.specs.Answers
use Rattle.model.specs.Ledger.{Case, Line, line, assembled_line, case_a, cases, table, given}
use Rattle.model.specs.declared.Objective.TheVariants.{Time}

-- whoever unfolds this unfolds every definition that the table computes with
unfoldable pub everything : Unit {0}
unfolding Verdicts.◌then◌ Verdicts.refuse Verdicts.lowest Sizes.m Sizes.ends Sizes.L Sizes.skip Sizes.stop Refusals.grid_refusal Refusals.list_refusal Refusals.scales_refusal Refusals.lists_refusal Refusals.objectives_refusal Refusals.setup_refusal Refusals.table Refusals.table_if Refusals.tables_refusal Refusals.unusable_end Refusals.crossed Refusals.bounds_refusal Refusals.refusal_up_to Standard.boundary_rows Standard.stationary_row Standard.moving_rows Standard.equalities Standard.upper_row Standard.end_rows Program.positive_row Standard.interval_rows Standard.first_order Standard.acceleration_rows Standard.backward_rows Standard.forward_rows Standard.jerk_rows_at Standard.inequalities Standard.standard Standard.root_cone Standard.root_stage Standard.root Objectives.time_weights Objectives.time_cone Objectives.time_block Objectives.thermal_cone Objectives.thermal_block Objectives.end_torque_rows Objectives.step_torque_rows Objectives.torque_block Objectives.end_charge Objectives.linear_block Objectives.objective_block Assembled.objective_blocks Assembled.blocks Assembled.cones Assembled.bands Assembled.entries Assembled.right_side Assembled.cost Assembled.row_numbers Assembled.column_numbers Assembled.values Assembled.cone_kinds Assembled.cone_dimensions Assembled.list_lengths Counts.uppers Counts.acc_inside Counts.jerk_inside Counts.standard_counts Counts.root_counts Counts.objective_counts Counts.objectives_counts Counts.counts Counts.objective_bound Counts.objectives_bound Counts.entry_bound Answers.sizing Owners.size_of Owners.owners Owners.index Answers.room_refusal Answers.index_refusal Answers.finite_refusal Answers.outcome Answers.written Answers.result Answers.assembly Ieee.neg Ieee.add Ieee.sub Ieee.mul Ieee.div Ieee.lt Ieee.eq Ieee.of_bits
everything = tt

pub ledger : map line cases ≡ table
unfolding everything
ledger = refl

-- the assembly gives the same table
pub assembled : map assembled_line cases ≡ table
unfolding everything
assembled = refl

-- case A's cones and cost
pub case_a_kinds : cone_kinds case_a ≡ 0 ∷ 1 ∷ 1 ∷ 2 ∷ 1 ∷ 2 ∷ []
unfolding everything
case_a_kinds = refl

pub case_a_dimensions : cone_dimensions case_a ≡ 6 ∷ 5 ∷ 1 ∷ 3 ∷ 1 ∷ 3 ∷ []
unfolding everything
case_a_dimensions = refl

pub case_a_cost : cost case_a ≡ replicate 7 +0 ++ (+1 ∷ [])
unfolding everything
case_a_cost = refl

-- case M's jerk rows, by their columns (a is 0 to 2, b is 3 to 5): "the backward group unless k=N0, then the forward group unless k=n−N1"
pub case_m_jerk : take 12 (drop 23 (column_numbers (given +0 (+0 ∷ +1 ∷ +2 ∷ []) 0 0 1 (Time +1 ∷ []) (replicate 3 +∞) 1))) ≡ 0 ∷ 3 ∷ 4 ∷ 1 ∷ 3 ∷ 4 ∷ 1 ∷ 4 ∷ 5 ∷ 2 ∷ 4 ∷ 5 ∷ []
unfolding everything
case_m_jerk = refl

-- ---- the traps

-- "A root stage per objective: case B then grows too far." The ledger once more, by the lengths of the assembled lists
abbrev measured_line : Case → Line
measured_line c = record { name = c.name; told = outcome (refusal c.problem) (list_lengths c.problem) }

pub measured : map measured_line cases ≡ table
unfolding everything
measured = refl

-- "its column figure omits xi. With n=3, no stationary stations and one Time it says 11; 12 are needed."
abbrev four : List Float
four = +0 ∷ +1 ∷ +2 ∷ +3 ∷ []

abbrev one_time : Problem
one_time = given +0 four 0 0 1 (Time +1 ∷ []) (replicate 4 +∞) 0

pub twelve_columns : sizing one_time ≡ told (Ok (Counts.four_counts 51 31 8 12))
unfolding everything
twelve_columns = refl

pub twelve_costs : cost one_time ≡ replicate 10 +0 ++ (+1 ∷ +1 ∷ [])
unfolding everything
twelve_costs = refl

-- The other two traps are ruled out by what the cones and the cost mean: `ThermalMeaning`, `TimeMeaning` and `objective_cost` (specs/Meaning.antt), by Demand2.antt
