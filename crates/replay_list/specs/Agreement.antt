-- When a case agrees: sizing's answer, the assembly's answer and every place of the eight buffers are what the list says.
use Rattle.std.specs.Prelude.{ℕ, ◌≤◌, ◌≡◌, true, cond, List, eqb, leb, get_or, length, replicate, is_some, Some}
use Rattle.std.specs.Float.{binary64}
use Rattle.std.specs.Float.Ieee.{of_bits}
use Rattle.model.specs.declared.Job.{Job}
use Rattle.model.specs.Problem.{Problem}
use Rattle.model.specs.Answers.{Buffers, buffers}
use Rattle.copp3_c.specs.declared.ObjectiveRecords.{ObjectiveRecords}
use Rattle.copp3_c.specs.declared.AnswerRecord.{AnswerRecord}
use Rattle.copp3_c.specs.Exported.{Exported, sized_as, assembled_as}
use Rattle.replay_list.specs.declared.case.Replayed.{Replayed}
use Rattle.replay_list.specs.declared.input.Places.{Places}
use Rattle.replay_list.specs.File.{item_at, NumbersHold, FloatsHold, BytesHold}
use Rattle.replay_list.specs.Format.{job_at, records_at, problem_at, places_at, sizing_at, assembly_at, index_written, held_at, case_end}

-- what copp3_size and copp3_assemble answer
unfoldable pub sized : Job → ObjectiveRecords → Problem → AnswerRecord
sized job records = sized_as job.count records.items

unfoldable pub assembled : Job → ObjectiveRecords → Problem → Buffers → Exported
assembled job records = assembled_as job.count records.items

-- the buffers that are lent, of the list's lengths, and what they hold before the call
unfoldable pub lent_buffers : List ℕ → ℕ → Buffers
lent_buffers s at =
    buffers (replicate (item_at s at 0) 13876516240719085568) (replicate (item_at s at 1) 13876516240719085568) (replicate (item_at s at 2) (of_bits binary64 13876516240719085568))
    (replicate (item_at s at 3) (of_bits binary64 13876516240719085568)) (replicate (item_at s at 4) 165) (replicate (item_at s at 5) 13876516240719085568)
    (replicate (item_at s at 6) (of_bits binary64 13876516240719085568)) (replicate (item_at s at 7) 13876516240719085568)

-- The first m k places of buffer k hold what the list says from `at` on, for the counts of an answer and w places of the index.
pub record BuffersHold (s : List ℕ) (at : ℕ) (a : AnswerRecord) (w : ℕ) (m : ℕ → ℕ) (b : Buffers) : Type 0 where
  pub in_rows : NumbersHold s at a.entries (m 0) b.rows
  pub in_columns : NumbersHold s (held_at at a w).columns a.entries (m 1) b.columns
  pub in_values : FloatsHold s (held_at at a w).values a.entries (m 2) b.values
  pub in_right : FloatsHold s (held_at at a w).right a.rows (m 3) b.right
  pub in_kinds : BytesHold s (held_at at a w).kinds a.cones (m 4) b.kinds
  pub in_dimensions : NumbersHold s (held_at at a w).dimensions a.cones (m 5) b.dimensions
  pub in_cost : FloatsHold s (held_at at a w).cost a.columns (m 6) b.cost
  pub in_index : NumbersHold s (held_at at a w).index w (m 7) b.index

-- the places of the arrays here, of which the first are lent
abbrev pub places_here : ℕ → ℕ
places_here k = cond (eqb k 7) 160 128

-- An answer with the buffers after it is what the list says, of the first m k places of buffer k.
pub record ResultAgrees (s : List ℕ) (places : Places) (count : ℕ) (m : ℕ → ℕ) (x : Exported) : Type 0 where
  pub answer_is : x.answer ≡ assembly_at s places.answers
  pub buffers_hold : BuffersHold s places.held (assembly_at s places.answers) (index_written count (assembly_at s places.answers)) m x.buffers

-- The case that begins at `at` agrees.
pub record Agrees (s : List ℕ) (at : ℕ) : Type 0 where
  pub sizing_is : sized (job_at s at) (records_at s at) (problem_at s at) ≡ sizing_at s (places_at s at).answers
  pub assembly_is : ResultAgrees s (places_at s at) (job_at s at).count (item_at s (places_at s at).lengths) (assembled (job_at s at) (records_at s at) (problem_at s at) (lent_buffers s (places_at s at).lengths))

-- The buffers' lengths are within the arrays here.
pub record LentFit (s : List ℕ) (at : ℕ) : Type 0 where
  pub rows_fit : item_at s at 0 ≤ 128
  pub columns_fit : item_at s at 1 ≤ 128
  pub values_fit : item_at s at 2 ≤ 128
  pub right_fit : item_at s at 3 ≤ 128
  pub kinds_fit : item_at s at 4 ≤ 128
  pub dimensions_fit : item_at s at 5 ≤ 128
  pub cost_fit : item_at s at 6 ≤ 128
  pub index_fit : item_at s at 7 ≤ 160

-- What is told of the case that begins at `at`.
pub record ToldOf (s : List ℕ) (at : ℕ) (r : Replayed) : Type 0 where
  pub group_is : r.group ≡ get_or s at 0
  pub next_is : r.next ≡ case_end s at
  pub whole_is : is_some r.agrees ≡ leb (case_end s at) (length s)
  pub agreeing : r.agrees ≡ Some true → Agrees s at
