-- The assembly's call: the buffers that are lent are the fronts of the arrays here, and what is compared of the arrays holds of the buffers.
use Prim.Native.Nat.{ℕ, ◌≤◌, ◌<◌}
use native.Mathlib.Omega.{arith}
use mathlib.Core.Path.{◌≡◌, ap, ◌∙◌, subst}
use mathlib.Core.List.{List, ◌++◌}
use lib.ListN.{length, get_or, take, replicate, length-replicate}
use lib.Seq.{get_or-take, length-take-le}
use Rattle.std.proofs.Math.Seq.{take-append_seam}
use lib.Ieee.{Float, binary64, of_bits, to_bits, nan}
use Rattle.model.specs.declared.Job.{Job}
use Rattle.model.specs.Problem.{Problem}
use Rattle.model.specs.Answers.{Buffers, buffers}
use Rattle.copp3_c.specs.declared.ObjectiveRecords.{ObjectiveRecords}
use Rattle.copp3_c.specs.declared.AnswerRecord.{AnswerRecord}
use Rattle.copp3_c.specs.Exported.{Exported, exported}
use Rattle.replay_list.specs.declared.input.Places.{Places}
use Rattle.replay_list.specs.File.{item_at, expected_bits, expected_byte}
use Rattle.replay_list.specs.Format.{assembly_at, index_written, held_at}
use Rattle.replay_list.specs.Agreement.{assembled, lent_buffers, places_here, BuffersHold, LentFit, ResultAgrees}
use Rattle.replay_list.specs.Arrays.{fronts}
use Rattle.replay_list.proofs.Laws.{take_replicate}

-- a buffer of n places that held a, and what it holds after the call
pub record Lent {A : Type 0} (a : A) (n : ℕ) (entry exit : List A) : Type 0 where
  pub entry_is : entry ≡ replicate n a
  pub length_is : length exit ≡ n

-- the first n places of an array of m, where n is the list's number k
pub lent : {A : Type 0} (a : A) (m n k : ℕ) (exit : List A) → n ≡ k → k ≤ m → length exit ≡ length (take n (replicate m a)) → Lent a k (take n (replicate m a)) exit
lent {A} a m n k exit e h l =
    record {
      entry_is = ap (λ (i : ℕ). take i (replicate m a)) e ∙ take_replicate k m a h;
      length_is = l ∙ length-take-le n (replicate m a) (omega (arith, length-replicate m a)) ∙ e;
    }

pub record AllLent (n : ℕ → ℕ) (entry exit : Buffers) : Type 0 where
  pub rows_lent : Lent 13876516240719085568 (n 0) entry.rows exit.rows
  pub columns_lent : Lent 13876516240719085568 (n 1) entry.columns exit.columns
  pub values_lent : Lent (of_bits binary64 13876516240719085568) (n 2) entry.values exit.values
  pub right_lent : Lent (of_bits binary64 13876516240719085568) (n 3) entry.right exit.right
  pub kinds_lent : Lent 165 (n 4) entry.kinds exit.kinds
  pub dimensions_lent : Lent 13876516240719085568 (n 5) entry.dimensions exit.dimensions
  pub cost_lent : Lent (of_bits binary64 13876516240719085568) (n 6) entry.cost exit.cost
  pub index_lent : Lent 13876516240719085568 (n 7) entry.index exit.index

-- the arrays: the lent buffers and the places after them
abbrev pub joined : Buffers → Buffers → Buffers
joined b c =
    buffers (b.rows ++ c.rows) (b.columns ++ c.columns) (b.values ++ c.values) (b.right ++ c.right) (b.kinds ++ c.kinds) (b.dimensions ++ c.dimensions) (b.cost ++ c.cost) (b.index ++ c.index)

module _ {A : Type 0} where
  -- the front of an array is what was lent of it
  front_is : (n : ℕ) (exit rest : List A) → length exit ≡ n → take n (exit ++ rest) ≡ exit
  front_is n exit rest e = subst (λ (m : ℕ). take m (exit ++ rest) ≡ exit) e (take-append_seam exit rest)

  -- what holds of the first m places of an array holds of its front
  pub front_holds : {B : Type 0} (f : A → B) (e : ℕ → B) (d : A) (l : List A) (m n : ℕ) → n ≤ m → ((i : ℕ) → i < m → f (get_or l i d) ≡ e i) → (i : ℕ) → i < n → f (get_or (take n l) i d) ≡ e i
  front_holds f e d l m n fit held i h = ap f (get_or-take n l i d h) ∙ held i (omega arith)

same_buffers : {b0 b1 b4 b5 b7 c0 c1 c4 c5 c7 : List ℕ} {b2 b3 b6 c2 c3 c6 : List Float} → b0 ≡ c0 → b1 ≡ c1 → b2 ≡ c2 → b3 ≡ c3 → b4 ≡ c4 → b5 ≡ c5 → b6 ≡ c6 → b7 ≡ c7 → buffers b0 b1 b2 b3 b4 b5 b6 b7 ≡ buffers c0 c1 c2 c3 c4 c5 c6 c7
same_buffers h0 h1 h2 h3 h4 h5 h6 h7 = cc

module _ (s : List ℕ) (at : ℕ) (entry exit : Buffers) (all : AllLent (item_at s at) entry exit) where
  lent_are : entry ≡ lent_buffers s at
  unfolding lent_buffers
  lent_are = same_buffers all.rows_lent.entry_is all.columns_lent.entry_is all.values_lent.entry_is all.right_lent.entry_is all.kinds_lent.entry_is all.dimensions_lent.entry_is all.cost_lent.entry_is all.index_lent.entry_is

  fronts_are : (rest : Buffers) → fronts (item_at s at) (joined exit rest) ≡ exit
  unfolding fronts
  fronts_are rest =
      same_buffers (front_is _ exit.rows rest.rows all.rows_lent.length_is) (front_is _ exit.columns rest.columns all.columns_lent.length_is) (front_is _ exit.values rest.values all.values_lent.length_is)
      (front_is _ exit.right rest.right all.right_lent.length_is) (front_is _ exit.kinds rest.kinds all.kinds_lent.length_is) (front_is _ exit.dimensions rest.dimensions all.dimensions_lent.length_is)
      (front_is _ exit.cost rest.cost all.cost_lent.length_is) (front_is _ exit.index rest.index all.index_lent.length_is)

  pub called : (rest : Buffers) (answer : AnswerRecord) (job : Job) (records : ObjectiveRecords) (p : Problem) → exported answer exit ≡ assembled job records p entry → exported answer (fronts (item_at s at) (joined exit rest)) ≡ assembled job records p (lent_buffers s at)
  called rest answer job records p call = ap (exported answer) (fronts_are rest) ∙ call ∙ ap (assembled job records p) lent_are

module _ (s : List ℕ) (at : ℕ) (fit : LentFit s at) where
  fronts_hold : (held : ℕ) (a : AnswerRecord) (w : ℕ) (b : Buffers) → BuffersHold s held a w places_here b → BuffersHold s held a w (item_at s at) (fronts (item_at s at) b)
  unfolding fronts
  fronts_hold held a w b h =
      let whole : ℕ → ℕ = λ x. x in
      record {
        in_rows = front_holds whole (expected_bits s held a.entries) 0 b.rows 128 _ fit.rows_fit h.in_rows;
        in_columns = front_holds whole (expected_bits s (held_at held a w).columns a.entries) 0 b.columns 128 _ fit.columns_fit h.in_columns;
        in_values = front_holds (to_bits binary64) (expected_bits s (held_at held a w).values a.entries) nan b.values 128 _ fit.values_fit h.in_values;
        in_right = front_holds (to_bits binary64) (expected_bits s (held_at held a w).right a.rows) nan b.right 128 _ fit.right_fit h.in_right;
        in_kinds = front_holds whole (expected_byte s (held_at held a w).kinds a.cones) 0 b.kinds 128 _ fit.kinds_fit h.in_kinds;
        in_dimensions = front_holds whole (expected_bits s (held_at held a w).dimensions a.cones) 0 b.dimensions 128 _ fit.dimensions_fit h.in_dimensions;
        in_cost = front_holds (to_bits binary64) (expected_bits s (held_at held a w).cost a.columns) nan b.cost 128 _ fit.cost_fit h.in_cost;
        in_index = front_holds whole (expected_bits s (held_at held a w).index w) 0 b.index 160 _ fit.index_fit h.in_index;
      }

pub result_agrees : (s : List ℕ) (places : Places) (count : ℕ) (answer expected : AnswerRecord) (written : ℕ) (job : Job) (records : ObjectiveRecords) (p : Problem) (found : Buffers)
    → LentFit s places.lengths → exported answer (fronts (item_at s places.lengths) found) ≡ assembled job records p (lent_buffers s places.lengths)
    → expected ≡ assembly_at s places.answers → written ≡ index_written count expected → answer ≡ expected → BuffersHold s places.held expected written places_here found
    → ResultAgrees s places count (item_at s places.lengths) (assembled job records p (lent_buffers s places.lengths))
result_agrees s places count answer expected written job records p found fit call same counted agrees held =
    let at = places.lengths in
    subst (λ (x : Exported). ResultAgrees s places count (item_at s at) x) call
    (record { answer_is = agrees ∙ same; buffers_hold = fronts_hold s at fit places.held _ _ found (rw (counted, same) at held) })
