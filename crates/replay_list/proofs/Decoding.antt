-- What is decoded is the case of the format: the parts of what was read are the case's lists, and the answers that agree are the case's.
use Prim.Native.Nat.{ℕ, zero, suc, ◌+◌, ◌-◌, ◌*◌, ◌≤◌, ◌<◌}
use native.Mathlib.Nat.{add-zero, add-suc, mul-one}
use native.Mathlib.Numerals.{add-one}
use native.Mathlib.Omega.{arith}
use mathlib.Core.Path.{◌≡◌, refl, ap, sym, ◌∙◌, subst}
use mathlib.Core.Bool.{Bool, true, false, cond}
use mathlib.Core.List.{List, map}
use lib.Dec.{lit<, leb, ltb}
use lib.ListN.{length, get_or}
use lib.Ieee.{Float}
use borrow.Author.Tests.{le-leb, lt-leb}
use Rattle.model.specs.declared.Job.{Job}
use Rattle.model.specs.Problem.{Problem, problem}
use Rattle.copp3_c.specs.declared.ObjectiveRecords.{ObjectiveRecords}
use Rattle.copp3_c.specs.Exported.{objective_of}
use Rattle.replay_list.specs.declared.input.Places.{Places}
use Rattle.replay_list.specs.File.{place_after, item_at}
use Rattle.replay_list.specs.Format.{each, part, list_in, length_at, job_at, floats_of, start_of, starts_at, grid_place, numbers_place, numbers_end, tables_place, places_at, float_number, list_at, table_at, records_from, records_at, problem_with, problem_at, sizing_at, case_end}
use Rattle.replay_list.specs.Agreement.{sized, assembled, lent_buffers, ResultAgrees, Agrees}
use Rattle.replay_list.proofs.Laws.{get_d_each, part_each}

-- a place that is no place past all has not been cut
uncut : (t u v : Bool) (x most : ℕ) → most < 16777216 → cond t 16777216 (cond u 16777216 (cond v 16777216 x)) ≤ most → cond t 16777216 (cond u 16777216 (cond v 16777216 x)) ≡ x
uncut true u v x most h k = absurd (omega arith)
uncut false true v x most h k = absurd (omega arith)
uncut false false true x most h k = absurd (omega arith)
uncut false false false x most h k = refl

within : (a n most : ℕ) → most < 16777216 → place_after a n 1 ≤ most → place_after a n 1 ≡ a + n
unfolding place_after
within a n most h k = uncut (ltb 16777216 a) (ltb 65536 n) (ltb 64 1) (a + n * 1) most h k ∙ omega (arith, mul-one n)

module _ (s : List ℕ) (at : ℕ) where
  pub started : (k : ℕ) (starts : List ℕ) → starts ≡ starts_at s at → k < 19 → get_or starts k 0 ≡ start_of s at k
  started k starts e h = ap (λ (l : List ℕ). get_or l k 0) e ∙ get_d_each (start_of s at) 19 k 0 h

  next_start : (k : ℕ) → start_of s at (suc k) ≤ 128 → start_of s at (suc k) ≡ start_of s at k + floats_of s at k
  unfolding start_of
  next_start k h = within (start_of s at k) (floats_of s at k) 128 (lit< tt) h

  starts_within : (j k : ℕ) → start_of s at (k + j) ≤ 128 → start_of s at k ≤ 128
  starts_within zero k h = subst (λ (n : ℕ). start_of s at n ≤ 128) (add-zero k) h
  starts_within (suc j) k h =
      let last : start_of s at (suc (k + j)) ≤ 128 = subst (λ (n : ℕ). start_of s at n ≤ 128) (add-suc k j) h in
      starts_within j k (omega (arith, next_start (k + j) last))

  each_start : (k : ℕ) → k ≤ 18 → start_of s at 18 ≤ 128 → start_of s at k ≤ 128
  each_start k h all = starts_within (18 - k) k (subst (λ (n : ℕ). start_of s at n ≤ 128) (omega arith) all)

  -- a part of all floats is a list of the case
  pub list_read : (k : ℕ) → k < 18 → start_of s at 18 ≤ 128 → list_in (each (float_number s (grid_place at) (tables_place s at) (start_of s at 1)) 128) (starts_at s at) k ≡ list_at s at k
  unfolding list_at
  list_read k h all =
      let f = float_number s (grid_place at) (tables_place s at) (start_of s at 1) in
      let fit : start_of s at (suc k) ≤ 128 = each_start (suc k) (omega arith) all in
      ap (λ (a : ℕ). part (each f 128) a (get_or (starts_at s at) (k + 1) 0)) (started k (starts_at s at) refl (omega arith))
      ∙ ap (λ (b : ℕ). part (each f 128) (start_of s at k) b) (started (k + 1) (starts_at s at) refl (omega arith) ∙ ap (start_of s at) (add-one k))
      ∙ part_each f 128 (start_of s at k) (start_of s at (suc k)) (floats_of s at k) (next_start k fit) fit

  table_read : (a b n : ℕ) → b ≡ a + n → b ≤ 64 → part (each (item_at s (numbers_place s at)) 64) a b ≡ table_at s at a n
  unfolding table_at
  table_read a b n e h = part_each (item_at s (numbers_place s at)) 64 a b n e h

  numbers_within : numbers_end s at ≤ 64 → numbers_end s at ≡ length_at s at 1 + length_at s at 2
  unfolding numbers_end
  numbers_within h = within (length_at s at 1) (length_at s at 2) 64 (lit< tt) h

-- a problem by its lists
pub same_problem : (job : Job) (records : ObjectiveRecords) (f : ℕ → List Float) {l0 l3 l4 l5 l6 l7 l8 l9 l10 l11 l12 l13 l14 l15 l16 l17 : List Float} {t0 t1 u0 u1 : List ℕ} → l0 ≡ f 0 → t0 ≡ u0 → t1 ≡ u1 → l3 ≡ f 3 → l4 ≡ f 4 → l5 ≡ f 5 → l6 ≡ f 6 → l7 ≡ f 7 → l8 ≡ f 8 → l9 ≡ f 9 → l10 ≡ f 10 → l11 ≡ f 11 → l12 ≡ f 12 → l13 ≡ f 13 → l14 ≡ f 14 → l15 ≡ f 15 → l16 ≡ f 16 → l17 ≡ f 17 → problem job (map objective_of records.items) l0 t0 t1 l3 l4 l5 l6 l7 l8 l9 l10 l11 l12 l13 l14 l15 l16 l17 ≡ problem_with job records f u0 u1
unfolding problem_with
same_problem job records f h0 h1 h2 h3 h4 h5 h6 h7 h8 h9 h10 h11 h12 h13 h14 h15 h16 h17 = cc

same_lists : (job : Job) (records : ObjectiveRecords) (f g : ℕ → List Float) (t0 t1 u0 u1 : List ℕ) → ((k : ℕ) → k < 18 → f k ≡ g k) → t0 ≡ u0 → t1 ≡ u1 → problem_with job records f t0 t1 ≡ problem_with job records g u0 u1
unfolding problem_with
same_lists job records f g t0 t1 u0 u1 e p q =
    same_problem job records g (e 0 (lit< tt)) p q (e 3 (lit< tt)) (e 4 (lit< tt)) (e 5 (lit< tt)) (e 6 (lit< tt)) (e 7 (lit< tt)) (e 8 (lit< tt)) (e 9 (lit< tt)) (e 10 (lit< tt)) (e 11 (lit< tt)) (e 12 (lit< tt)) (e 13 (lit< tt)) (e 14 (lit< tt)) (e 15 (lit< tt)) (e 16 (lit< tt)) (e 17 (lit< tt))

pub records_read : (s : List ℕ) (at : ℕ) (records : ObjectiveRecords) (places : Places) → places ≡ places_at s at → records ≡ records_from s places.records (length_at s at 18) → records ≡ records_at s at
unfolding places_at
records_read s at records places p r = rw p at r

module _ (s : List ℕ) (at : ℕ) (job : Job) (records : ObjectiveRecords) (floats : List Float) (numbers starts : List ℕ) (places : Places)
    (job_is : job ≡ job_at s at) (places-are : places ≡ places_at s at) (starts-are : starts ≡ starts_at s at)
    (records-are : records ≡ records_from s places.records (length_at s at 18))
    (floats-are : floats ≡ each (float_number s places.grid places.tables (get_or starts 1 0)) 128)
    (numbers-are : numbers ≡ each (item_at s places.numbers) 64)
    (all : get_or starts 18 0 ≤ 128) (end : places.end ≤ 64) where
  same_records : records ≡ records_at s at
  same_records = records_read s at records places places-are records-are

  same_floats : floats ≡ each (float_number s (grid_place at) (tables_place s at) (start_of s at 1)) 128
  unfolding places_at
  same_floats = rw (places-are, started s at 1 starts starts-are (lit< tt)) at floats-are

  same_numbers : numbers ≡ each (item_at s (numbers_place s at)) 64
  unfolding places_at
  same_numbers = rw places-are at numbers-are

  split_is : places.split ≡ length_at s at 1
  unfolding places_at
  split_is = ap (λ (p : Places). p.split) places-are

  end_is : places.end ≡ numbers_end s at
  unfolding places_at
  end_is = ap (λ (p : Places). p.end) places-are

  list_is : (k : ℕ) → k < 18 → list_in floats starts k ≡ list_at s at k
  list_is k h = rw (same_floats, starts-are) (list_read s at k h (omega (arith, started s at 18 starts starts-are (lit< tt))))

  table_0 : part numbers 0 places.split ≡ table_at s at 0 (length_at s at 1)
  table_0 = rw (same_numbers, split_is) (table_read s at 0 (length_at s at 1) (length_at s at 1) (omega arith) (omega (arith, end_is, numbers_within s at (omega (arith, end_is)))))

  table_1 : part numbers places.split places.end ≡ table_at s at (length_at s at 1) (length_at s at 2)
  table_1 =
      let fit : numbers_end s at ≤ 64 = omega (arith, end_is) in
      rw (same_numbers, split_is, end_is) (table_read s at (length_at s at 1) (numbers_end s at) (length_at s at 2) (numbers_within s at fit) fit)

  abbrev pub decoded : Problem
  decoded = problem_with job records (list_in floats starts) (part numbers 0 places.split) (part numbers places.split places.end)

  pub problem_read : decoded ≡ problem_at s at
  unfolding problem_at
  problem_read =
      same_lists job records (list_in floats starts) (list_at s at) (part numbers 0 places.split) (part numbers places.split places.end)
      (table_at s at 0 (length_at s at 1)) (table_at s at (length_at s at 1) (length_at s at 2)) list_is table_0 table_1
      ∙ rw (job_is, same_records) refl

-- a case agrees where its answers do
pub agreed : (s : List ℕ) (at : ℕ) (job : Job) (records : ObjectiveRecords) (p : Problem) (places : Places) → job ≡ job_at s at → records ≡ records_at s at → p ≡ problem_at s at → places ≡ places_at s at
    → sized job records p ≡ sizing_at s places.answers → ResultAgrees s places job.count (item_at s places.lengths) (assembled job records p (lent_buffers s places.lengths)) → Agrees s at
agreed s at job records p places j r q l sizing result = record { sizing_is = rw (q, j, r, l) at sizing; assembly_is = rw (q, j, r, l) at result }

-- whether the case is whole
module _ (s : List ℕ) (at : ℕ) where
  pub cut_off : (next : ℕ) → next ≡ case_end s at → length s < next → false ≡ leb (case_end s at) (length s)
  cut_off next e h = sym (lt-leb (case_end s at) (length s) (omega arith))

  pub at_hand : (next : ℕ) → next ≡ case_end s at → next ≤ length s → true ≡ leb (case_end s at) (length s)
  at_hand next e h = sym (le-leb (case_end s at) (length s) (omega arith))
