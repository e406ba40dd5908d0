-- A case of the list that begins at `at`, in the order of the format's text (rust/vectors/src/main.rs).
use Rattle.std.specs.Prelude.{ℕ, zero, suc, ◌+◌, ◌-◌, cond, List, [], ◌∷◌, eqb, leb, ltb, get_or, length, take, drop, Float}
use Rattle.std.specs.Float.{binary64}
use Rattle.std.specs.Float.Ieee.{of_bits}
use Rattle.model.specs.declared.Job.{Job}
use Rattle.model.specs.Problem.{Problem, problem}
use Rattle.copp3_c.specs.declared.ObjectiveRecord.{ObjectiveRecord}
use Rattle.copp3_c.specs.declared.ObjectiveRecords.{ObjectiveRecords}
use Rattle.copp3_c.specs.declared.AnswerRecord.{AnswerRecord}
use Rattle.copp3_c.specs.Exported.{objectives_of}
use Rattle.replay_list.specs.declared.arrays.Held.{Held}
use Rattle.replay_list.specs.declared.input.Places.{Places}
use Rattle.replay_list.specs.File.{place_after, long_at, float_at, item_at}

-- n items by their numbers
unfoldable pub each : {A : Type 0} → (ℕ → A) → ℕ → List A
each f zero = []
each f (suc n) = f zero ∷ each (λ i. f (suc i)) n

-- elements from a place to another, and none where the second is past the end
unfoldable pub part : {A : Type 0} → List A → ℕ → ℕ → List A
part l from to = cond (ltb (length l) to) [] (take (to - from) (drop from l))

-- list k among all floats, by where the lists start
abbrev pub list_in : List Float → List ℕ → ℕ → List Float
list_in floats starts k = part floats (get_or starts k 0) (get_or starts (k + 1) 0)

-- "4 x 8 bytes d, N0, N1, number of objectives"
abbrev pub count_at : List ℕ → ℕ → ℕ → ℕ
count_at s at i = long_at s (place_after (place_after at 1 1) i 8)

-- "8 floats initial a, terminal a, initial b, terminal b, start maximum, start minimum, end maximum, end minimum"
abbrev pub bound_at : List ℕ → ℕ → ℕ → Float
bound_at s at i = float_at s (place_after (place_after at 33 1) i 8)

unfoldable pub job_at : List ℕ → ℕ → Job
job_at s at =
    record {
      boundary = record { a0 = bound_at s at 0; a1 = bound_at s at 1; b0 = bound_at s at 2; b1 = bound_at s at 3 };
      start = record { maximum = bound_at s at 4; minimum = bound_at s at 5 };
      end = record { maximum = bound_at s at 6; minimum = bound_at s at 7 };
      ends = record { n0 = count_at s at 1; n1 = count_at s at 2 };
      d = count_at s at 0;
      count = count_at s at 3;
    }

-- "19 x 4 lengths: grid, tables 0 to 15, pool, objective records"
abbrev pub length_at : List ℕ → ℕ → ℕ → ℕ
length_at s at k = item_at s (place_after at 97 1) k

-- how many floats list k has, the grid, tables 0 to 15, the pool: tables 0 and 1 have none
unfoldable pub floats_of : List ℕ → ℕ → ℕ → ℕ
floats_of s at k = cond (eqb k 1) 0 (cond (eqb k 2) 0 (length_at s at k))

-- how many floats of the case stand before list k
unfoldable pub start_of : List ℕ → ℕ → ℕ → ℕ
start_of s at zero = 0
start_of s at (suc k) = place_after (start_of s at k) (floats_of s at k) 1

abbrev pub starts_at : List ℕ → ℕ → List ℕ
starts_at s at = each (start_of s at) 19

-- "grid (floats), tables 0 and 1 (4 bytes each number), tables 2 to 15 (floats), pool (floats)": where these begin. `tables` is where the
-- grid would begin if the other floats came right after it; table 0 ends at `split` among the numbers of tables 0 and 1, and table 1 at `end`.
-- Then the records of 41 bytes, "8 x 4 lengths of the buffers lent to the assembly", "6 x 4 sizing's answer" and "2 x 4 the assembly's answer",
-- and what the buffers hold.
abbrev pub grid_place : ℕ → ℕ
grid_place at = place_after at 173 1

unfoldable pub numbers_place : List ℕ → ℕ → ℕ
numbers_place s at = place_after (grid_place at) (start_of s at 1) 8

unfoldable pub numbers_end : List ℕ → ℕ → ℕ
numbers_end s at = place_after (length_at s at 1) (length_at s at 2) 1

unfoldable pub tables_place : List ℕ → ℕ → ℕ
tables_place s at = place_after (grid_place at) (numbers_end s at) 4

unfoldable pub records_place : List ℕ → ℕ → ℕ
records_place s at = place_after (tables_place s at) (start_of s at 18) 8

unfoldable pub lengths_place : List ℕ → ℕ → ℕ
lengths_place s at = place_after (records_place s at) (length_at s at 18) 41

unfoldable pub places_at : List ℕ → ℕ → Places
places_at s at =
    record {
      grid = grid_place at;
      numbers = numbers_place s at;
      tables = tables_place s at;
      records = records_place s at;
      lengths = lengths_place s at;
      answers = place_after (lengths_place s at) 32 1;
      held = place_after (place_after (lengths_place s at) 32 1) 32 1;
      split = length_at s at 1;
      end = numbers_end s at;
    }

-- float i of the case in the file's order: the first ones are the grid's
unfoldable pub float_number : List ℕ → ℕ → ℕ → ℕ → ℕ → Float
float_number s grid tables first i = float_at s (place_after (cond (ltb i first) grid tables) i 8)

-- list k of floats, from its start on
unfoldable pub list_at : List ℕ → ℕ → ℕ → List Float
list_at s at k = each (λ i. float_number s (grid_place at) (tables_place s at) (start_of s at 1) (start_of s at k + i)) (floats_of s at k)

-- tables 0 and 1
unfoldable pub table_at : List ℕ → ℕ → ℕ → ℕ → List ℕ
table_at s at from n = each (λ i. item_at s (numbers_place s at) (from + i)) n

-- "records: kind (1 byte), weight (float), start, length, second start, second length (8 bytes each)"
unfoldable pub record_at : List ℕ → ℕ → ObjectiveRecord
record_at s at =
    record {
      kind = get_or s at 0;
      weight = float_at s (place_after at 1 1);
      start = long_at s (place_after at 9 1);
      len = long_at s (place_after at 17 1);
      start2 = long_at s (place_after at 25 1);
      len2 = long_at s (place_after at 33 1);
    }

-- past the n records Time of weight 0, which nothing looks at
abbrev pub no_record : ObjectiveRecord
no_record = record { kind = 0; weight = of_bits binary64 0; start = 0; len = 0; start2 = 0; len2 = 0 }

unfoldable pub record_or_none : List ℕ → ℕ → ℕ → ℕ → ObjectiveRecord
record_or_none s at n i = cond (leb n i) no_record (record_at s (place_after at i 41))

abbrev pub records_from : List ℕ → ℕ → ℕ → ObjectiveRecords
records_from s at n = record { items = each (record_or_none s at n) 16 }

-- the problem of a job and its records over the lists of floats and tables 0 and 1
unfoldable pub problem_with : Job → ObjectiveRecords → (ℕ → List Float) → List ℕ → List ℕ → Problem
problem_with job records list t0 t1 =
    problem job (objectives_of records) (list 0) t0 t1 (list 3) (list 4) (list 5) (list 6) (list 7) (list 8) (list 9) (list 10) (list 11)
    (list 12) (list 13) (list 14) (list 15) (list 16) (list 17)

abbrev pub records_at : List ℕ → ℕ → ObjectiveRecords
records_at s at = records_from s (records_place s at) (length_at s at 18)

unfoldable pub problem_at : List ℕ → ℕ → Problem
problem_at s at = problem_with (job_at s at) (records_at s at) (list_at s at) (table_at s at 0 (length_at s at 1)) (table_at s at (length_at s at 1) (length_at s at 2))

-- "6 x 4 sizing's answer: number, place, entries, rows, cones, columns"
unfoldable pub sizing_at : List ℕ → ℕ → AnswerRecord
sizing_at s at =
    record { number = item_at s at 0; place = item_at s at 1; entries = item_at s at 2; rows = item_at s at 3; cones = item_at s at 4; columns = item_at s at 5 }

-- "2 x 4 the assembly's answer: number, place"; it has sizing's counts where it accepts
unfoldable pub assembly_at : List ℕ → ℕ → AnswerRecord
assembly_at s at =
    cond (eqb (item_at s at 6) 0)
    (record { number = item_at s at 6; place = item_at s at 7; entries = item_at s at 2; rows = item_at s at 3; cones = item_at s at 4; columns = item_at s at 5 })
    (record { number = item_at s at 6; place = item_at s at 7; entries = 0; rows = 0; cones = 0; columns = 0 })

-- "if that number is 0 .. then the index below 8 x (number of objectives + 2)"
unfoldable pub index_written : ℕ → AnswerRecord → ℕ
index_written count a = cond (eqb a.number 0) (place_after 16 count 8) 0

-- "what the buffers hold below the counts: rows and columns (8 bytes each), values and right side (floats), kinds (1 byte each), dimensions (8 bytes each), cost (floats)":
-- where these begin after the rows, and where the index, of w written places, ends
unfoldable pub held_at : ℕ → AnswerRecord → ℕ → Held
held_at at a w =
    let columns = place_after at a.entries 8 in
    let values = place_after columns a.entries 8 in
    let right = place_after values a.entries 8 in
    let kinds = place_after right a.rows 8 in
    let dimensions = place_after kinds a.cones 1 in
    let cost = place_after dimensions a.cones 8 in
    let index = place_after cost a.columns 8 in
    record { columns = columns; values = values; right = right; kinds = kinds; dimensions = dimensions; cost = cost; index = index; end = place_after index w 8 }

abbrev pub answer_at : List ℕ → ℕ → AnswerRecord
answer_at s at = assembly_at s (places_at s at).answers

-- where the next case begins
unfoldable pub case_end : List ℕ → ℕ → ℕ
case_end s at = (held_at (places_at s at).held (answer_at s at) (index_written (count_at s at 3) (answer_at s at))).end
