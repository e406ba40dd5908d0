-- What sizing and the assembly answer, and what the eight buffers then hold.
use Rattle.std.specs.Prelude.{◌&&◌, ◌∷◌, ◌++◌, Ok, Err}
use Rattle.model.specs.Base.{ℕ, Bool, not, List, [], length, get_or, drop, ltb, Float, FourCounts}
use Rattle.model.specs.Problem.{Problem, objectives}
use Rattle.model.specs.Rules.{rule_number}
use Rattle.model.specs.Verdicts.{Verdict, Answer, ◌then◌, refuse}
use Rattle.model.specs.Refusals.{refusal}
use Rattle.model.specs.Assembled.{row_numbers, column_numbers, values, right_side, cone_kinds, cone_dimensions, cost, all_finite}
use Rattle.model.specs.Counts.{counts}
use Rattle.model.specs.Owners.{index, index_places}
use Rattle.model.specs.declared.rule.Rule.TheVariants.{BufferTooShort, NumberNotFinite, IndexTooShort}

-- "When an answer is an enum, a definition sets out this paper's number and values for each of its cases":
-- a refusal's number and its place, or 0 and the four counts.
pub record Told : Type 0 where
  pub number : ℕ
  pub values : List ℕ

abbrev pub told : Answer → Told
told (Ok t) = record { number = 0; values = t.entries ∷ t.rows ∷ t.cones ∷ t.columns ∷ [] }
told (Err e) = record { number = rule_number e.rule; values = e.place ∷ [] }

unfoldable pub outcome : Verdict → FourCounts → Told
outcome (Ok tt) t = told (Ok t)
outcome (Err e) t = told (Err e)

-- "Sizing takes the same input without buffers and gives every refusal tested before 19, or the four counts."
unfoldable pub sizing : Problem → Told
sizing p = outcome (refusal p) (counts p)

-- buffers 0 to 6, and the index
pub record Buffers : Type 0 where
  pub rows : List ℕ
  pub columns : List ℕ
  pub values : List Float
  pub right : List Float
  pub kinds : List ℕ
  pub dimensions : List ℕ
  pub cost : List Float
  pub index : List ℕ

abbrev pub buffers : List ℕ → List ℕ → List Float → List Float → List ℕ → List ℕ → List Float → List ℕ → Buffers
buffers rows columns values right kinds dimensions cost index =
    record { rows = rows; columns = columns; values = values; right = right; kinds = kinds; dimensions = dimensions; cost = cost; index = index }

-- of buffers 0 to 6
abbrev pub lengths : Buffers → List ℕ
lengths b =
    length b.rows
    ∷ length b.columns
    ∷ length b.values
    ∷ length b.right
    ∷ length b.kinds
    ∷ length b.dimensions
    ∷ length b.cost
    ∷ []

-- 19: "Buffers 0 to 2 need a place per entry, 3 per row, 4 and 5 per cone, 6 per column."
unfoldable pub room_refusal : FourCounts → List ℕ → Verdict
room_refusal t have =
    refuse BufferTooShort 0 (short 0 t.entries)
    then refuse BufferTooShort 1 (short 1 t.entries)
    then refuse BufferTooShort 2 (short 2 t.entries)
    then refuse BufferTooShort 3 (short 3 t.rows)
    then refuse BufferTooShort 4 (short 4 t.cones)
    then refuse BufferTooShort 5 (short 5 t.cones)
    then refuse BufferTooShort 6 (short 6 t.columns)
  where
    short : ℕ → ℕ → Bool
    short i need = ltb (get_or have i 0) need

-- 28: "An index buffer too short, by one place or more"
unfoldable pub index_refusal : Problem → ℕ → Verdict
index_refusal p have = refuse IndexTooShort 0 (ltb have (index_places (length (objectives p))))

-- 20: "a number to be written to values, right side or cost is not finite"
abbrev pub every_finite : Problem → Bool
every_finite p = all_finite (values p) && all_finite (right_side p) && all_finite (cost p)

unfoldable pub finite_refusal : Problem → Verdict
finite_refusal p = refuse NumberNotFinite 0 (not (every_finite p))

-- "Acceptance writes from index 0 and changes nothing past the counts it reports."
abbrev pub onto : {A : Type 0} → List A → List A → List A
onto new old = new ++ drop (length new) old

unfoldable pub written : Problem → Buffers → Buffers
written p b =
    record {
      rows = onto (row_numbers p) b.rows;
      columns = onto (column_numbers p) b.columns;
      values = onto (values p) b.values;
      right = onto (right_side p) b.right;
      kinds = onto (cone_kinds p) b.kinds;
      dimensions = onto (cone_dimensions p) b.dimensions;
      cost = onto (cost p) b.cost;
      index = onto (index p) b.index;
    }

-- the answer, and the buffers after it
pub record Result : Type 0 where
  pub told : Told
  pub buffers : Buffers

abbrev pub answered : Answer → Buffers → Result
answered a b = record { told = told a; buffers = b }

-- "A refusal changes no byte of any buffer."
unfoldable pub result : Verdict → Problem → Buffers → Result
result (Ok tt) p b = record { told = outcome (Ok tt) (counts p); buffers = written p b }
result (Err e) p b = record { told = outcome (Err e) (counts p); buffers = b }

-- checks go in rising number: 1 to 18, then 19 for buffers of these lengths, then 20; 28, for an index of this length, is "directly after 19"
abbrev pub verdict_of : Problem → List ℕ → ℕ → Verdict
verdict_of p have long = refusal p then room_refusal (counts p) have then index_refusal p long then finite_refusal p

unfoldable pub assembly : Problem → Buffers → Result
assembly p b = result (verdict_of p (lengths b) (length b.index)) p b
