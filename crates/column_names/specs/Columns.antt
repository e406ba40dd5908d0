-- docs/LISTING.md, "Columns": the names of columns, and who owns a row or a column in words.
use Rattle.std.specs.Prelude.{ℕ, zero, suc, ◌+◌, cond, List, [], ◌∷◌, ◌++◌, ltb, eqb, get_or}
use Prim.Native.Char.{Char, code}
use Rattle.model.specs.Numbers.{+0}
use Rattle.model.specs.Answers.{Told}
use Rattle.model.specs.OwnerAnswers.{owner_of_row, owner_of_column}
use Rattle.model.specs.declared.Objective.{Objective}
use Rattle.column_names.specs.declared.Layout.{Layout as LentLayout}
use Rattle.model.specs.declared.Objective.TheVariants.{Time, ThermalEnergy, TotalVariationTorque, Linear}
use Rattle.text.specs.Text.{ascii}
use Rattle.text.specs.Digits.{decimal}

-- a character in ASCII
abbrev pub letter : Char → ℕ
letter c = code c

-- what names and owners go by: the number of stations, the objectives, how many of them count, the index
pub record Layout : Type 0 where
  pub stations : ℕ
  pub slots : List Objective
  pub count : ℕ
  pub index : List ℕ

abbrev pub layout : ℕ → List Objective → ℕ → List ℕ → Layout
layout stations slots count index = record { stations = stations; slots = slots; count = count; index = index }

-- what a struct of src/lib.rt lends
abbrev pub layout_of : LentLayout → Layout
layout_of y = layout y.stations y.objectives.now y.count y.index.now

-- past the objectives a Linear, which has no column
abbrev pub slot_at : List Objective → ℕ → Objective
slot_at slots i = get_or slots i (Linear +0 0 0 0 0)

-- "own columns of a Time objective", "of a ThermalEnergy or TotalVariationTorque objective"
abbrev pub own_letter : Objective → ℕ
own_letter (Time w) = letter "e"
own_letter (ThermalEnergy w s l) = letter "t"
own_letter (TotalVariationTorque w s l) = letter "t"
own_letter (Linear w a al b bl) = letter "?"

-- by the owner's place in the order: standard rows, root stage, objectives
unfoldable pub owner_letter : List Objective → ℕ → ℕ
owner_letter slots zero = letter "?"
owner_letter slots (suc zero) = letter "x"
owner_letter slots (suc (suc i)) = own_letter (slot_at slots i)

-- "A column that no range of it holds has the word `?`"
abbrev pub told_letter : List Objective → Told → ℕ
told_letter slots t = cond (eqb t.number 0) (owner_letter slots (get_or t.values 0 0)) (letter "?")

-- the first letter of column k's word
unfoldable pub letter_at : Layout → ℕ → ℕ
letter_at y k =
    cond (ltb k y.stations) (letter "a")
    (cond (ltb k (y.stations + y.stations)) (letter "b") (told_letter y.slots (owner_of_column y.index y.count k)))

unfoldable pub word : ℕ → List ℕ
word l = cond (eqb l (letter "x")) (ascii "xi") (cond (eqb l (letter "e")) (ascii "eta") (l ∷ []))

-- "how many columns of the same sort stand before it"
unfoldable pub before : Layout → ℕ → ℕ → ℕ
before y l zero = 0
before y l (suc k) = before y l k + cond (eqb (letter_at y k) l) 1 0

unfoldable pub name : Layout → ℕ → List ℕ
name y k = word (letter_at y k) ++ decimal (before y (letter_at y k) k)

abbrev pub kind_name : Objective → List ℕ
kind_name (Time w) = ascii "Time"
kind_name (ThermalEnergy w s l) = ascii "ThermalEnergy"
kind_name (TotalVariationTorque w s l) = ascii "TotalVariationTorque"
kind_name (Linear w a al b bl) = ascii "Linear"

unfoldable pub owner_name : List Objective → ℕ → List ℕ
owner_name slots zero = ascii "standard rows"
owner_name slots (suc zero) = ascii "root stage"
owner_name slots (suc (suc i)) = ascii "objective " ++ decimal i ++ ascii ", " ++ kind_name (slot_at slots i)

abbrev pub told_name : List Objective → Told → List ℕ
told_name slots t = cond (eqb t.number 0) (owner_name slots (get_or t.values 0 0)) (ascii "nobody")

-- the owner of row r
unfoldable pub row_owner : Layout → ℕ → List ℕ
row_owner y r = told_name y.slots (owner_of_row y.index y.count r)
