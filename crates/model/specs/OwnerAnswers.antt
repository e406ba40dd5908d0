-- Request 6: who owns a row or a column. "The answer takes any index with a number of objectives".
use Rattle.std.specs.Prelude.{◌+◌, ◌*◌, ◌&&◌, ◌∷◌, Result, Ok, Err}
use Rattle.model.specs.Base.{ℕ, zero, suc, Bool, cond, List, [], length, get_or, ltb, leb}
use Rattle.model.specs.declared.Owner.{Owner}
use Rattle.model.specs.declared.Owner.TheVariants.{StandardRows, RootStage, ObjectiveNumber}
use Rattle.model.specs.declared.OwnerRefusal.{OwnerRefusal}
use Rattle.model.specs.declared.OwnerRefusal.TheVariants.{IndexTooShort, NotCovered}
use Rattle.model.specs.Owners.{index_places}
use Rattle.model.specs.Answers.{Told}

-- src/lib.rt's OwnerAnswer
abbrev pub OwnerAnswer : Type 0
OwnerAnswer = Result Owner OwnerRefusal

-- 0 and the owner's place in the order; or a refusal's number, with place 0
abbrev pub owned_by : ℕ → Told
owned_by k = record { number = 0; values = k ∷ [] }

abbrev pub no_owner : ℕ → Told
no_owner r = record { number = r; values = 0 ∷ [] }

-- "When an answer is an enum, a definition sets out this paper's number and values for each of its cases"
abbrev pub told_owner : OwnerAnswer → Told
told_owner (Ok StandardRows) = owned_by 0
told_owner (Ok RootStage) = owned_by 1
told_owner (Ok (ObjectiveNumber i)) = owned_by (2 + i)
told_owner (Err IndexTooShort) = no_owner 28
told_owner (Err NotCovered) = no_owner 29

-- the range of so many numbers from `first` on holds r
unfoldable pub in_range : ℕ → ℕ → ℕ → Bool
in_range first size r = leb first r && ltb r (first + size)

-- range f (0 entries, 1 rows, 2 cones, 3 columns) of owner k holds r
unfoldable pub within : List ℕ → ℕ → ℕ → ℕ → Bool
within index f r k = in_range (get_or index (8 * k + f) 0) (get_or index (8 * k + f + 4) 0) r

-- "of several ranges that hold the row or column the lowest owner counts", here of owners k, k + 1, .., c of them; "a row or column that isn't covered is 29"
unfoldable pub lowest_owner : (ℕ → Bool) → ℕ → ℕ → Told
lowest_owner holds k zero = no_owner 29
lowest_owner holds k (suc c) = let rest = lowest_owner holds (suc k) c in cond (holds k) (owned_by k) rest

-- "too short a one is 28 first"
unfoldable pub owner_of : ℕ → List ℕ → ℕ → ℕ → Told
owner_of f index objectives r = cond (ltb (length index) (index_places objectives)) (no_owner 28) (lowest_owner (within index f r) 0 (objectives + 2))

-- "answer for any row or any column from xi upward"
abbrev pub owner_of_row : List ℕ → ℕ → ℕ → Told
owner_of_row = owner_of 1

abbrev pub owner_of_column : List ℕ → ℕ → ℕ → Told
owner_of_column = owner_of 3
