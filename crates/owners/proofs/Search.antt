-- What the search for the lowest owner needs, step by step.
use Prim.Native.Nat.{ℕ, zero, suc, ◌+◌, ◌-◌, ◌≤◌, ◌<◌}
use native.Mathlib.Decide.{dec_lt}
use native.Mathlib.Omega.{arith}
use mathlib.Core.Path.{◌≡◌, refl, sym, ap, ◌∙◌}
use mathlib.Core.Bool.{Bool, true, false, cond}
use mathlib.Core.List.{List}
use lib.ListN.{length}
use lib.Dec.{ltb}
use Rattle.std.proofs.Common.{Option, Some, None, find, add-one}
use Rattle.std.specs.List.{range_with_len}
use borrow.Author.Tests.{lt-ltb, le-ltb, lt-leb, le-leb}
use Rattle.owners.specs.Lists.{list_number}
use Rattle.owners.specs.declared.IndexList.{IndexList}
use Rattle.owners.specs.declared.IndexList.TheVariants.{Rows, Columns}
use Rattle.model.specs.Owners.{index_places}
use Rattle.model.specs.OwnerAnswers.{owned_by, no_owner, in_range, within, lowest_owner, owner_of}
use Rattle.model.specs.Answers.{Told}

-- ---- a range: r is below it; or it is not, and the difference decides

pub range_below : (first size r : ℕ) → r < first → false ≡ in_range first size r
unfolding in_range
range_below first size r h = rw (lt-leb first r h)

pub range_by_difference : (first size r : ℕ) → first ≤ r → ltb (r - first) size ≡ in_range first size r
unfolding in_range
range_by_difference first size r h = rw (le-leb first r h) (go (dec_lt r (first + size)))
  where
    go : Dec (r < first + size) → ltb (r - first) size ≡ ltb r (first + size)
    go (yes l) = lt-ltb (r - first) size (omega arith) ∙ sym (lt-ltb r (first + size) l)
    go (no l) = le-ltb (r - first) size (omega arith) ∙ sym (le-ltb r (first + size) (omega arith))

-- ---- the search

pub list_small : (l : IndexList) → list_number l < 4
list_small Rows = omega arith
list_small Columns = omega arith

-- what is answered of the place that `find` gives
abbrev pub found : Option ℕ → Told
found (Some k) = owned_by k
found None = no_owner 29

lowest_found : (holds : ℕ → Bool) (k c : ℕ) → found (find holds (range_with_len k c)) ≡ lowest_owner holds k c
unfolding lowest_owner
lowest_found holds k zero = refl
lowest_found holds k (suc c) = either (holds k) ∙ ap (cond (holds k) (owned_by k)) (ap (λ (j : ℕ). found (find holds (range_with_len j c))) (add-one k) ∙ lowest_found holds (suc k) c)
  where
    either : (b : Bool) → found (cond b (Some k) (find holds (range_with_len (k + 1) c))) ≡ cond b (owned_by k) (found (find holds (range_with_len (k + 1) c)))
    either true = refl
    either false = refl

pub owner_found : (f : ℕ) (index : List ℕ) (objectives r : ℕ) → index_places objectives ≤ length index → {o : Option ℕ} → o ≡ find (within index f r) (range_with_len 0 (objectives + 2)) → found o ≡ owner_of f index objectives r
unfolding owner_of
owner_found f index objectives r h e = rw (le-ltb (length index) (index_places objectives) h) (ap found e ∙ lowest_found (within index f r) 0 (objectives + 2))
