-- Request 6: of any index, the answer is the lowest owner whose range holds the row or column; by a problem's index, the one owner, and 29 where there is none.
use Prim.Native.Nat.{ℕ, zero, suc, ◌+◌, ◌*◌, ◌≤◌, ◌<◌}
use native.Mathlib.Nat.{not-suc-le-zero, le_of_suc-le-suc}
use native.Mathlib.Omega.{arith}
use mathlib.Core.Path.{◌≡◌, refl, ap, ap₂, ◌∙◌}
use mathlib.Core.Bool.{Bool, true, false, cond, ◌&&◌}
use mathlib.Core.List.{List, [], ◌∷◌, ◌++◌}
use lib.ListN.{length, get_or, length-append, get_or-append}
use lib.Seq.{get_or-append-add}
use lib.Dec.{ltb, leb, lit<}
use borrow.Author.Tests.{ltb-true, leb-true, lt-ltb, le-leb, le-ltb}
use Rattle.std.specs.Prelude.{Ok, Err}
use Rattle.model.specs.Lists.{joined}
use Rattle.model.specs.Verdicts.{Verdict, ◌then◌, refuse, lowest, itself}
use Rattle.model.specs.Problem.{Problem, objectives, n}
use Rattle.model.specs.Assembled.{right_side, cost}
use Rattle.model.specs.Answers.{Told}
use Rattle.model.specs.Owners.{Owner, owners, eight, index, index_places}
use Rattle.model.specs.OwnerAnswers.{owned_by, no_owner, in_range, within, lowest_owner, owner_of, owner_of_row, owner_of_column}
use Rattle.model.specs.declared.FourCounts.{FourCounts}
use Rattle.model.specs.declared.rule.Rule.{Rule}
use Rattle.model.specs.declared.rule.Rule.TheVariants.{IndexTooShort}
use Rattle.model.proofs.Passes.{both}
use Rattle.model.proofs.Room.{First, lowest_none, lowest_first}
use Rattle.model.proofs.Owned.{none, In, OneOwner, owned, index_length}

-- ---- any index

-- what `lowest` finds, as an owner, so that its laws (Room.antt) are those of the lowest owner
abbrev told : Verdict → Told
told (Ok tt) = no_owner 29
told (Err e) = owned_by e.place

-- `told` leaves the rule out, so that any rule serves
abbrev any : Rule
any = IndexTooShort

as_lowest : (test : ℕ → Bool) (k c : ℕ) → lowest_owner test k c ≡ told (lowest any itself test k c)
unfolding lowest_owner lowest refuse ◌then◌
as_lowest test k zero = refl
as_lowest test k (suc c) = go (test k) (as_lowest test (suc k) c)
  where
    go : (b : Bool) → lowest_owner test (suc k) c ≡ told (lowest any itself test (suc k) c)
        → cond b (owned_by k) (lowest_owner test (suc k) c) ≡ told (refuse any k b then lowest any itself test (suc k) c)
    go true rest = refl
    go false rest = rest

module _ (f : ℕ) (index : List ℕ) (objectives r : ℕ) where
  abbrev test : ℕ → Bool
  test = within index f r

  -- "too short a one is 28 first"
  pub too_short : length index < index_places objectives → owner_of f index objectives r ≡ no_owner 28
  unfolding owner_of
  too_short h = rw (lt-ltb (length index) (index_places objectives) h)

  -- "of several ranges that hold the row or column the lowest owner counts"
  pub lowest_counts : index_places objectives ≤ length index → (i : ℕ) → i < objectives + 2 → First (within index f r) 0 i → owner_of f index objectives r ≡ owned_by i
  unfolding owner_of
  lowest_counts h i l t = rw (le-ltb (length index) (index_places objectives) h) (as_lowest test 0 (objectives + 2) ∙ ap told (lowest_first test any itself 0 (objectives + 2) i (omega arith) t))

  -- "a row or column that isn't covered is 29"
  pub not_covered : index_places objectives ≤ length index → ((i : ℕ) → i < objectives + 2 → within index f r i ≡ false) → owner_of f index objectives r ≡ no_owner 29
  unfolding owner_of
  not_covered h t = rw (le-ltb (length index) (index_places objectives) h) (as_lowest test 0 (objectives + 2) ∙ ap told (lowest_none test any itself 0 (objectives + 2) (λ i a b. t i (omega arith))))

-- ---- the index of a problem

-- number f of owner i; places past the owners are ignored
pub index_number : (os : List Owner) (rest : List ℕ) (i f : ℕ) → i < length os → f < 8 → get_or (joined eight os ++ rest) (8 * i + f) 0 ≡ get_or (eight (get_or os i none)) f 0
index_number [] rest i f l h = absurd (not-suc-le-zero l)
index_number (o ∷ os) rest zero f l h =
    let e : 8 * 0 + f ≡ f = omega arith in
    rw e (get_or-append (eight o) (joined eight os ++ rest) 0 f h)
index_number (o ∷ os) rest (suc i) f l h =
    let e : 8 * suc i + f ≡ 8 + (8 * i + f) = omega arith in
    rw e (get_or-append-add (eight o) (joined eight os ++ rest) (8 * i + f) 0 ∙ index_number os rest i f (le_of_suc-le-suc l) h)

-- ---- a range

range_in : (a b r : ℕ) → in_range a b r ≡ true → (a ≤ r) × (r < a + b)
unfolding in_range
range_in a b r h = let t = both (leb a r) (ltb r (a + b)) h in (leb-true a r t.0, ltb-true r (a + b) t.1)

in_range_lem : (a b r : ℕ) → a ≤ r → r < a + b → in_range a b r ≡ true
unfolding in_range
in_range_lem a b r x y = ap₂ ◌&&◌ (le-leb a r x) (lt-ltb r (a + b) y)

-- for one of the four ranges: its number f in the index, and the count that it is
module _ (f : ℕ) (count : FourCounts → ℕ) (small : f < 4) (firsts : (o : Owner) → get_or (eight o) f 0 ≡ count o.first) (sizes : (o : Owner) → get_or (eight o) (f + 4) 0 ≡ count o.size) where
  module _ (os : List Owner) (rest : List ℕ) (r : ℕ) where
    first_number : (i : ℕ) → i < length os → get_or (joined eight os ++ rest) (8 * i + f) 0 ≡ count (get_or os i none).first
    first_number i l = index_number os rest i f l (omega arith) ∙ firsts (get_or os i none)

    size_number : (i : ℕ) → i < length os → get_or (joined eight os ++ rest) (8 * i + f + 4) 0 ≡ count (get_or os i none).size
    size_number i l =
        let e : 8 * i + f + 4 ≡ 8 * i + (f + 4) = omega arith in
        ap (λ (k : ℕ). get_or (joined eight os ++ rest) k 0) e ∙ index_number os rest i (f + 4) l (omega arith) ∙ sizes (get_or os i none)

    within_in : (i : ℕ) → i < length os → within (joined eight os ++ rest) f r i ≡ true → In count os r i
    unfolding within
    within_in i l h =
        let t = range_in (get_or (joined eight os ++ rest) (8 * i + f) 0) (get_or (joined eight os ++ rest) (8 * i + f + 4) 0) r h in
        record { known = l; above = omega (arith, t, first_number i l); below = omega (arith, t, first_number i l, size_number i l) }

    in_within : (i : ℕ) → In count os r i → within (joined eight os ++ rest) f r i ≡ true
    unfolding within
    in_within i h =
        let l = h.known in
        in_range_lem (get_or (joined eight os ++ rest) (8 * i + f) 0) (get_or (joined eight os ++ rest) (8 * i + f + 4) 0) r
        (omega (arith, h.above, first_number i l)) (omega (arith, h.below, first_number i l, size_number i l))

  -- the answer
  module _ (p : Problem) (rest : List ℕ) where
    enough : index_places (length (objectives p)) ≤ length (index p ++ rest)
    enough = simp length-append (omega (arith, index_length p))

    missed : (r i : ℕ) → i < length (objectives p) + 2 → (In count (owners p) r i → ⊥) → within (index p ++ rest) f r i ≡ false
    unfolding index
    missed r i l h = go (within (joined eight (owners p) ++ rest) f r i) refl
      where
        go : (t : Bool) → within (joined eight (owners p) ++ rest) f r i ≡ t → t ≡ false
        go true e = absurd (h (within_in (owners p) rest r i (omega (arith, (owned p).number)) e))
        go false e = refl

    answered : (r : ℕ) (o : OneOwner count (owners p) r) → owner_of f (index p ++ rest) (length (objectives p)) r ≡ owned_by o.who
    unfolding index
    answered r o =
        let known = o.holds.known in
        lowest_counts f (index p ++ rest) (length (objectives p)) r enough o.who (omega (arith, known, (owned p).number))
        (record {
          above = omega arith;
          passes = in_within (owners p) rest r o.who o.holds;
          earlier = λ j _ l. missed r j (omega (arith, known, (owned p).number)) (λ h. absurd (omega (arith, o.only j h)));
        })

    unanswered : (r : ℕ) → ((i : ℕ) → In count (owners p) r i → ⊥) → owner_of f (index p ++ rest) (length (objectives p)) r ≡ no_owner 29
    unanswered r h = not_covered f (index p ++ rest) (length (objectives p)) r enough (λ i l. missed r i l (h i))

-- Rows and columns by an index: the one owner of `Owned`, and "a row or column that isn't covered is 29"
pub record OwnersTold (p : Problem) (index : List ℕ) : Type 0 where
  pub row : (r : ℕ) → (l : r < length (right_side p)) → owner_of_row index (length (objectives p)) r ≡ owned_by ((owned p).row r l).who
  pub no_row : (r : ℕ) → length (right_side p) ≤ r → owner_of_row index (length (objectives p)) r ≡ no_owner 29
  pub column : (c : ℕ) → (h : 2 * n p.path + 2 ≤ c) → (l : c < length (cost p)) → owner_of_column index (length (objectives p)) c ≡ owned_by ((owned p).column c h l).who
  pub no_column : (c : ℕ) → (2 * n p.path + 2 ≤ c → c < length (cost p) → ⊥) → owner_of_column index (length (objectives p)) c ≡ no_owner 29

-- by every list that begins with the problem's index
pub owners_told : (p : Problem) (rest : List ℕ) → OwnersTold p (index p ++ rest)
owners_told p rest =
    record {
      row = λ r l. answered 1 (λ t. t.rows) (lit< tt) (λ o. refl) (λ o. refl) p rest r ((owned p).row r l);
      no_row = λ r l. unanswered 1 (λ t. t.rows) (lit< tt) (λ o. refl) (λ o. refl) p rest r (λ i h. omega (arith, (owned p).no_row r i h));
      column = λ c h l. answered 3 (λ t. t.columns) (lit< tt) (λ o. refl) (λ o. refl) p rest c ((owned p).column c h l);
      no_column =
          λ c none. unanswered 3 (λ t. t.columns) (lit< tt) (λ o. refl) (λ o. refl) p rest c
          (λ i h. none ((owned p).no_column c i h).0 ((owned p).no_column c i h).1);
    }
