-- A property of each element of a list, and of the lists that `++`, `given`, `list`, `over` and `joined` make. Each law is an equivalence, so that
-- `simp all-rules` takes a goal apart and `omega` closes what is left.
use Prim.Native.Nat.{ℕ, zero, suc, ◌+◌, ◌≤◌, ◌<◌}
use native.Mathlib.Nat.{not-suc-le-zero, le_of_suc-le-suc}
use native.Mathlib.Decide.{ℕ_discrete}
use native.Mathlib.Omega.{arith}
use mathlib.Core.Path.{◌≡◌, refl, subst}
use mathlib.Core.Logic.{◌↔◌}
use mathlib.Core.Bool.{Bool, true, false, false≢true}
use mathlib.Core.List.{List, [], ◌∷◌, ◌++◌, map}
use lib.ListN.{length, get_or}
use Rattle.model.specs.Lists.{list, over, given, joined}

module _ {A : Type 0} where
  abbrev pub All : (A → Type 0) → List A → Type 0
  All P [] = Unit {0}
  All P (x ∷ xs) = P x × All P xs

  -- any property of a list that holds of the empty one
  pub given_says : (Q : List A → Type 0) → Q [] → (b : Bool) (xs : List A) → Q (given b xs) ↔ (b ≡ true → Q xs)
  given_says Q n true xs = (λ h _. h, λ h. h refl)
  given_says Q n false xs = (λ _ e. absurd (false≢true e), λ _. n)

  module _ (P : A → Type 0) where
    pub all_append : (xs ys : List A) → All P (xs ++ ys) ↔ (All P xs × All P ys)
    all_append [] ys = (λ h. (tt, h), λ h. h.1)
    all_append (x ∷ xs) ys =
        let e = all_append xs ys in
        (λ h. ((h.0, (e.0 h.1).0), (e.0 h.1).1), λ h. (h.0.0, e.1 (h.0.1, h.1)))

    pub all_given : (b : Bool) (xs : List A) → All P (given b xs) ↔ (b ≡ true → All P xs)
    all_given = given_says (All P) tt

    -- the element at i of a list that starts at k: the first one, or one of the rest
    pick : (f : ℕ → A) (k i : ℕ) → P (f k) → (suc k ≤ i → P (f i)) → k ≤ i → Dec (k ≡ i) → P (f i)
    pick f k i h t a (yes q) = subst (λ (j : ℕ). P (f j)) q h
    pick f k i h t a (no q) = t (omega arith)

    pub all_list : (f : ℕ → A) (k c : ℕ) → All P (list f k c) ↔ ((i : ℕ) → k ≤ i → i < k + c → P (f i))
    all_list f k zero = (λ h i a b. absurd (omega arith), λ h. tt)
    all_list f k (suc c) =
        let e = all_list f (suc k) c in (
          λ h i a b. pick f k i h.0 (λ a'. e.0 h.1 i a' (omega arith)) a (ℕ_discrete k i),
          λ h. (h k (omega arith) (omega arith), e.1 (λ i a b. h i (omega arith) (omega arith))),
        )

  pub all_at : (P : A → Type 0) (l : List A) (i : ℕ) (d : A) → All P l → i < length l → P (get_or l i d)
  all_at P [] i d h lt = absurd (not-suc-le-zero lt)
  all_at P (x ∷ xs) zero d h lt = h.0
  all_at P (x ∷ xs) (suc i) d h lt = all_at P xs i d h.1 (le_of_suc-le-suc lt)

  pub all_imp : (P Q : A → Type 0) (xs : List A) → ((x : A) → P x → Q x) → All P xs → All Q xs
  all_imp P Q [] f h = tt
  all_imp P Q (x ∷ xs) f h = (f x h.0, all_imp P Q xs f h.1)

pub all_map : {A B : Type 0} (P : B → Type 0) (f : A → B) (l : List A) → All P (map f l) ↔ All (λ x. P (f x)) l
all_map P f [] = (λ h. h, λ h. h)
all_map P f (x ∷ l) = let e = all_map P f l in (λ h. (h.0, e.0 h.1), λ h. (h.0, e.1 h.1))

-- the lists of a list: `over` and `joined`
pub all_joined : {A B : Type 0} (P : A → Type 0) (f : B → List A) (bs : List B) → All P (joined f bs) ↔ All (λ b. All P (f b)) bs
all_joined P f [] = (λ h. tt, λ h. tt)
all_joined P f (b ∷ bs) =
    let e = all_joined P f bs in
    let a = all_append P (f b) (joined f bs) in
    (λ h. ((a.0 h).0, e.0 (a.0 h).1), λ h. a.1 (h.0, e.1 h.1))

pub all_over : {A : Type 0} (P : A → Type 0) (f : ℕ → List A) (k c : ℕ) → All P (over f k c) ↔ ((i : ℕ) → k ≤ i → i < k + c → All P (f i))
all_over P f k zero = (λ h i a b. absurd (omega arith), λ h. tt)
all_over P f k (suc c) =
    let e = all_over P f (suc k) c in
    let a = all_append P (f k) (over f (suc k) c) in (
      λ h i x y. pick (λ (l : List _). All P l) f k i (a.0 h).0 (λ x'. e.0 (a.0 h).1 i x' (omega arith)) x (ℕ_discrete k i),
      λ h. a.1 (h k (omega arith) (omega arith), e.1 (λ i x y. h i (omega arith) (omega arith))),
    )
