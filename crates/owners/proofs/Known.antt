-- An owner that is answered is one of the index, so its number is below the index's length.
use Prim.Native.Nat.{ℕ, ◌+◌, ◌<◌}
use native.Mathlib.Decide.{dec_lt}
use native.Mathlib.Omega.{arith}
use mathlib.Core.Path.{◌≡◌, sym, ap, ◌∙◌}
use mathlib.Core.List.{List}
use lib.ListN.{length, get_or}
use Rattle.model.specs.Answers.{Told}
use Rattle.model.specs.Owners.{index_places}
use Rattle.std.specs.Prelude.{Ok}
use Rattle.model.specs.OwnerAnswers.{OwnerAnswer, told_owner, owned_by, no_owner, within, owner_of}
use Rattle.model.specs.declared.Owner.TheVariants.{ObjectiveNumber}
use Rattle.model.proofs.Room.{Looked, none, found, look}
use Rattle.model.proofs.OwnersTold.{too_short, lowest_counts, not_covered}

-- a refusal is no owner
refused : (r i : ℕ) → 0 < r → no_owner r ≡ owned_by i → ⊥
refused r i h e = let z : r ≡ 0 = ap (λ (t : Told). t.number) e in absurd (omega arith)

known : (f : ℕ) (index : List ℕ) (objectives r i : ℕ) → owner_of f index objectives r ≡ owned_by i → i < length index
known f index objectives r i e = go (dec_lt (length index) (index_places objectives)) (look (within index f r) 0 (objectives + 2))
  where
    go : Dec (length index < index_places objectives) → Looked (within index f r) 0 (objectives + 2) → i < length index
    go (yes h) l = absurd (refused 28 i (omega arith) (sym (too_short f index objectives r h) ∙ e))
    go (no h) (none t) = absurd (refused 29 i (omega arith) (sym (not_covered f index objectives r (omega arith) (λ j a. t j (omega arith) (omega arith))) ∙ e))
    go (no h) (found j a t) =
        let z : j ≡ i = ap (λ (t : Told). get_or t.values 0 0) (sym (lowest_counts f index objectives r (omega arith) j (omega arith) t) ∙ e) in
        omega arith

pub objective_known : (f : ℕ) (index : List ℕ) (objectives r : ℕ) {a : OwnerAnswer} → told_owner a ≡ owner_of f index objectives r → (i : ℕ) → a ≡ Ok (ObjectiveNumber i) → 2 + i < length index
objective_known f index objectives r e i h = known f index objectives r (2 + i) (sym e ∙ ap told_owner h)
