-- How many columns before one have a letter, counted by the library's `count_by`, and an objective's name as an owner.
use Rattle.std.proofs.Common.{◌≡◌, ℕ, zero, suc, ◌+◌, cond, eqb, List, ◌++◌, map, count_by, sym, refl, ap, ◌∙◌, arith, add-one}
use Rattle.std.specs.List.{range_with_len}
use Rattle.std.proofs.lemmas.List.FromFn.{sum_by-map-range_with_len_more}
use Rattle.model.specs.declared.Objective.{Objective}
use Rattle.text.specs.Text.{ascii}
use Rattle.text.specs.Digits.{decimal}
use Rattle.column_names.specs.Columns.{Layout, slot_at, letter_at, before, kind_name, owner_name}

pub before_counts : (y : Layout) (l k : ℕ) → before y l k ≡ count_by (λ x. eqb x l) (map (letter_at y) (range_with_len 0 k))
unfolding before
before_counts y l zero = refl
before_counts y l (suc k) =
    let one : ℕ → ℕ = λ (x : ℕ). cond (eqb x l) 1 0 in
    ap (λ (n : ℕ). n + one (letter_at y k)) (before_counts y l k)
    ∙ sym (sum_by-map-range_with_len_more one (letter_at y) 0 k k (omega arith))
    ∙ ap (λ (n : ℕ). count_by (λ x. eqb x l) (map (letter_at y) (range_with_len 0 n))) (add-one k)

-- objective i, by its place in the order of owners
pub objective_named : (slots : List Objective) (i : ℕ) → owner_name slots (2 + i) ≡ ascii "objective " ++ decimal i ++ ascii ", " ++ kind_name (slot_at slots i)
unfolding owner_name
objective_named slots i = let two : 2 + i ≡ suc (suc i) = omega arith in ap (owner_name slots) two
