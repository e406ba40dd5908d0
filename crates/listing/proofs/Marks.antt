-- The mark of the first entry at a row and a column.
use Rattle.std.proofs.Common.{◌≡◌, ℕ, zero, suc, ◌+◌, Bool, true, false, cond, ◌&&◌, eqb, get_or, Option, Some, None, find, sym, refl, ap, ◌∙◌, add-one}
use Rattle.std.specs.List.{range_with_len}
use Rattle.model.specs.Numbers.{at}
use Rattle.column_names.specs.Columns.{letter}
use Rattle.listing.specs.Rows.{Matrix}
use Rattle.listing.specs.Pattern.{sign_mark, mark_from}

abbrev pub found : Matrix → Option ℕ → ℕ
found a (Some i) = sign_mark (at a.values i)
found a None = letter "."

module _ (a : Matrix) (r k : ℕ) where
  abbrev stands : ℕ → Bool
  stands i = eqb (get_or a.rows i 0) r && eqb (get_or a.columns i 0) k

  pub mark_found : (i n : ℕ) → mark_from a r k i n ≡ found a (find stands (range_with_len i n))
  unfolding mark_from
  mark_found i zero = refl
  mark_found i (suc n) = ap (cond (stands i) (sign_mark (at a.values i))) (mark_found (suc i) n ∙ ap (λ (j : ℕ). found a (find stands (range_with_len j n))) (sym (add-one i))) ∙ either (stands i)
    where
      either : (b : Bool) → cond b (sign_mark (at a.values i)) (found a (find stands (range_with_len (i + 1) n))) ≡ found a (cond b (Some i) (find stands (range_with_len (i + 1) n)))
      either true = refl
      either false = refl
