-- A cone after those before it.
use Rattle.std.proofs.Common.{◌≡◌, ℕ, ◌+◌, ◌-◌, min, List, ◌++◌, get_or, sym, ap, ◌∙◌, add-one}
use lib.Ieee.{Float}
use Rattle.model.specs.Lists.{over}
use Rattle.column_names.specs.Columns.{Layout}
use Rattle.text.specs.Text.{written}
use Rattle.text.specs.declared.writer.Writer.{Writer}
use Rattle.text.proofs.Laws.{after, renamed}
use Rattle.listing.specs.Rows.{Matrix, row, cone_head, first_row, cone}
use Rattle.listing.proofs.Laws.{written_next}

module _ (h : ℕ) (dimensions : List ℕ) (j : ℕ) {first end : ℕ} (is : first ≡ first_row h dimensions j) where
  pub next_first : end ≡ min (first + get_or dimensions j 0) h → end ≡ first_row h dimensions (j + 1)
  unfolding first_row
  next_first e = e ∙ ap (λ (f : ℕ). min (f + get_or dimensions j 0) h) is ∙ sym (ap (first_row h dimensions) (add-one j))

  module _ (y : Layout) (a : Matrix) (entries : ℕ) (right : List Float) (kinds : List ℕ) where
    pub cone_told : end ≡ first_row h dimensions (j + 1) → cone_head y kinds dimensions j first ++ over (row y a entries right) first (end - first) ≡ cone y a entries right h kinds dimensions j
    unfolding cone
    cone_told e = simp (e, is, add-one j)

    pub written_cone : (w : Writer) {u v x : Writer} → end ≡ first_row h dimensions (j + 1) → u ≡ written (over (cone y a entries right h kinds dimensions) 0 j) w → v ≡ written (cone_head y kinds dimensions j first) u → x ≡ written (over (row y a entries right) first (end - first)) v → x ≡ written (over (cone y a entries right h kinds dimensions) 0 (j + 1)) w
    written_cone w {u} e before head rows =
        let f = cone y a entries right h kinds dimensions in
        renamed u (cone_told e) (after _ _ u head rows) ∙ ap (written (f j)) before ∙ sym (written_next f j w)
