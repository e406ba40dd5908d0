-- docs/LISTING.md: the page of an answer.
use Rattle.std.specs.Prelude.{ℕ, List, ◌++◌, Result, Ok, Err}
use Rattle.model.specs.Rules.{rule_number}
use Rattle.model.specs.Lists.{over}
use Rattle.model.specs.Answers.{Buffers}
use Rattle.model.specs.Verdicts.{Answer}
use Rattle.model.specs.declared.FourCounts.{FourCounts}
use Rattle.model.specs.declared.Objective.{Objective}
use Rattle.text.specs.Text.{ascii}
use Rattle.text.specs.Digits.{decimal}
use Rattle.column_names.specs.Columns.{layout}
use Rattle.listing.specs.Rows.{Matrix, matrix, cone, cost_line}
use Rattle.listing.specs.Pattern.{picture}
use Rattle.refusal_words.specs.Refusals.{refused}

unfoldable pub counts_line : ℕ → ℕ → ℕ → ℕ → List ℕ
counts_line e r c k =
    ascii "entries " ++ decimal e ++ ascii ", rows " ++ decimal r ++ ascii ", cones " ++ decimal c ++ ascii ", columns " ++ decimal k ++ ascii "\n"

abbrev pub matrix_of : Buffers → Matrix
matrix_of b = matrix b.rows b.columns b.values

-- the page of an answer with what the buffers hold after it, for so many stations and these objectives, of which `count` count; a refusal is told by its number and its place
unfoldable pub page_told : {E : Type 0} → (E → ℕ) → (E → ℕ) → ℕ → List Objective → ℕ → Result FourCounts E → Buffers → List ℕ
page_told number place stations slots count (Err e) b = refused (number e) (place e)
page_told number place stations slots count (Ok t) b =
    let y = layout stations slots count b.index in
    counts_line t.entries t.rows t.cones t.columns
    ++ over (cone y (matrix_of b) t.entries b.right t.rows b.kinds b.dimensions) 0 t.cones
    ++ cost_line y b.cost t.columns
    ++ picture y (matrix_of b) t.entries t.rows t.columns

-- the same of an answer whose refusals are document 01's
abbrev pub page_of : ℕ → List Objective → ℕ → Answer → Buffers → List ℕ
page_of stations slots count answer b = page_told (λ e. rule_number e.rule) (λ e. e.place) stations slots count answer b
