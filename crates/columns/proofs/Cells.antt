-- What is written at columns that functions told, as what is written at the columns themselves.
use mathlib.Core.Path.{◌≡◌}
use mathlib.Core.List.{List, [], ◌∷◌}
use Prim.Native.Nat.{ℕ}
use lib.Ieee.{Float}
use Rattle.model.specs.Program.{Cell, cell, band}
use Rattle.model.specs.declared.Tally.{Tally}
use Rattle.model.specs.declared.Buffers.{Buffers}
use Rattle.buffers.specs.Buffers.{Wrote}
use Rattle.buffers.proofs.Laws.{wrote_as}

-- the first column of a band or a row, then the others
pub at_column : {a b : ℕ} {v : ℕ → Float} {fs gs : List (ℕ → Cell)} → a ≡ b → fs ≡ gs → ◌≡◌ {A = List (ℕ → Cell)} ((λ i. cell a (v i)) ∷ fs) ((λ i. cell b (v i)) ∷ gs)
at_column {v} e f = λ j. (λ i. cell (e j) (v i)) ∷ f j

-- a band, or a row, of any number of columns
pub band_at : {t : Tally} {b : Buffers} {t' : Tally} {b' : Buffers} {m k : ℕ} {h : ℕ → Float} {fs gs : List (ℕ → Cell)}
    → Wrote t b t' b' (band k h fs ∷ []) m → fs ≡ gs → Wrote t b t' b' (band k h gs ∷ []) m
band_at {k} {h} p e = wrote_as p (λ i. band k h (e i) ∷ [])
