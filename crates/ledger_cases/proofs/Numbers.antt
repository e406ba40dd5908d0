-- The cases at their numbers: number 0 and the numbers past the last are case A, and the letters are A to N.
use Prim.Native.Nat.{ℕ, zero, suc, ◌≤◌}
use native.Mathlib.Omega.{arith}
use native.Mathlib.Decide.{ℕ_discrete}
use mathlib.Core.Path.{◌≡◌}
use mathlib.Core.List.{map}
use lib.ListN.{get_or, get_or-eq_default, get_or-map}
use Rattle.model.specs.Ledger.{A, cases, case, case_a}
use Rattle.model.specs.Ledger as Definition
use Rattle.ledger_cases.specs.Cases.{case_at, problem_at, letter, letter_at}

past : (i : ℕ) → 14 ≤ i → case_at i ≡ case A case_a
past i h = get_or-eq_default cases (case A case_a) h

-- none of the numbers 1 to k
abbrev Others : ℕ → ℕ → Type 0
Others i zero = Unit {0}
Others i (suc k) = Others i k × (i ≡ suc k → ⊥)

others : (i k : ℕ) → Others i k → 1 ≤ i → suc k ≤ i
others i zero h l = l
others i (suc k) h l = let g = others i k h.0 l in let f = h.1 in omega arith

pub first_or_past : (i : ℕ) → Others i 13 → problem_at i ≡ case_a
unfolding problem_at
first_or_past i h = go (ℕ_discrete i 0)
  where
    go : Dec (i ≡ 0) → problem_at i ≡ case_a
    go (yes e) = rw e
    go (no f) = rw (past i (others i 13 h (omega arith)))

-- past the last letter the default is case A's, so the list's map needs no bound
pub letter_or : (i : ℕ) → get_or (map (λ (c : Definition.Case). letter c.name) cases) i 65 ≡ letter_at i
unfolding letter_at
letter_or i = get_or-map (λ (c : Definition.Case). letter c.name) cases i (case A case_a)
