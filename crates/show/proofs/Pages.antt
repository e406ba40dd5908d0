-- A page under its problem's own numbers, and the room for it.
use Prim.Native.Nat.{ℕ, ◌≤◌}
use mathlib.Core.Path.{◌≡◌, sym, ap, ◌∙◌}
use mathlib.Core.List.{List}
use lib.ListN.{length, take}
use lib.Seq.{length-take-le}
use native.Mathlib.Omega.{arith}
use Rattle.model.specs.Answers.{Buffers, answered, assembly}
use Rattle.model.specs.Verdicts.{Answer}
use Rattle.model.specs.declared.Objective.{Objective}
use Rattle.text.specs.Text.{Says}
use Rattle.text.proofs.Bytes.{renamed, next_within}
use Rattle.listing.specs.Page.{page_of}
use Rattle.shown_problems.specs.Problems.{problem_at, stations_at, objectives_at, count_at}
use Rattle.show.specs.Shown.{lent_here, Shown}

module _ (i : ℕ) (a : Answer) (b : Buffers) {s c : ℕ} {o : List Objective}
    (stations : s ≡ stations_at i) (objectives : o ≡ objectives_at i) (count : c ≡ count_at i) where
  own : page_of s o c a b ≡ page_of (stations_at i) (objectives_at i) (count_at i) a b
  own =
      ap (λ (k : ℕ). page_of k o c a b) stations
      ∙ ap (λ (l : List Objective). page_of (stations_at i) l c a b) objectives
      ∙ ap (λ (k : ℕ). page_of (stations_at i) (objectives_at i) k a b) count

  pub shown : {old new : List ℕ} {next : ℕ} → answered a b ≡ assembly (problem_at i) lent_here → Says (page_of s o c a b) old 0 new next → Shown i old new next
  shown e says = record { answer = a; after = b; assembled = e; says = renamed own says }

module _ {t old new : List ℕ} {next : ℕ} (x : Says t old 0 new next) where
  pub in_bounds : next ≤ length new
  in_bounds = next_within x (omega arith)

  pub prefix_len : next ≡ length (take next new)
  prefix_len = sym (length-take-le next new in_bounds)
