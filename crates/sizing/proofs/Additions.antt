-- Sums of counts, objective by objective.
use Prim.Native.Nat.{ℕ, ◌+◌, ◌≤◌, ◌<◌}
use native.Mathlib.Omega.{arith}
use native.Mathlib.Numerals.{add-one}
use mathlib.Core.Path.{◌≡◌, sym, ◌∙◌}
use mathlib.Core.List.{List}
use lib.ListN.{length, drop, get_or, drop_of_length-le}
use lib.Seq.{drop-cons}
use Rattle.model.specs.Problem.{Problem, objectives}
use Rattle.model.specs.Counts.{four_counts, ◌plus◌, standard_counts, root_counts, objective_counts, objectives_counts, counts}
use Rattle.model.specs.declared.FourCounts.{FourCounts}
use Rattle.model.specs.declared.Objective.{Objective}
use Rattle.model.proofs.Counted.{same_counts}

-- what `FourCounts::default()` is
pub no_counts : {t : FourCounts} → (t.entries ≡ 0) × ((t.rows ≡ 0) × ((t.cones ≡ 0) × (t.columns ≡ 0))) → t ≡ four_counts 0 0 0 0
no_counts d = same_counts d.0 d.1.0 d.1.1.0 d.1.1.1

pub none_yet : (p : Problem) (os : List Objective) → objectives_counts p os ≡ (four_counts 0 0 0 0 plus objectives_counts p os)
none_yet p os = same_counts (omega arith) (omega arith) (omega arith) (omega arith)

module _ (p : Problem) (os : List Objective) (i : ℕ) (t : FourCounts) (so_far : objectives_counts p os ≡ (t plus objectives_counts p (drop i os))) where
  pub one_more : (o : Objective) {a b : FourCounts} → i < length os → a ≡ objective_counts p (get_or os i o) → b ≡ (t plus a) → objectives_counts p os ≡ (b plus objectives_counts p (drop (i + 1) os))
  unfolding objectives_counts
  one_more o h e f = so_far ∙ rw (drop-cons os i o h, add-one i, f, e) (same_counts (omega arith) (omega arith) (omega arith) (omega arith))

  pub all_counted : length os ≤ i → t ≡ objectives_counts p os
  unfolding objectives_counts
  all_counted h = sym (so_far ∙ rw (drop_of_length-le os h) (same_counts (omega arith) (omega arith) (omega arith) (omega arith)))

pub whole : (p : Problem) {os : List Objective} {s r b a t : FourCounts} → os ≡ objectives p → s ≡ standard_counts p → r ≡ root_counts p → b ≡ (s plus r) → a ≡ objectives_counts p os → t ≡ (b plus a) → t ≡ counts p
unfolding counts
whole p o s r b a t = t ∙ rw (b, a, s, r, o)
