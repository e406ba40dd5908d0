-- In a problem that refusal 20 lets by every number of the matrix is finite, −2·h of the interval rows among them; so they hold it exactly.
use Prim.Native.Nat.{ℕ, ◌+◌, ◌≤◌, ◌<◌}
use native.Mathlib.Omega.{arith}
use mathlib.Core.Path.{◌≡◌}
use mathlib.Core.Bool.{true}
use mathlib.Core.List.{List, [], ◌∷◌}
use Rattle.model.specs.Verdicts.{accepted}
use Rattle.model.specs.Numbers.{finite, ◌⊗◌, −2}
use Rattle.model.specs.Lists.{list, joined}
use Rattle.model.specs.Problem.{Problem, Path, stop, spacing}
use Rattle.model.specs.Program.{Cell, Band, Cone, Block, Entry, entry, entries_from, band_entries}
use Rattle.model.specs.Standard.{interval_rows, first_order, inequalities, standard}
use Rattle.model.specs.Assembled.{blocks, cones, bands, entries, values}
use Rattle.model.specs.Answers.{finite_refusal}
use Rattle.model.proofs.All.{All, all_append, all_list, all_over, all_map, all_joined}
use Rattle.model.proofs.Sizes.{Sizes}
use Rattle.model.proofs.Finite.{Finite, finite_lists}

-- every −2·h that an interval row holds is finite
abbrev pub TwiceFinite : Path → Type 0
TwiceFinite q = (k : ℕ) → q.N0 ≤ k → k < stop q → finite (−2 ⊗ spacing q k) ≡ true

-- each number of a band
abbrev FiniteBand : Band → Type 0
FiniteBand b = All (λ (f : ℕ → Cell). (i : ℕ) → i < b.height → Finite (f i).value) b.columns

columns_finite : (fs : List (ℕ → Cell)) (h r : ℕ) → All (λ (e : Entry). Finite e.value) (joined (λ f. list (λ i. entry (r + i) (f i)) 0 h) fs)
    → All (λ (f : ℕ → Cell). (i : ℕ) → i < h → Finite (f i).value) fs
columns_finite [] h r e = tt
columns_finite (f ∷ fs) h r e =
    let g = (all_append (λ (e : Entry). Finite e.value) (list (λ i. entry (r + i) (f i)) 0 h) (joined (λ f. list (λ i. entry (r + i) (f i)) 0 h) fs)).0 e in
    ((λ i l. (all_list (λ (e : Entry). Finite e.value) (λ i. entry (r + i) (f i)) 0 h).0 g.0 i (omega arith) (omega arith)), columns_finite fs h r g.1)

bands_finite : (r : ℕ) (bs : List Band) → All (λ (e : Entry). Finite e.value) (entries_from r bs) → All FiniteBand bs
bands_finite r [] e = tt
bands_finite r (b ∷ bs) e =
    let g = (all_append (λ (e : Entry). Finite e.value) (band_entries r b) (entries_from (r + b.height) bs)).0 e in
    (columns_finite b.columns b.height r g.0, bands_finite (r + b.height) bs g.1)

module _ (p : Problem) where
  pub accepted_twice_finite : Sizes p.path → finite_refusal p ≡ accepted → TwiceFinite p.path
  unfolding values entries bands cones blocks standard inequalities first_order interval_rows
  accepted_twice_finite l e k u v =
      let all = bands_finite 0 (bands p) ((all_map Finite (λ (e : Entry). e.value) (entries p)).0 (finite_lists p e).values) in
      let each = (all_joined (λ (c : Cone). All FiniteBand c.bands) (λ (b : Block). b.cones) (blocks p)).0 ((all_joined FiniteBand (λ (c : Cone). c.bands) (cones p)).0 all) in
      let rows = simp (all_append, all_over) at each.0.1.0 in
      (rows.0.0.1 k (omega arith) (omega arith)).1.0.1.0 0 (omega arith)
