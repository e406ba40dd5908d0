-- What the scans of Time, of the a and b columns and of all objectives tell of the blocks. Assumes nothing.
use mathlib.Core.Path.{◌≡◌, refl, sym, ap, ◌∙◌}
use mathlib.Core.Bool.{Bool, true, ◌&&◌}
use mathlib.Core.List.{List, [], ◌∷◌, ◌++◌}
use Prim.Native.Nat.{ℕ, ◌+◌, ◌≤◌}
use native.Mathlib.Nat.{add-zero}
use lib.Ieee.{Float, neg, of_bits}
use lib.ListN.{length, take}
use Rattle.std.proofs.lemmas.List.{take_all}
use Rattle.model.specs.Numbers.{at, finite, ◌⊗◌, +0}
use Rattle.model.specs.Lists.{list}
use Rattle.model.specs.Problem.{Problem, Path, L, skip}
use Rattle.model.specs.Program.{positive_row}
use Rattle.model.specs.Objectives.{time_cone, time_block, time_weights, linear_block, objective_block}
use Rattle.model.specs.Assembled.{width, objective_blocks, all_finite}
use Rattle.model.specs.declared.Objective.{Objective}
use Rattle.model.specs.declared.Objective.TheVariants.{Linear}
use Rattle.finiteness.specs.Finite.{each, Each, finite_bands, finite_block, finite_blocks}
use Rattle.buffers.proofs.Laws.{and_assoc}
use Rattle.finiteness.proofs.Laws.{and_true, each_from, list_finite, each_true, positives, constants}

time_cone_lem : (q : Path) (c j : ℕ) → finite_bands (time_cone q c j).bands ≡ true
unfolding time_cone of_bits neg
time_cone_lem q c j = refl

-- a scan of the stations from o on, as one of the numbers from 0 on
pub from_zero : {f : ℕ → Bool} {r : Bool} {o c : ℕ} → Each r f o c → Each r (λ j. f (o + j)) 0 c
from_zero {f} {o} {c} p = record { says = p.says ∙ ap (λ (k : ℕ). each f k c) (sym (add-zero o)) ∙ sym (each_from f o 0 c) }

pub time_scanned : (q : Path) (w : Float) (c : ℕ) {r : Bool} → Each r (λ k. finite (w ⊗ at (time_weights q) k)) (skip q) (L q) → r ≡ finite_block (time_block q w c)
unfolding time_block
time_scanned q w c p =
    (from_zero p).says ∙ sym (list_finite (λ j. w ⊗ at (time_weights q) (skip q + j)) 0 (L q))
    ∙ ap (λ (x : Bool). x && all_finite (list (λ j. w ⊗ at (time_weights q) (skip q + j)) 0 (L q)))
    (sym (constants (list (λ j. positive_row (c + j)) 0 (L q)) (time_cone q c) (L q) (positives (λ j. c + j) 0 (L q)) (time_cone_lem q c)))

-- ---- the cost of the a and b columns

pub ab_zero : {f : ℕ → Float} (k c : ℕ) → ((j : ℕ) → +0 ≡ f j) → true ≡ all_finite (list f k c)
unfolding of_bits
ab_zero {f} k c h = sym (list_finite f k c ∙ each_true (λ j. finite (f j)) k c (λ j. ap finite (sym (h j))))

pub ab_scanned : (f : ℕ → Float) {r : Bool} {c d : ℕ} → Each r (λ j. finite (f j)) 0 c → c ≡ d → r ≡ all_finite (list f 0 d)
ab_scanned f {d} p e = p.says ∙ ap (each (λ j. finite (f j)) 0) e ∙ sym (list_finite f 0 d)

-- ---- objectives

pub linear_scanned : (p : Problem) (c : ℕ) {o : Objective} {w : Float} {a al b bl : ℕ} → o ≡ Linear w a al b bl → true ≡ finite_block (objective_block p c o)
unfolding objective_block linear_block
linear_scanned p c e = rw e

-- of i objectives, wherever their columns start
pub record Tested (r : Bool) (p : Problem) (os : List Objective) (i : ℕ) : Type 0 where
  pub says : (c : ℕ) → r ≡ finite_blocks (objective_blocks p c (take i os))

module _ (p : Problem) where
  more : (c : ℕ) (os : List Objective) (o : Objective) {v : Bool} → ((c : ℕ) → v ≡ finite_block (objective_block p c o))
      → (finite_blocks (objective_blocks p c os) && v) ≡ finite_blocks (objective_blocks p c (os ++ (o ∷ [])))
  unfolding objective_blocks
  more c [] o h = h c ∙ sym (and_true (finite_block (objective_block p c o)))
  more c (x ∷ os) o {v} h =
      let d = c + width (objective_block p c x) in
      and_assoc (finite_block (objective_block p c x)) (finite_blocks (objective_blocks p d os)) v ∙ ap (λ (b : Bool). finite_block (objective_block p c x) && b) (more d os o h)

  pub tested_none : {os : List Objective} → Tested true p os 0
  unfolding objective_blocks
  tested_none = record { says = λ c. refl }

  -- one more, and no branch: it is tested whatever those before it gave
  pub tested_more : {os : List Objective} {i : ℕ} (o : Objective) {u v r : Bool} → take (i + 1) os ≡ take i os ++ (o ∷ []) → Tested u p os i
      → ((c : ℕ) → v ≡ finite_block (objective_block p c o)) → r ≡ (u && v) → Tested r p os (i + 1)
  tested_more {os} {i} o {v} t g h e =
      record {
        says = λ c. e ∙ ap (λ (x : Bool). x && v) (g.says c) ∙ more c (take i os) o h ∙ ap (λ (l : List Objective). finite_blocks (objective_blocks p c l)) (sym t);
      }

  pub tested_all : {os : List Objective} {i : ℕ} {r : Bool} → Tested r p os i → length os ≤ i → (c : ℕ) → r ≡ finite_blocks (objective_blocks p c os)
  tested_all {os} {i} g l c = g.says c ∙ ap (λ (xs : List Objective). finite_blocks (objective_blocks p c xs)) (take_all i os l)
