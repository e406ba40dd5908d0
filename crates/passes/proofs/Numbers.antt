-- What the scans of the standard rows, the objectives and the a and b columns answer together is refusal 20's test. Assumes nothing.
use mathlib.Core.Path.{◌≡◌, refl, sym, ap, ap₂, ◌∙◌}
use mathlib.Core.Bool.{Bool, true, false, cond, ◌&&◌}
use mathlib.Core.List.{List}
use Prim.Native.Nat.{ℕ, ◌+◌, ◌*◌}
use lib.Ieee.{Float, neg, of_bits}
use Rattle.model.specs.Lists.{list, joined}
use Rattle.model.specs.Problem.{Problem, Path, objectives, n, L, has_root}
use Rattle.model.specs.Program.{Cone, positive_row, nothing}
use Rattle.model.specs.Standard.{root_cone, root_stage, standard, root}
use Rattle.model.specs.Answers.{every_finite}
use Rattle.model.specs.Assembled.{width, objective_blocks, blocks, cones, bands, entries, right_side, values, all_finite}
use Rattle.model.specs.declared.Objective.{Objective}
use Rattle.model.proofs.Sizes.{Sizes}
use Rattle.buffers.proofs.Laws.{all_append}
use Rattle.standard.specs.Block.{standard_cones}
use Rattle.linear.specs.Charges.{ab_cost}
use Rattle.linear.proofs.Cost.{ends_of, cost_as_columns}
use Rattle.objectives.proofs.Blocks.{same_all_cones, same_all_cost}
use Rattle.finiteness.specs.Finite.{finite_bands, finite_cones, finite_block, finite_blocks}
use Rattle.finiteness.proofs.Laws.{and_true, bands_finite, blocks_finite, positives, constants, zeros}
use Rattle.passes.proofs.Whole.{seen}

root_cone_lem : (q : Path) (j : ℕ) → finite_bands (root_cone q j).bands ≡ true
unfolding root_cone of_bits neg
root_cone_lem q j = refl

root_stage_lem : (q : Path) → finite_block (root_stage q) ≡ true
unfolding root_stage
root_stage_lem q = ap₂ (λ (x y : Bool). x && y) (constants (list (λ j. positive_row (2 * (n q + 1) + j)) 0 (L q)) (root_cone q) (L q) (positives (λ j. 2 * (n q + 1) + j) 0 (L q)) (root_cone_lem q)) (zeros (L q))

root_scanned : (q : Path) (b : Bool) → finite_block (cond b (root_stage q) nothing) ≡ true
root_scanned q true = root_stage_lem q
root_scanned q false = refl

-- ---- the whole

module _ (p : Problem) where
  seen_scanned : (c : ℕ) (os : List Objective) → finite_blocks (objective_blocks (seen p) c os) ≡ finite_blocks (objective_blocks p c os)
  seen_scanned c os =
      sym (blocks_finite (objective_blocks (seen p) c os))
      ∙ ap₂ (λ (x : List Cone) (y : List Float). finite_cones x && all_finite y) (same_all_cones (seen p) p refl refl refl refl c os) (same_all_cost (seen p) p refl refl refl refl c os)
      ∙ blocks_finite (objective_blocks p c os)

  numbers_scanned : (all_finite (values p) && all_finite (right_side p)) ≡ finite_cones (joined (λ b. b.cones) (blocks p))
  unfolding values entries right_side bands cones
  numbers_scanned = bands_finite 0 (joined (λ c. c.bands) (joined (λ b. b.cones) (blocks p)))

  blocks_scanned : {s o : Bool} → s ≡ finite_cones (standard_cones p.path p.boundary p.limits p.acc p.jerk) → ((c : ℕ) → o ≡ finite_blocks (objective_blocks (seen p) c (objectives p)))
      → (s && o) ≡ finite_blocks (blocks p)
  unfolding blocks standard root
  blocks_scanned {s} {o} e f =
      let c = 2 * (n p.path + 1) + width (root p) in
      ap₂ (λ (x y : Bool). x && y) (e ∙ sym (and_true (finite_cones (standard_cones p.path p.boundary p.limits p.acc p.jerk))))
      (f c ∙ seen_scanned c (objectives p) ∙ ap (λ (x : Bool). x && finite_blocks (objective_blocks p c (objectives p))) (sym (root_scanned p.path (has_root p))))

  pub every_scanned : Sizes p.path → {a s o : Bool} → a ≡ all_finite (list (ab_cost p.path.grid (ends_of p) p.roots.start p.roots.end p.pool (objectives p)) 0 (2 * (n p.path + 1)))
      → s ≡ finite_cones (standard_cones p.path p.boundary p.limits p.acc p.jerk) → ((c : ℕ) → o ≡ finite_blocks (objective_blocks (seen p) c (objectives p)))
      → (a && (s && o)) ≡ every_finite p
  every_scanned z {a} {s} {o} e f g =
      let ab = list (ab_cost p.path.grid (ends_of p) p.roots.start p.roots.end p.pool (objectives p)) 0 (2 * (n p.path + 1)) in
      let cs = joined (λ b. b.cones) (blocks p) in
      let qs = joined (λ b. b.cost) (blocks p) in
      ap₂ (λ (x y : Bool). x && y) e (blocks_scanned f g ∙ sym (blocks_finite (blocks p)))
      ∙ swap (all_finite ab) (finite_cones cs) (all_finite qs)
      ∙ ap₂ (λ (x y : Bool). x && y) (sym numbers_scanned) (sym (all_append ab qs) ∙ ap all_finite (sym (cost_as_columns p z)))
    where
      swap : (x y z : Bool) → (x && (y && z)) ≡ (y && (x && z))
      swap false false z = refl
      swap false true z = refl
      swap true y z = refl
