-- The cost of an assembled program: the cost of the a and b columns with all objectives, then each block's own columns.
use mathlib.Core.Path.{◌≡◌, refl, ap, ◌∙◌}
use mathlib.Core.Bool.{Bool, true, false, cond}
use mathlib.Core.List.{List, [], ◌∷◌, ◌++◌}
use Prim.Native.Nat.{ℕ, ◌+◌, ◌*◌}
use native.Mathlib.Omega.{arith}
use lib.Ieee.{Float, nan}
use lib.ListN.{replicate, length-replicate, get_or-replicate}
use Rattle.model.specs.Numbers.{at, +0}
use Rattle.model.specs.Lists.{list, joined}
use Rattle.model.specs.Problem.{Problem, objectives, has_root, n}
use Rattle.model.specs.Program.{Cell, nothing}
use Rattle.model.specs.Standard.{standard, root, root_stage}
use Rattle.model.specs.Objectives.{time_block, thermal_block, torque_block, objective_block}
use Rattle.model.specs.Assembled.{width, blocks, objective_blocks, cost}
use Rattle.model.specs.declared.Ends.{Ends}
use Rattle.model.specs.declared.Objective.{Objective}
use Rattle.model.specs.declared.Objective.TheVariants.{Time, ThermalEnergy, TotalVariationTorque, Linear}
use Rattle.model.proofs.Costs.{all_charges, cost_parts}
use Rattle.model.proofs.Sizes.{Sizes}
use Rattle.linear.specs.Charges.{charged_at, charges_of, ab_cost}
use Rattle.model.proofs.Sums.{list_cong}
use Rattle.linear.proofs.Columns.{charged_columns}

module _ (p : Problem) where
  -- the stationary counts, as the code has them
  abbrev pub ends_of : Ends
  ends_of = record { n0 = p.path.N0; n1 = p.path.N1 }

  -- what an objective of the problem charges
  abbrev pub charges_in : Objective → List Cell
  charges_in = charges_of p.path.grid ends_of p.roots.start p.roots.end p.pool

  block_charges : (c : ℕ) (o : Objective) → (objective_block p c o).charges ≡ charges_in o
  unfolding objective_block time_block thermal_block torque_block
  block_charges c (Time w) = refl
  block_charges c (ThermalEnergy w a al) = refl
  block_charges c (TotalVariationTorque w a al) = refl
  block_charges c (Linear w a al b bl) = refl

  objectives_charges : (c : ℕ) (os : List Objective) → joined (λ b. b.charges) (objective_blocks p c os) ≡ joined charges_in os
  unfolding objective_blocks
  objectives_charges c [] = refl
  objectives_charges c (o ∷ os) =
      ap (λ (l : List Cell). l ++ joined (λ b. b.charges) (objective_blocks p (c + width (objective_block p c o)) os)) (block_charges c o)
      ∙ ap (λ (l : List Cell). charges_in o ++ l) (objectives_charges (c + width (objective_block p c o)) os)

  root_none : (b : Bool) → (cond b (root_stage p.path) nothing).charges ≡ []
  unfolding root_stage
  root_none true = refl
  root_none false = refl

  root_charges : (root p).charges ≡ []
  unfolding root
  root_charges = root_none (has_root p)

  -- the blocks charge what the objectives charge
  pub blocks_charges : joined (λ b. b.charges) (blocks p) ≡ joined charges_in (objectives p)
  unfolding blocks standard
  blocks_charges =
      ap (λ (l : List Cell). l ++ joined (λ b. b.charges) (objective_blocks p (2 * (n p.path + 1) + width (root p)) (objectives p))) root_charges
      ∙ objectives_charges (2 * (n p.path + 1) + width (root p)) (objectives p)

  -- So the cost is written whole by writing the a and b columns first, and then each block's own.
  pub cost_as_columns : Sizes p.path
      → cost p ≡ list (ab_cost p.path.grid ends_of p.roots.start p.roots.end p.pool (objectives p)) 0 (2 * (n p.path + 1)) ++ joined (λ b. b.cost) (blocks p)
  cost_as_columns z =
      let w : ℕ = 2 * (n p.path + 1) in
      let q : List Float = replicate w +0 in
      let cs : List Cell = all_charges (blocks p) in
      cost_parts p z
      ∙ ap (λ (l : List Float). l ++ joined (λ b. b.cost) (blocks p))
      (charged_columns q cs
      ∙ ap (list (λ c. charged_at (at q c) c cs) 0) (length-replicate w +0)
      ∙ list_cong (λ c. charged_at (at q c) c cs) (λ c. charged_at +0 c (joined charges_in (objectives p))) 0 w
      (λ c a l. ap (λ (x : Float). charged_at x c cs) (get_or-replicate w c +0 nan (omega arith)) ∙ ap (charged_at +0 c) blocks_charges))
