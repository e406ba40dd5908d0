-- "Cone kinds are 0 zero, 1 nonnegative, 2 second-order": every cone of a program has one of the three, so a byte holds it.
use Prim.Native.Nat.{ℕ, ◌+◌, ◌<◌}
use native.Mathlib.Omega.{arith}
use mathlib.Core.Bool.{Bool, true, false, cond}
use mathlib.Core.List.{List, [], ◌∷◌}
use Rattle.model.specs.Problem.{Problem, L, has_root}
use Rattle.model.specs.Program.{Cone, nothing}
use Rattle.model.specs.Standard.{standard, root, root_stage, root_cone}
use Rattle.model.specs.Objectives.{objective_block, time_block, time_cone, thermal_block, thermal_cone, torque_block, linear_block}
use Rattle.model.specs.Assembled.{cones, blocks, objective_blocks, width, cone_kinds}
use Rattle.model.specs.declared.Objective.{Objective}
use Rattle.model.specs.declared.Objective.TheVariants.{Time, ThermalEnergy, TotalVariationTorque, Linear}
use Rattle.model.proofs.All.{All, all_append, all_given, all_list, all_map, all_joined}

abbrev pub Known : Cone → Type 0
Known c = c.kind < 3

module _ (p : Problem) where
  objective_known : (c : ℕ) (o : Objective) → All Known (objective_block p c o).cones
  unfolding objective_block time_block time_cone thermal_block thermal_cone torque_block linear_block
  objective_known c (Time w) = (omega arith, (all_list Known (time_cone p.path c) 0 (L p.path)).1 (λ i a b. omega arith))
  objective_known c (ThermalEnergy w s l) = simp (all_append Known, all_given Known, all_list Known) (((λ e. (omega arith, tt)), λ e. (omega arith, tt)), λ i a b. omega arith)
  objective_known c (TotalVariationTorque w s l) = (omega arith, tt)
  objective_known c (Linear w a al b bl) = tt

  objectives_known : (c : ℕ) (os : List Objective) → All (λ b. All Known b.cones) (objective_blocks p c os)
  unfolding objective_blocks
  objectives_known c [] = tt
  objectives_known c (o ∷ os) = (objective_known c o, objectives_known (c + width (objective_block p c o)) os)

  root_known : All Known (root p).cones
  unfolding root root_stage root_cone
  root_known = go (has_root p)
    where
      go : (b : Bool) → All Known (cond b (root_stage p.path) nothing).cones
      go true = (omega arith, (all_list Known (root_cone p.path) 0 (L p.path)).1 (λ i a b. omega arith))
      go false = tt

  standard_known : All Known (standard p).cones
  unfolding standard
  standard_known = (omega arith, (omega arith, tt))

  pub cones_known : All Known (cones p)
  unfolding cones blocks
  cones_known = (all_joined Known (λ b. b.cones) (blocks p)).1 (standard_known, (root_known, objectives_known _ _))

  pub kinds_known : All (λ (k : ℕ). k < 3) (cone_kinds p)
  unfolding cone_kinds
  kinds_known = (all_map (λ (k : ℕ). k < 3) (λ (c : Cone). c.kind) (cones p)).1 cones_known
