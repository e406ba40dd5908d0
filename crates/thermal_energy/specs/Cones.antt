-- ThermalEnergy's cones and costs, of what a writer has.
use Rattle.std.specs.Prelude.{List, [], ◌∷◌, ℕ, Float, get_or}
use Rattle.std.specs.Float.Ieee.{neg}
use Rattle.std.specs.Float.{nan}
use Rattle.model.specs.Numbers.{◌⊕◌, +0, +1, −1}
use Rattle.model.specs.Program.{Cell, cell, Band, band, Cone}
use Rattle.model.specs.Problem.{Path, col_a, col_b}
use Rattle.model.specs.Objectives.{torque_a, torque_b, torque_g, thermal_cone, thermal_block}
use Rattle.buffers.specs.Paths.{path_of}
use Rattle.buffers.specs.Inputs.{torque_of}
use Rattle.torque.specs.Tables.{tables_of}
use Rattle.torque.specs.declared.scaled_torque.ScaledTorque.{ScaledTorque}

-- the first band of a cone, on the own column and a xi
abbrev pub first_band : ℕ → ℕ → Band
first_band own xi = band 2 (λ i. +0) ((λ i. cell own −1) ∷ (λ i. cell xi (get_or (−1 ∷ +1 ∷ []) i nan)) ∷ [])

module _ (x : ScaledTorque) where
  -- the columns of the second, on a and b of station k
  abbrev pub a_cell : ℕ → ℕ → Cell
  a_cell k i = cell (col_a (path_of x.path) k) (torque_a (path_of x.path) (tables_of x) x.scales.now k i)

  abbrev pub b_cell : ℕ → ℕ → Cell
  b_cell k i = cell (col_b (path_of x.path) k) (torque_b (path_of x.path) (tables_of x) x.scales.now k i)

  abbrev pub joint_columns : ℕ → List (ℕ → Cell)
  joint_columns k = a_cell k ∷ b_cell k ∷ []

  -- a scaled number of table 13
  abbrev pub gravity : ℕ → ℕ → Float
  gravity = torque_g (path_of x.path) (tables_of x) x.scales.now

  -- the cone with the right sides g, of a positive end with the moving station k and the resting station z, and of a moving station k
  abbrev pub cone_with : ℕ → ℕ → ℕ → (ℕ → Float) → Cone
  cone_with = thermal_cone (path_of x.path) (tables_of x) x.scales.now

  abbrev pub end_cone : ℕ → ℕ → ℕ → ℕ → Cone
  end_cone own j k z = cone_with own j k (λ i. neg (gravity k i ⊕ gravity z i))

  abbrev pub moving_cone : ℕ → ℕ → ℕ → Cone
  moving_cone own j k = cone_with own j k (λ i. neg (gravity k i))

  -- the block's cones
  abbrev pub thermal_cones : ℕ → List Cone
  thermal_cones c = (thermal_block (path_of x.path) (tables_of x) [] +0 x.scales.now c).cones

-- the costs of its columns
abbrev pub thermal_costs : Path → List Float → Float → List Float
thermal_costs q weights w = (thermal_block q (torque_of 0 [] [] []) weights w [] 0).cost
