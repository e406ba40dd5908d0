-- TotalVariationTorque's rows, of what a writer has.
use Rattle.std.specs.Prelude.{List, [], ◌∷◌, ℕ}
use Rattle.model.specs.Numbers.{+0}
use Rattle.model.specs.Program.{Band, Cone}
use Rattle.model.specs.Objectives.{end_torque_rows, step_torque_rows, torque_block}
use Rattle.buffers.specs.Paths.{path_of}
use Rattle.torque.specs.Tables.{tables_of}
use Rattle.torque.specs.declared.scaled_torque.ScaledTorque.{ScaledTorque}

abbrev pub first_bands : List Cone → List Band
first_bands [] = []
first_bands (c ∷ cs) = c.bands

module _ (x : ScaledTorque) where
  -- the bands of the block's one cone
  abbrev pub torque_bands : ℕ → List Band
  torque_bands c = first_bands (torque_block (path_of x.path) (tables_of x) +0 x.scales.now c).cones

  -- crate model's rows
  abbrev pub ends_of : ℕ → ℕ → ℕ → ℕ → List Band
  ends_of = end_torque_rows (path_of x.path) (tables_of x) x.scales.now

  abbrev pub steps_of : ℕ → ℕ → ℕ → List Band
  steps_of = step_torque_rows (path_of x.path) (tables_of x) x.scales.now
