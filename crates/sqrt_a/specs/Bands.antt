-- The bands of one root cone.
use Rattle.std.specs.Prelude.{List, ℕ}
use Rattle.model.specs.Problem.{Path}
use Rattle.model.specs.Program.{Band}
use Rattle.model.specs.Standard.{root_cone}

abbrev pub root_bands : Path → ℕ → List Band
root_bands q j = (root_cone q j).bands
