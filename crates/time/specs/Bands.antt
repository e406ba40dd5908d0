-- The bands of one Time cone.
use Rattle.std.specs.Prelude.{List, ℕ}
use Rattle.model.specs.Problem.{Path}
use Rattle.model.specs.Program.{Band}
use Rattle.model.specs.Objectives.{time_cone}

abbrev pub time_bands : Path → ℕ → ℕ → List Band
time_bands q c j = (time_cone q c j).bands
