-- The cones of the standard block, of what was lent.
use Rattle.std.specs.Prelude.{List}
use Rattle.model.specs.Program.{Cone}
use Rattle.buffers.specs.Paths.{path_of}
use Rattle.first_order.specs.Limits.{limits}
use Rattle.acc_jerk.specs.Tables.{acc_of, jerk_of}
use Rattle.standard.specs.Block.{standard_cones}
use Rattle.standard.specs.declared.input.StandardInput.{StandardInput}

abbrev pub cones_of : StandardInput → List Cone
cones_of x = standard_cones (path_of x.path) x.boundary (limits x.start x.end x.amax.now) (acc_of x.acceleration) (jerk_of x.jerk)
