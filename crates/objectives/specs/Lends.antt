-- What the objectives' writer is lent, as a problem.
use Rattle.model.specs.Problem.{Problem}
use Rattle.buffers.specs.Inputs.{torque_of}
use Rattle.buffers.specs.Paths.{path_of}
use Rattle.objectives.specs.Input.{lends}
use Rattle.objectives.specs.declared.input.ObjectiveInput.{ObjectiveInput}

abbrev pub lends_of : ObjectiveInput → Problem
lends_of x = lends (path_of x.path) x.thermal.now (torque_of x.d x.torque.a.now x.torque.b.now x.torque.g.now) x.pool.now
