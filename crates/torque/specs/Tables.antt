-- Tables 11 to 13 with the number of joints, of what a torque objective is written from.
use Rattle.model.specs.Problem.{Torque}
use Rattle.buffers.specs.Inputs.{torque_of}
use Rattle.torque.specs.declared.scaled_torque.ScaledTorque.{ScaledTorque}

abbrev pub tables_of : ScaledTorque → Torque
tables_of x = torque_of x.d x.tables.a.now x.tables.b.now x.tables.g.now
