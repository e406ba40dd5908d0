use Rattle.std.proofs.Common.{arith, rules}
use Rattle.buffers.proofs.Laws.{columns_none, columns_cons}
use Rattle.thermal_energy.specs.Cones.{a_cell, b_cell}
use Rattle.thermal_energy.proofs.joint_columns.Goals as goal

pub fill-requires-clause-room : goal.fill-requires-clause-room
fill-requires-clause-room c =
    let u = c.fill-u.ensures (a_cell c.args.station.torque c.args.station.k) (λ i p lt e. search rules) in
    omega (arith, u.entries, c.args.station.torque.given)

pub returns : goal.returns
returns c =
    let u = c.fill-u.ensures (a_cell c.args.station.torque c.args.station.k) (λ i p lt e. search rules) in
    let v = c.fill.ensures (b_cell c.args.station.torque c.args.station.k) (λ i p lt e. search rules) in
    columns_cons u (columns_cons v columns_none)
