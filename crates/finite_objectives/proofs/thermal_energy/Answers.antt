use Rattle.std.proofs.Common.{rules, ◌∙◌}
use Rattle.model.specs.Problem.{skip}
use Rattle.buffers.specs.Paths.{path_of}
use Rattle.torque.specs.Tables.{tables_of}
use Rattle.finite_objectives.specs.Tests.{thermal_at}
use Rattle.finite_objectives.proofs.Torque.{thermal_scanned}
use Rattle.finite_objectives.proofs.thermal_energy.Goals as goal

pub returns : goal.returns
unfolding skip
returns c = λ k.
    let o = c.args.objective in
    let x = o.torque in
    let ws = o.thermal.now in
    let w = o.weight in
    let f = c.first_end.ensures in
    let l = c.last_end.ensures in
    let start = rw (f.torque, f.count, f.moving, f.resting, c.weighted.ensures) at c.thermal_end-start.ensures in
    let end = rw (l.torque, l.count, l.moving, l.resting, c.weighted-2.ensures, c.last.ensures) at c.thermal_end-end.ensures in
    let moving = rw (c.first_xi.ensures, c.length_xi.ensures) at c.every-moving.ensures (thermal_at (tables_of x) x.scales.now ws w) (λ j b h l p. search rules) in
    rw (← c.both.ensures) c.both-2.ensures ∙ thermal_scanned (path_of x.path) (tables_of x) ws w x.scales.now k start end moving
