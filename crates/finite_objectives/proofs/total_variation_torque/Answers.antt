use Rattle.std.proofs.Common.{arith, rules, ◌∙◌}
use Rattle.buffers.specs.Paths.{path_of}
use Rattle.torque.specs.Tables.{tables_of}
use Rattle.finiteness.specs.Finite.{each}
use Rattle.finite_objectives.specs.Tests.{step_test}
use Rattle.finite_objectives.proofs.Torque.{torque_scanned, own_columns}
use Rattle.finite_objectives.proofs.total_variation_torque.Goals as goal

pub returns : goal.returns
returns c = λ k.
    let x = c.args.torque in
    let q = path_of x.path in
    let f = c.first_end.ensures in
    let l = c.last_end.ensures in
    let start = rw (f.torque, f.count, f.moving, f.resting) at c.end_joints-start.ensures in
    let end = rw (l.torque, l.count, l.moving, l.resting) at c.end_joints-end.ensures in
    let steps = rw c.moving.ensures at c.every-steps.ensures (λ j. each (step_test (tables_of x) x.scales.now j) 0 x.d) (λ j b h l p. search rules) in
    rw (← c.both.ensures, ← c.both-2.ensures) c.both-3.ensures
    ∙ torque_scanned q (tables_of x) x.scales.now c.args.weight k (own_columns q x.d (omega (arith, x.given)) (omega (arith, x.given))) start end steps c.is_finite.ensures
