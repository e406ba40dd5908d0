use Rattle.std.proofs.Common.{arith, ◌∙◌, ◌+◌, ap, ℕ}
use Rattle.model.specs.Lists.{list}
use Rattle.model.specs.Problem.{ends, skip, L}
use Rattle.model.specs.Objectives.{thermal_block}
use Rattle.buffers.specs.Paths.{path_of}
use Rattle.buffers.proofs.Laws.{closed_then, closed_most}
use Rattle.thermal_energy.specs.Cones.{moving_cone}
use Rattle.thermal_energy.proofs.Facts.{closed_as}
use Rattle.thermal_energy.proofs.cones.Goals as goal

-- a cone adds no column, so the moving ones' own columns are told from the first
pub returns : goal.returns
unfolding thermal_block
returns c =
    let x = c.args.torque in
    let q = path_of x.path in
    let f = c.first_end.ensures in
    let l = c.last_end.ensures in
    let u = rw (f.torque, f.count, f.moving, f.resting) at c.end_part-u.ensures in
    let v = rw (l.torque, l.count, l.moving, l.resting, c.min.ensures, c.length_xi.ensures) at c.end_part-v.ensures in
    let moving = closed_as c.moving_cones.ensures (ap (λ (k : ℕ). list (λ j. moving_cone x (k + ends q + j) j (skip q + j)) 0 (L q)) (v.steps.columns ∙ u.steps.columns)) in
    closed_most (closed_then (closed_then u v) moving) (omega arith)
