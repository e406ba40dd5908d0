use Rattle.std.proofs.Common.{arith, ◌∙◌, ◌+◌, ◌*◌, ap, ℕ}
use Rattle.model.specs.Lists.{over}
use Rattle.model.specs.Problem.{ends, m}
use Rattle.model.specs.Objectives.{torque_block}
use Rattle.buffers.specs.Paths.{path_of}
use Rattle.buffers.proofs.Laws.{wrote_then, wrote_as, wrote_most}
use Rattle.tv_torque.specs.Rows.{steps_of}
use Rattle.tv_torque.proofs.bands.Goals as goal

-- a row adds no column, so the steps' own columns are told from the first
pub returns : goal.returns
unfolding torque_block
returns c =
    let x = c.args.torque in
    let q = path_of x.path in
    let f = c.first_end.ensures in
    let l = c.last_end.ensures in
    let u = rw (f.torque, f.count, f.moving, f.resting) at c.end_part-u.ensures in
    let v = rw (l.torque, l.count, l.moving, l.resting, c.min.ensures) at c.end_part-v.ensures in
    let steps = wrote_as c.steps.ensures (ap (λ (k : ℕ). over (λ j. over (steps_of x (k + x.d * (ends q + j)) (x.path.ends.n0 + j)) 0 x.d) 0 (m q)) (v.moves.columns ∙ u.moves.columns)) in
    wrote_most (wrote_then (wrote_then u v) steps) (omega arith)
