use Rattle.std.proofs.Common.{arith}
use Rattle.objectives.proofs.Blocks.{builds_most}
use Rattle.blocks.proofs.Halves.{cost_then_cones}
use Rattle.blocks.proofs.standard_block.Goals as goal

pub returns : goal.returns
returns c =
    let l = c.linear_in.ensures in
    let s = c.standard_in.ensures in
    let cost = rw (l.grid, l.ends, l.start, l.end, l.pool, l.objectives) at c.linear.ensures in
    let cones = rw (s.grid, s.ends, s.boundary, s.start, s.end, s.amax, s.acceleration, s.jerk) at c.standard_rows.ensures in
    builds_most (cost_then_cones cost cones) (omega (arith, c.requires.1))
