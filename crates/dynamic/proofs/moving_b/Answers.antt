use Rattle.std.proofs.Common.{rules, ◌+◌}
use Rattle.model.specs.Problem.{col_b, spacing}
use Rattle.model.specs.Program.{cell}
use Rattle.buffers.specs.Paths.{path_of}
use Rattle.dynamic.proofs.moving_b.Goals as goal

pub returns : goal.returns
returns c = rw (← c.moving.ensures) (c.fill.ensures (λ i. cell (col_b (path_of c.args.path) (c.args.from + i)) (spacing (path_of c.args.path) (c.args.path.ends.n0 + i))) (λ i p lt e. search rules))
