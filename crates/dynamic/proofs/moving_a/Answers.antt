use Rattle.std.proofs.Common.{rules, ◌+◌}
use Rattle.model.specs.Program.{cell}
use Rattle.dynamic.proofs.moving_a.Goals as goal

pub returns : goal.returns
returns c = rw (← c.moving.ensures) (c.fill.ensures (λ i. cell (c.args.from + i) c.args.v) (λ i p lt e. search rules))
