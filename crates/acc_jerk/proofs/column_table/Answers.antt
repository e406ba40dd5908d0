use Rattle.std.proofs.Common.{rules}
use Rattle.model.specs.Numbers.{at}
use Rattle.model.specs.Program.{cell}
use Rattle.acc_jerk.proofs.column_table.Goals as goal

pub returns : goal.returns
returns c = let a = c.args in c.fill.ensures (λ i. cell a.col.at (at a.numbers.now i)) (λ i p lt e. search rules)
