use Rattle.std.proofs.Common.{arith, rules, length}
use Rattle.model.specs.Numbers.{at, ◌⊗◌}
use Rattle.model.specs.Problem.{m, stop}
use Rattle.linear.proofs.Charges.{list_before, list_behind, list_here}
use Rattle.linear.proofs.parts.LinearObjective.list_part.Goals as goal

pub returns-then-c-first : goal.returns-then-c-first
unfolding m
returns-then-c-first c =
    let o = c.args.self in
    list_before (λ k. o.weight ⊗ at c.args.table.now k) c.args.first.at (length o.path.grid.now) o.path.ends.n0 o.path.ends.n1 c.if-c-first.true

pub returns-then-first-stop : goal.returns-then-first-stop
unfolding m stop
returns-then-first-stop c =
    let o = c.args.self in
    list_behind (λ k. o.weight ⊗ at c.args.table.now k) c.args.first.at (length o.path.grid.now) o.path.ends.n0 o.path.ends.n1 (search rules) (omega arith)

pub returns : goal.returns
unfolding m stop
returns c =
    let o = c.args.self in
    rw c.weighted.ensures (list_here (λ k. o.weight ⊗ at c.args.table.now k) c.args.first.at (length o.path.grid.now) o.path.ends.n0 o.path.ends.n1 (search rules) (omega arith) (omega arith))
