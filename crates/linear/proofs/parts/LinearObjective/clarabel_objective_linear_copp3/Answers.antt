use Rattle.std.proofs.Common.{arith, ℕ, ◌+◌, ◌-◌, length, ◌∙◌}
use native.Mathlib.Nat.{add-zero}
use lib.Ieee.{Float}
use mathlib.Core.List.{List}
use mathlib.Core.Path.{refl}
use Rattle.model.specs.Numbers.{at, ◌⊗◌}
use Rattle.model.specs.Problem.{m}
use Rattle.model.specs.Objectives.{linear_block, end_charge}
use Rattle.buffers.specs.Paths.{path_of}
use Rattle.linear.proofs.Charges.{charged_then, from_none, from_column, end_at}
use Rattle.linear.proofs.parts.LinearObjective.clarabel_objective_linear_copp3.Goals as goal

pub returns : goal.returns
unfolding linear_block
returns c =
    let o = c.args.self in
    let ends = o.path.ends in
    let moving = m (path_of o.path) + 1 in
    let end : List Float → ℕ → ℕ → ℕ → Float = λ r e z k. end_charge (path_of o.path) o.weight o.alpha.now o.beta.now e z r k in
    let from_alpha : ℕ → Float = λ k. o.weight ⊗ at o.alpha.now k in
    let from_beta : ℕ → Float = λ k. o.weight ⊗ at o.beta.now k in
    charged_then (charged_then (charged_then (end_at (end o.roots.start.now) refl refl (omega arith) c.part-y.ensures) (end_at (end o.roots.end.now) c.stop.ensures c.last.ensures (omega arith) c.part-z.ensures))
    (from_none from_alpha ends.n0 moving (from_column from_alpha ends.n0 moving c.column_a-a.ensures c.list_part-v.ensures)))
    (from_column from_beta ends.n0 moving (c.column_b-b.ensures ∙ add-zero (length o.path.grid.now - 1 + 1)) c.list_part.ensures)
