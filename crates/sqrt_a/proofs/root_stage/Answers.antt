use Rattle.std.proofs.Common.{arith, rules, ℕ, ◌+◌, ◌-◌, ◌*◌, length}
use mathlib.Core.Path.{ap, ◌∙◌}
use native.Mathlib.Nat.{add-zero}
use lib.ListN.{replicate}
use Rattle.model.specs.Numbers.{+0}
use Rattle.model.specs.Lists.{list}
use Rattle.model.specs.Program.{positive_row}
use Rattle.model.specs.Standard.{root_stage}
use Rattle.buffers.proofs.Laws.{wrote_as, wrote_most, closes, closed_then, builds, list_same}
use Rattle.buffers.proofs.Blocks.{list_from, builds_cost}
use Rattle.columns.proofs.Xi.{at_most_xi}
use Rattle.sqrt_a.proofs.root_stage.Goals as goal

pub returns : goal.returns
unfolding root_stage
returns c =
    let k = c.length_xi-count.result in
    let f = 2 * (length c.args.path.grid.now - 1 + 1) in
    let h = at_most_xi c.args.path.grid.now c.args.path.ends c.length_xi-count.ensures in
    let rows = wrote_as (wrote_most c.positive-u.ensures {c = length c.args.path.grid.now} (omega (arith, h)))
    (ap (λ (z : ℕ). list positive_row z k) (c.column_xi-first.ensures ∙ add-zero f) ∙ list_from positive_row f k ∙ ap (λ (z : ℕ). list (λ j. positive_row (f + j)) 0 z) c.length_xi-count.ensures) in
    let costs = c.fill_cost.ensures (λ i. +0) (λ i x lt e. search rules) in
    builds_cost
    (builds (closed_then (closes rows c.close_cone-v.ensures (omega arith) (omega arith)) c.root_cones-w.ensures) costs.costs costs.columns (omega arith) (omega (arith, h)))
    (list_same +0 0 k ∙ ap (λ (z : ℕ). replicate z +0) c.length_xi-count.ensures)
