use Rattle.std.proofs.Common.{arith, ℕ, ◌+◌, length}
use mathlib.Core.Path.{ap, ◌∙◌}
use Rattle.model.specs.Lists.{list}
use Rattle.model.specs.Program.{positive_row}
use Rattle.model.specs.Objectives.{time_block}
use Rattle.buffers.proofs.Laws.{wrote_as, wrote_most, closes, closed_then, builds}
use Rattle.buffers.proofs.Blocks.{list_from}
use Rattle.columns.proofs.Xi.{at_most_xi}
use Rattle.time.proofs.clarabel_objective_time_copp3.Goals as goal

pub returns : goal.returns
unfolding time_block
returns c =
    let f = c.args.t.columns.at in
    let h = at_most_xi c.args.path.grid.now c.args.path.ends c.length_xi-count.ensures in
    let rows = wrote_as (wrote_most c.positive-u.ensures {c = length c.args.path.grid.now} (omega (arith, h)))
    (list_from positive_row f c.length_xi-count.result ∙ ap (λ (z : ℕ). list (λ j. positive_row (f + j)) 0 z) c.length_xi-count.ensures) in
    let costs = c.time_costs.ensures in
    builds (closed_then (closes rows c.close_cone-v.ensures (omega arith) (omega arith)) c.time_cones-x.ensures) costs.costs costs.columns (omega arith) (omega (arith, h, c.length_xi-count.ensures))
