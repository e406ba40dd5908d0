use Rattle.std.proofs.Common.{arith, rules, ◌+◌, ◌*◌, replicate, ◌∙◌}
use Rattle.model.specs.Objectives.{torque_block}
use Rattle.model.specs.Problem.{ends, m}
use Rattle.buffers.proofs.Laws.{closes, builds, list_same}
use Rattle.buffers.proofs.Blocks.{builds_cost}
use Rattle.torque.proofs.Facts.{at_most}
use Rattle.tv_torque.proofs.clarabel_objective_tv_torque_copp3.Goals as goal

pub returns : goal.returns
unfolding torque_block ends m
returns c =
    let costs = c.fill_cost.ensures (λ i. c.args.weight) (λ i x lt e. search rules) in
    let few = at_most c.args.torque.d (c.positive_ends.result + c.moving.result) (omega (arith, c.args.torque.given)) in
    builds_cost
    (builds (closes c.bands-u.ensures c.close_cone-v.ensures (omega (arith, c.bands-u.ensures.moves)) (omega arith)) costs.costs costs.columns (omega arith) (omega (arith, few, c.requires)))
    (list_same c.args.weight 0 _ ∙ λ i. replicate (c.args.torque.d * (c.positive_ends.ensures i + c.moving.ensures i)) c.args.weight)
