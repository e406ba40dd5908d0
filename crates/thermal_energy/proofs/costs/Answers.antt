use Rattle.std.proofs.Common.{arith, rules, ◌+◌}
use Rattle.model.specs.Numbers.{at, ◌⊗◌, +4}
use Rattle.model.specs.Problem.{n, L, ends, skip}
use Rattle.model.specs.Objectives.{thermal_block}
use Rattle.buffers.specs.Paths.{path_of}
use Rattle.buffers.proofs.Laws.{costs_then}
use Rattle.buffers.proofs.Blocks.{costs_as}
use Rattle.thermal_energy.proofs.Facts.{flag_lists}
use Rattle.thermal_energy.proofs.costs.Goals as goal

pub fill_cost-v-requires-clause-room : goal.fill_cost-v-requires-clause-room
fill_cost-v-requires-clause-room c =
    let u = c.fill_cost-u.ensures (λ i. c.weighted-start.result) (λ i x lt e. search rules) in
    omega (arith, u.columns)

pub fill_cost-requires-clause-room : goal.fill_cost-requires-clause-room
unfolding L
fill_cost-requires-clause-room c =
    let u = c.fill_cost-u.ensures (λ i. c.weighted-start.result) (λ i x lt e. search rules) in
    let v = c.fill_cost-v.ensures (λ i. c.weighted-end.result) (λ i x lt e. search rules) in
    omega (arith, u.columns, v.columns)

pub returns : goal.returns
unfolding thermal_block ends L skip
returns c =
    let q = path_of c.args.objective.torque.path in
    let w = c.args.objective.weight in
    let ws = c.args.objective.thermal.now in
    let u = rw c.min.ensures at c.fill_cost-u.ensures (λ i. w ⊗ at ws 0) (λ i x lt e. search rules) in
    let v = rw c.min-2.ensures at c.fill_cost-v.ensures (λ i. w ⊗ at ws (n q)) (λ i x lt e. search rules) in
    let rest = rw c.length_xi-count.ensures at c.fill_cost.ensures (λ j. +4 ⊗ w ⊗ at ws (skip q + j)) (λ j x lt e. search rules) in
    (costs_as (costs_then (costs_then u.costs v.costs) rest.costs) (flag_lists c.args.objective.torque.path.ends.n0 c.args.objective.torque.path.ends.n1 _ _ _), omega (arith, u.columns, v.columns, rest.columns))
