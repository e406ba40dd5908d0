use Rattle.std.proofs.Common.{arith, rules, tests, ◌≡◌, ◌∙◌, sym, ap}
use mathlib.Core.List.{List}
use Rattle.model.specs.Numbers.{+0}
use Rattle.model.specs.Problem.{is_linear}
use Rattle.model.specs.Program.{Cell}
use Rattle.buffers.proofs.Laws.{cost_all}
use Rattle.linear.specs.Charges.{charged_at}
use Rattle.linear.specs.Parts.{cost_in}
use Rattle.linear.proofs.Objectives.{none_charged}
use Rattle.linear.proofs.ab_costs.Goals as goal

pub returns-then-any_is : goal.returns-then-any_is
returns-then-any_is c =
    let costs = c.args.costs.now in
    cost_all (c.fill_cost.ensures (cost_in costs.input costs.objectives.now) (λ i x lt e. search rules)) (omega arith) (omega arith)

pub returns : goal.returns
returns c =
    let costs = c.args.costs.now in
    let a = costs.input in
    let none = none_charged a.path.grid.now a.path.ends a.roots.start.now a.roots.end.now a.pool.now costs.objectives.now
    (sym (c.any_is.ensures is_linear (λ o b p. search (rules, tests))) ∙ c.if-any_is.false) in
    cost_all (c.fill_cost-2.ensures (cost_in a costs.objectives.now) (λ i x lt e. let zero : x ≡ +0 = search rules in zero ∙ ap (λ (l : List Cell). charged_at +0 i l) (sym none))) (omega arith) (omega arith)
