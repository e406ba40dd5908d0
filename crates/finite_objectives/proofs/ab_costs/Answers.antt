use Rattle.std.proofs.Common.{arith, rules, tests, ◌∙◌, sym, ap}
use mathlib.Core.List.{List}
use Rattle.model.specs.Numbers.{finite, +0}
use Rattle.model.specs.Problem.{is_linear}
use Rattle.model.specs.Program.{Cell}
use Rattle.linear.specs.Charges.{charged_at}
use Rattle.linear.specs.Parts.{cost_in}
use Rattle.linear.proofs.Objectives.{none_charged}
use Rattle.finite_objectives.proofs.Costs.{ab_zero, ab_scanned}
use Rattle.finite_objectives.proofs.ab_costs.Goals as goal

pub returns-then-any_is : goal.returns-then-any_is
returns-then-any_is c =
    let costs = c.args.costs.now in
    let cost = cost_in costs.input costs.objectives.now in
    ab_scanned cost (c.every.ensures (λ k. finite (cost k)) (λ k b h l p. search rules)) (omega arith)

pub returns : goal.returns
returns c =
    let costs = c.args.costs.now in
    let a = costs.input in
    let none = none_charged a.path.grid.now a.path.ends a.roots.start.now a.roots.end.now a.pool.now costs.objectives.now
    (sym (c.any_is.ensures is_linear (λ o b p. search (rules, tests))) ∙ c.if-any_is.false) in
    ab_zero 0 _ (λ j. ap (λ (l : List Cell). charged_at +0 j l) (sym none))
