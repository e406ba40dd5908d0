use Rattle.std.proofs.Common.{arith, ◌∙◌, sym, ap, subst, List, All}
use Rattle.std.proofs.lemmas.List.Elements.{All-filter}
use Rattle.model.specs.Lists.{joined}
use Rattle.model.specs.Numbers.{+0}
use Rattle.model.specs.Problem.{is_linear}
use Rattle.model.specs.Program.{Cell}
use Rattle.model.specs.declared.Objective.{Objective}
use Rattle.linear.specs.Charges.{Charged}
use Rattle.linear.specs.Parts.{FitsIn, charges_in}
use Rattle.linear.proofs.Objectives.{linears_charge}
use Rattle.linear.proofs.linears.Linears.column_cost.Goals as goal

pub charged-requires : goal.charged-requires
charged-requires c =
    let costs = c.args.costs.now in
    let e = c.requires (omega (arith, c.if-costs-gt16.false)) in
    subst (λ (l : List Objective). All (FitsIn costs.input) l) (sym e) (All-filter is_linear (FitsIn costs.input) costs.objectives.now costs.fit)

pub returns : goal.returns
returns c =
    let costs = c.args.costs.now in
    let a = costs.input in
    let e = c.requires (omega (arith, c.if-costs-gt16.false)) in
    subst (λ (l : List Cell). Charged c.charged.result +0 c.args.c.at l)
    (ap (λ (os : List Objective). joined (charges_in a) os) e ∙ linears_charge a.path.grid.now a.path.ends a.roots.start.now a.roots.end.now a.pool.now costs.objectives.now)
    c.charged.ensures
