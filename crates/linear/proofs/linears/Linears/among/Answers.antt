use Rattle.std.proofs.Common.{rules, arith, refl, ◌∙◌, ap, filter, List}
use Rattle.std.proofs.lemmas.List.{take_more, take_all}
use Rattle.std.proofs.lemmas.List.Elements.{All-get_or}
use Rattle.model.specs.Problem.{is_linear}
use Rattle.model.specs.declared.Objective.{Objective}
use Rattle.linear.specs.Charges.{Long}
use Rattle.linear.proofs.Gathering.{gathered_none, gathered_more, gathered_past, gathered_full, not_linear}
use Rattle.linear.proofs.linears.Linears.among.Goals as goal
use Rattle.linear.proofs.linears.Linears.among.Goals.{in-Linear+then-count-lt16, in-Linear+else-count-lt16, in_default}

pub loop-o-init : goal.loop-o-init
loop-o-init c = (search rules, gathered_none refl)

pub loop-o-preserved : goal.loop-o-preserved
loop-o-preserved c =
    let os = c.args.objectives.now in
    let i = c.loop-o.o-index in
    let before = c.loop-o.invariant.1 in (
      search rules,
      elim c.match-o.branch [
        | in-Linear+then-count-lt16 w ↦ rw (w.kept-is, w.count-is)
            (gathered_more _ _ w.in-Linear.alpha_len w.in-Linear.beta_len before (take_more os i _ c.loop-o-test.true) (λ l f. All-get_or (Long l) os i _ c.loop-o-test.true f) w.in-Linear.is w.if-count-lt16.true)
        | in-Linear+else-count-lt16 w ↦ rw (w.kept-is, w.count-is) (gathered_full before w.if-count-lt16.false)
        | in_default w ↦ rw (w.kept-is, w.count-is) (gathered_past _ before (take_more os i _ c.loop-o-test.true) (not_linear _ w.in_default.not-Linear))
      ],
    )

pub invariant_of-result : goal.invariant_of-result
invariant_of-result c = record { within = c.loop-o.invariant.1.within }

pub returns : goal.returns
returns c =
    let os = c.args.objectives.now in
    let all = c.loop-o.invariant.1 in (
      omega (arith, all.fewer, c.loop-o.auto.o-index-end),
      λ l m f. all.says l (omega (arith, m, c.loop-o.auto.o-index-end)) f ∙ ap (λ (xs : List Objective). filter is_linear xs) (take_all c.loop-o.o-index os (search rules)),
    )
