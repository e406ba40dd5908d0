use Rattle.std.proofs.Common.{arith, rules}
use mathlib.Core.Path.{sym, ◌∙◌}
use Rattle.std.proofs.lemmas.List.{length-take}
use Rattle.model.specs.Lent.{problem_of}
use Rattle.model.proofs.Usable.{usable}
use Rattle.checks.proofs.Chain.{then_err}
use Rattle.sizing.proofs.Answers.{fits}
use Rattle.passes.proofs.Landed.{passed}
use Rattle.assembly.proofs.verdict.Goals as goal

pub returns-in_err-check : goal.returns-in_err-check
returns-in_err-check c = then_err _ c.check.ensures _ c.in_err-check.was (search rules)

pub count-counts-requires : goal.count-counts-requires
count-counts-requires c = fits _ c.check.ensures c.in_ok-check.was

pub every_number-finite-requires : goal.every_number-finite-requires
every_number-finite-requires c = sym c.check.ensures ∙ c.in_ok-check.was

pub room_and_finite-requires : goal.room_and_finite-requires
room_and_finite-requires c = (usable _ (sym c.check.ensures ∙ c.in_ok-check.was)).count.1

pub returns : goal.returns
returns c =
    let a = c.args in
    let p = problem_of a.problem.now in
    let e = c.check.ensures in
    let f = c.in_ok-check.was in
    passed p a.lengths a.long e f c.count-counts.ensures.lent (omega (arith, length-take a.problem.now.job.count a.problem.now.objectives, (usable p (sym e ∙ f)).count.1, c.well_formed)) c.every_number-finite.ensures c.room_and_finite.ensures
