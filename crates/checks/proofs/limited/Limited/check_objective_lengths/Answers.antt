use Rattle.std.proofs.Common.{rules, tests, ◌≡◌, ◌∙◌}
use Rattle.model.specs.Problem.{objectives, some, is_thermal, is_torque, is_linear}
use Rattle.model.specs.Lent.{problem_of}
use Rattle.checks.proofs.Chain.{then_ok, then_err}
use Rattle.checks.proofs.limited.Limited.check_objective_lengths.Goals as goal

pub returns-in_err-check_torque : goal.returns-in_err-check_torque
returns-in_err-check_torque c =
    let p = problem_of c.args.self.problem.now in
    let thermal : c.any_is-thermal.result ≡ some is_thermal (objectives p) = c.any_is-thermal.ensures is_thermal (λ o b q. search (rules, tests)) ∙ rw c.listed-objectives.ensures in
    let torque : c.any_is.result ≡ some is_torque (objectives p) = c.any_is.ensures is_torque (λ o b q. search (rules, tests)) ∙ rw c.listed-objectives.ensures in
    then_err _ (c.check_torque.ensures ∙ rw (thermal, torque)) _ c.in_err-check_torque.was (search (rules, tests)) ∙ then_ok (c.check_table.ensures ∙ rw (thermal, c.stations.ensures)) c.in_ok-check_table.was

pub returns : goal.returns
returns c =
    let p = problem_of c.args.self.problem.now in
    let thermal : c.any_is-thermal.result ≡ some is_thermal (objectives p) = c.any_is-thermal.ensures is_thermal (λ o b q. search (rules, tests)) ∙ rw c.listed-objectives.ensures in
    let torque : c.any_is.result ≡ some is_torque (objectives p) = c.any_is.ensures is_torque (λ o b q. search (rules, tests)) ∙ rw c.listed-objectives.ensures in
    let linear : c.any_is-2.result ≡ some is_linear (objectives p) = c.any_is-2.ensures is_linear (λ o b q. search (rules, tests)) ∙ rw c.listed-objectives.ensures in
    (c.check_roots.ensures ∙ rw linear) ∙ then_ok (c.check_torque.ensures ∙ rw (thermal, torque)) c.in_ok-check_torque.was ∙ then_ok (c.check_table.ensures ∙ rw (thermal, c.stations.ensures)) c.in_ok-check_table.was
