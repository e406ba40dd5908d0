use Rattle.ledger_cases.proofs.Given.{answered}
use Rattle.ledger_cases.proofs.answer.Goals as goal

pub returns : goal.returns
returns c =
    answered _ c.requires
    c.job_of.ensures
    c.first.ensures
    c.first-2.ensures
    c.first-3.ensures
    c.first-4.ensures
    c.first-none.ensures
    c.first-jerk.ensures
    c.first-5.ensures
    c.first-torque.ensures
    c.first-6.ensures
    c.size.ensures
