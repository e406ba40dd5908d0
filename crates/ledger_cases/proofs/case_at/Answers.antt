-- Each arm's case computes to the definition's problem at its number.
use mathlib.Core.Path.{refl}
use lib.Ieee.{of_bits, neg}
use borrow.Author.Rules.{rules}
use Rattle.ledger_cases.specs.Cases.{problem_at}
use Rattle.ledger_cases.proofs.Numbers.{first_or_past}
use Rattle.ledger_cases.proofs.case_at.Goals as goal

pub returns-in-2 : goal.returns-in-2
unfolding problem_at of_bits neg
returns-in-2 c = rw (c.usual.ensures, c.in-2.is) (refl, search rules)

pub returns-in-3 : goal.returns-in-3
unfolding problem_at of_bits neg
returns-in-3 c = rw (c.usual-in-3.ensures, c.in-3.is) (refl, search rules)

pub returns-in-4 : goal.returns-in-4
unfolding problem_at of_bits neg
returns-in-4 c = rw (c.usual-in-4.ensures, c.torque.ensures, c.in-4.is) (refl, search rules)

pub returns-in-5 : goal.returns-in-5
unfolding problem_at of_bits neg
returns-in-5 c = rw (c.usual-in-5.ensures, c.thermal.ensures, c.in-5.is) (refl, search rules)

pub returns-in-6 : goal.returns-in-6
unfolding problem_at of_bits neg
returns-in-6 c = rw (c.usual-in-6.ensures, c.thermal-in-6.ensures, c.in-6.is) (refl, search rules)

pub returns-in-7 : goal.returns-in-7
unfolding problem_at of_bits neg
returns-in-7 c = rw (c.usual-in-7.ensures, c.linear.ensures, c.in-7.is) (refl, search rules)

pub returns-in-9 : goal.returns-in-9
unfolding problem_at of_bits neg
returns-in-9 c = rw (c.usual-in-9.ensures, c.in-9.is) (refl, search rules)

pub returns-in-1 : goal.returns-in-1
unfolding problem_at of_bits neg
returns-in-1 c = rw (c.usual-c.ensures, c.in-1.is) (refl, search rules)

pub returns-in-8 : goal.returns-in-8
unfolding problem_at of_bits neg
returns-in-8 c = rw (c.usual-c.ensures, c.in-8.is) (refl, search rules)

pub returns-in-10 : goal.returns-in-10
unfolding problem_at of_bits neg
returns-in-10 c = rw (c.usual-c.ensures, c.in-10.is) (refl, search rules)

pub returns-in-11 : goal.returns-in-11
unfolding problem_at of_bits neg
returns-in-11 c = rw (c.usual-c.ensures, c.in-11.is) (refl, search rules)

pub returns-in-12 : goal.returns-in-12
unfolding problem_at of_bits neg
returns-in-12 c = rw (c.usual-c.ensures, c.in-12.is) (refl, search rules)

pub returns-in-13 : goal.returns-in-13
unfolding problem_at of_bits neg
returns-in-13 c = rw (c.usual-c.ensures, c.in-13.is) (refl, search rules)

pub returns-in_default : goal.returns-in_default
unfolding problem_at of_bits neg
returns-in_default c = rw (c.usual-c.ensures, first_or_past c.args.i (search rules)) (refl, search rules)
