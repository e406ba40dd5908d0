-- Checks one after another: what a call found decides, or hands on to the rest.
use mathlib.Core.Path.{◌≡◌, refl, ◌∙◌}
use Rattle.std.specs.Prelude.{Ok, Err}
use Rattle.model.specs.Problem.{Problem}
use Rattle.model.specs.Verdicts.{Verdict, accepted, ◌then◌}
use Rattle.model.specs.Refusals.{tables_refusal, bounds_refusal, refusal_up_to, refusal}
use Rattle.model.specs.declared.Refusal.{Refusal}
use Rattle.checks.specs.Groups.{job_refusal, groups}

-- after what is accepted the rest decides, and a refusal decides
pub then_ok : {a b v : Verdict} → v ≡ a → v ≡ accepted → b ≡ (a then b)
unfolding ◌then◌
then_ok p q = rw (← p, q) refl

pub then_err : {a v r : Verdict} (b : Verdict) → v ≡ a → (e : Refusal) → v ≡ Err e → r ≡ Err e → r ≡ (a then b)
unfolding ◌then◌
then_err b p e q h = rw (← p, q) h

pub then_assoc : (a b c : Verdict) → ((a then b) then c) ≡ (a then b then c)
unfolding ◌then◌
then_assoc (Ok tt) b c = refl
then_assoc (Err e) b c = refl

-- a chain whose first two checks stand in a group of their own
pub in_group : (a b c : Verdict) {v : Verdict} → v ≡ (a then b then c) → v ≡ ((a then b) then c)
in_group a b c e = rw then_assoc e

grouped : (p : Problem) → groups p ≡ tables_refusal p
unfolding tables_refusal
grouped p = simp then_assoc

pub by_groups : (p : Problem) {v : Verdict} → v ≡ groups p → v ≡ tables_refusal p
by_groups p e = e ∙ grouped p

-- refusals 1 to 18 by parts
pub by_parts : (p : Problem) {v : Verdict} → v ≡ (job_refusal p then tables_refusal p then bounds_refusal p.path p.limits) → v ≡ refusal p
unfolding refusal_up_to
by_parts p e = e ∙ simp then_assoc
