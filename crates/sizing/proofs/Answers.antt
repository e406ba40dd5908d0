-- What sizing answers, by what the checks found.
use mathlib.Core.Path.{◌≡◌, sym, ◌∙◌}
use Rattle.std.specs.Prelude.{Ok, Err}
use Rattle.model.specs.Problem.{Problem}
use Rattle.model.specs.Verdicts.{Verdict, Answer, accepted}
use Rattle.model.specs.Refusals.{refusal}
use Rattle.model.specs.Counts.{counts}
use Rattle.model.specs.Answers.{told, sizing, outcome}
use Rattle.model.specs.declared.FourCounts.{FourCounts}
use Rattle.model.specs.declared.Refusal.{Refusal}
use Rattle.checks.specs.Fitting.{Fits}
use Rattle.checks.proofs.Within.{fitting}

pub fits : (p : Problem) {v : Verdict} → v ≡ refusal p → v ≡ accepted → Fits p
fits p f e = fitting p (sym f ∙ e)

pub size_refused : (p : Problem) {v : Verdict} {r : Answer} → v ≡ refusal p → (e : Refusal) → v ≡ Err e → r ≡ Err e → told r ≡ sizing p
unfolding sizing outcome
size_refused p f e g h = rw (h, ← f, g)

pub size_counted : (p : Problem) {v : Verdict} {t : FourCounts} → v ≡ refusal p → v ≡ accepted → t ≡ counts p → told (Ok t) ≡ sizing p
unfolding sizing outcome
size_counted p f e g = rw (← f, e, g)
