-- What sizing and the assembly answer if another verdict stands in the place of refusals 1 to 18: for what they answered before a rule was changed.
use mathlib.Core.Path.{◌≡◌, refl}
use lib.ListN.{length}
use Rattle.model.specs.Problem.{Problem}
use Rattle.model.specs.Verdicts.{Verdict, ◌then◌}
use Rattle.model.specs.Refusals.{refusal}
use Rattle.model.specs.Counts.{counts}
use Rattle.model.specs.Answers.{Told, outcome, sizing, Buffers, lengths, room_refusal, index_refusal, finite_refusal, Result, result, assembly}

abbrev pub sizing_by : Verdict → Problem → Told
sizing_by v p = outcome v (counts p)

abbrev pub assembly_by : Verdict → Problem → Buffers → Result
assembly_by v p b = result (v then room_refusal (counts p) (lengths b) then index_refusal p (length b.index) then finite_refusal p) p b

pub sizing_now : (p : Problem) → sizing p ≡ sizing_by (refusal p) p
unfolding sizing
sizing_now p = refl

pub assembly_now : (p : Problem) (b : Buffers) → assembly p b ≡ assembly_by (refusal p) p b
unfolding assembly
assembly_now p b = refl
