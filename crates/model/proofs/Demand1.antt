-- Demand 1, about the assembly's answer: what is refused changes no buffer, and what is not refused is accepted.
use Prim.Native.Nat.{ℕ, ◌<◌}
use native.Mathlib.Omega.{arith}
use mathlib.Core.Path.{◌≡◌, refl, ap}
use mathlib.Core.Logic.{◌↔◌, ◌≢◌}
use mathlib.Core.Bool.{true}
use lib.ListN.{length-map}
use lib.Ieee.{nan}
use Rattle.std.specs.Prelude.{Ok, Err}
use Rattle.model.specs.Numbers.{at, finite}
use Rattle.model.specs.Problem.{Problem}
use Rattle.model.specs.Rules.{rule_number}
use Rattle.model.specs.Verdicts.{Verdict, accepted, refused, ◌then◌}
use Rattle.model.specs.Refusals.{refusal}
use Rattle.model.specs.Assembled.{values}
use Rattle.model.specs.Counts.{counts}
use Rattle.model.specs.Answers.{Told, outcome, sizing, Buffers, finite_refusal, result, assembly}
use Rattle.model.specs.declared.FourCounts.{FourCounts}
use Rattle.model.specs.declared.rule.Rule.{Rule}
use Rattle.model.proofs.Rules.{rule_positive}
use Rattle.model.proofs.Passes.{then_passes}
use Rattle.model.proofs.Finite.{Finite, finite_lists}
use Rattle.model.proofs.Program.{program}
use Rattle.model.proofs.Written.{onto_all}
use Rattle.model.proofs.Demand3.{Acceptable, accepted_lem, all_finite_lem, demand3}
use Rattle.model.proofs.Room.{Enough, room_passes, HasIndex, index_passes}

-- no refusal has the number 0, which tells of a success
pub record Numbered (v : Verdict) : Type 0 where
  pub positive : (r : Rule) (k : ℕ) → v ≡ refused r k → 0 < rule_number r

pub refusal_numbered : (p : Problem) → Numbered (refusal p)
refusal_numbered p = record { positive = λ r k e. rule_positive r }

-- ---- the assembly's answer, for any problem and any buffers

unchanged : (v : Verdict) (p : Problem) (b : Buffers) → (result v p b).told.number ≢ 0 → (result v p b).buffers ≡ b
unfolding result outcome
unchanged (Ok tt) p b h = absurd (h refl)
unchanged (Err e) p b h = refl

refused_first : (v w : Verdict) (p : Problem) (b : Buffers) → v ≢ accepted → (result (v then w) p b).told ≡ outcome v (counts p)
unfolding result ◌then◌
refused_first (Ok tt) w p b h = absurd (h refl)
refused_first (Err e) w p b h = refl

zero_accepts : (v : Verdict) (p : Problem) (b : Buffers) → (result v p b).told.number ≡ 0 → v ≡ accepted
unfolding result outcome
zero_accepts (Ok tt) p b e = refl
zero_accepts (Err x) p b e = absurd (omega (arith, rule_positive x.rule))

module _ (p : Problem) (b : Buffers) where
  -- "Refused first, by number and with every output buffer still holding its old contents"
  pub refused_unchanged : (assembly p b).told.number ≢ 0 → (assembly p b).buffers ≡ b
  unfolding assembly
  refused_unchanged = unchanged _ p b

  -- what sizing refuses the assembly refuses alike, whatever the buffers
  pub refused_alike : refusal p ≢ accepted → (assembly p b).told ≡ sizing p
  unfolding assembly sizing
  refused_alike = refused_first (refusal p) _ p b

  zero_only_then : (assembly p b).told.number ≡ 0 → Acceptable p × Enough (counts p) b × HasIndex p b
  unfolding assembly
  zero_only_then e =
      let v = zero_accepts _ p b e in
      let h = simp (then_passes, room_passes, index_passes) at v in
      ((then_passes (refusal p) (finite_refusal p)).1 (h.0, h.1.1.1), h.1.0, h.1.1.0)

  zero_then : Acceptable p × Enough (counts p) b × HasIndex p b → (assembly p b).told.number ≡ 0
  unfolding outcome
  zero_then h = ap (λ (x : Told). x.number) (((demand3 p h.0).succeeds_exactly b h.2).1 h.1)

  -- "Accepted: every other problem, with nothing tested beforehand by the caller"
  pub accepted_exactly : ((assembly p b).told.number ≡ 0) ↔ (Acceptable p × Enough (counts p) b × HasIndex p b)
  accepted_exactly = (zero_only_then, zero_then)

-- below the counts no number of values, right side or cost is infinite or NaN
pub record FiniteBelow (t : FourCounts) (b : Buffers) : Type 0 where
  pub values : (i : ℕ) → i < t.entries → finite (at b.values i) ≡ true
  pub right : (i : ℕ) → i < t.rows → finite (at b.right i) ≡ true
  pub cost : (i : ℕ) → i < t.columns → finite (at b.cost i) ≡ true

-- "any problem with a number to be written that isn't finite" is refused: after a success no such number stands in a buffer
pub finite_written : (p : Problem) (b : Buffers) → (assembly p b).told.number ≡ 0 → FiniteBelow (counts p) (assembly p b).buffers
unfolding values
finite_written p b e =
    let h = zero_only_then p b e in
    let f = program p (accepted_lem p h.0) in
    let l = finite_lists p (all_finite_lem p h.0) in
    let w = (demand3 p h.0).holds b h.2 h.1 in
    record {
      values = λ i lt. onto_all Finite w.values (simp length-map f.entries_counted) l.values i nan lt;
      right = λ i lt. onto_all Finite w.right f.rows_counted l.right i nan lt;
      cost = λ i lt. onto_all Finite w.cost f.columns_counted l.cost i nan lt;
    }
