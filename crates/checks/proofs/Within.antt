-- What a check that refuses nothing says of its input.
use Prim.Native.Nat.{ℕ, ◌+◌, ◌-◌, ◌≤◌}
use mathlib.Core.Path.{◌≡◌, sym, ◌∙◌}
use mathlib.Core.Bool.{Bool, true, false, not, ◌||◌}
use mathlib.Core.List.{List}
use lib.Dec.{ltb, eqb}
use lib.ListN.{length}
use lib.Ieee.{Float}
use borrow.Author.Tests.{ltb-false, leb-false}
use native.Mathlib.Omega.{arith}
use Rattle.model.specs.Problem.{Problem}
use Rattle.checks.specs.Groups.{job_refusal, counts_lengths}
use Rattle.checks.specs.Limits.{WithinLimits, Counted, Spanned}
use Rattle.checks.specs.Fitting.{Fitting}
use Rattle.model.specs.Verdicts.{Verdict, accepted, refuse}
use Rattle.model.specs.Refusals.{list_refusal, grid_refusal, setup_refusal, tables_refusal, most_stations, refusal_up_to, refusal}
use Rattle.model.specs.declared.Objective.{Objective}
use Rattle.model.specs.declared.rule.Rule.TheVariants.{TooManyObjectives, ListUnfit, NoMovingInterval}
use Rattle.model.proofs.Passes.{then_passes, refuse_passes, table_passes}

or_right : (a b : Bool) → (a || b) ≡ false → b ≡ false
or_right true b e = cc
or_right false b e = e

-- a list that is not refused lies within the pool
pub within : (pool : List Float) (i long start len : ℕ) {v : Verdict} → v ≡ list_refusal pool i long start len → v ≡ accepted → start + len ≤ length pool
unfolding list_refusal
within pool i long start len f e =
    ltb-false _ _ (or_right (not (eqb len long)) _ ((refuse_passes ListUnfit i _).0 (sym f ∙ e)))

pub few : (count : ℕ) → refuse TooManyObjectives 0 (ltb 16 count) ≡ accepted → count ≤ 16
few count e = ltb-false _ _ ((refuse_passes TooManyObjectives 0 _).0 e)

pub grid_within : (g : List Float) → grid_refusal most_stations g ≡ accepted → (3 ≤ length g) × (length g ≤ most_stations)
unfolding grid_refusal
grid_within g e = let h = simp (then_passes, refuse_passes) at e in (ltb-false _ _ h.0, ltb-false _ _ h.1.0)

pub setup_within : (d count : ℕ) (slots : List Objective) (stations : ℕ) (pool : List Float) → setup_refusal d count slots stations pool ≡ accepted → (d ≤ 32) × (count ≤ 16)
unfolding setup_refusal
setup_within d count slots stations pool e =
    let h = simp (then_passes, refuse_passes) at e in
    (ltb-false _ _ (or_right (eqb d 0) _ h.0), ltb-false _ _ h.1.1.0)

pub counts_within : (p : Problem) {v : Verdict} → v ≡ counts_lengths p → v ≡ accepted → Counted p
counts_within p f e =
    let ok : counts_lengths p ≡ accepted = sym f ∙ e in
    let h = simp then_passes at ok in
    record { acc = table_passes 0 _ _ h.0; jerk = table_passes 1 _ _ h.1 }

pub tables_within : (p : Problem) {v : Verdict} → v ≡ tables_refusal p → v ≡ accepted → Spanned p
unfolding tables_refusal
tables_within p f e =
    let ok : tables_refusal p ≡ accepted = sym f ∙ e in
    let h = simp (then_passes, refuse_passes) at ok in
    record { span = leb-false _ _ h.0; amax = table_passes 2 _ _ h.1.1.1.1.1.0 }

pub stations_within : (g : List Float) {v : Verdict} → v ≡ grid_refusal most_stations g → v ≡ accepted → length g - 1 + 1 ≡ length g
stations_within g f e = let h = grid_within g (sym f ∙ e) in omega arith

pub job_within : (p : Problem) {v : Verdict} → v ≡ job_refusal p → v ≡ accepted → WithinLimits p
job_within p f e =
    let ok : job_refusal p ≡ accepted = sym f ∙ e in
    let h = simp then_passes at ok in
    let g = grid_within p.path.grid h.1.0 in
    let s = setup_within _ _ _ _ _ h.1.1 in
    record { least = g.0; most = g.1; joints = s.0; jobs = s.1 }

pub fitting : (p : Problem) → refusal p ≡ accepted → Fitting p.path p.torque.d p.count p.acc.counts p.jerk.counts p.limits.amax
unfolding refusal_up_to tables_refusal
fitting p e =
    let h = simp then_passes at e in
    let g = grid_within p.path.grid h.1.0 in
    let s = setup_within _ _ _ _ _ h.1.1.0 in
    let t = h.1.1.1.0 in
    record {
      least = g.0;
      most = g.1;
      span = leb-false _ _ ((refuse_passes NoMovingInterval 0 _).0 t.0);
      joints = s.0;
      jobs = s.1;
      acc_rows = table_passes 0 _ _ t.1.0;
      jerk_rows = table_passes 1 _ _ t.1.1.0;
      amax_length = table_passes 2 _ _ t.1.1.1.1.1.0;
    }
