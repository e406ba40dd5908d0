-- Request 10: "every problem accepted before yields the same numbers", between any two limits of stations; and where refusal 5 begins.
use Prim.Native.Nat.{ℕ, zero, suc, ◌≤◌}
use native.Mathlib.Omega.{arith}
use mathlib.Core.Path.{◌≡◌, refl, sym, ap, ◌∙◌}
use mathlib.Core.Logic.{◌≢◌}
use mathlib.Core.Bool.{Bool, true, false}
use mathlib.Core.List.{List}
use lib.ListN.{length}
use lib.Dec.{ltb}
use lib.Ieee.{Float}
use borrow.Author.Tests.{ltb-false, lt-ltb, le-ltb}
use Rattle.std.specs.Prelude.{Ok, Err}
use Rattle.model.specs.Problem.{Problem}
use Rattle.model.specs.Verdicts.{Verdict, accepted, refused, ◌then◌, refuse, lowest}
use Rattle.model.specs.Refusals.{refusal, refusal_up_to, grid_refusal, most_stations}
use Rattle.model.specs.Answers.{sizing, assembly, Buffers}
use Rattle.model.specs.declared.rule.Rule.{Rule}
use Rattle.model.specs.declared.rule.Rule.TheVariants.{TooFewStations, TooManyStations, GridNotFinite, GridNotRising}
use Rattle.model.proofs.Before.{sizing_by, assembly_by, sizing_now, assembly_now}

-- another test at refusal 5, which passes only where the first one does
five : (a b c d : Verdict) (t u : Bool) → (t ≡ false → u ≡ false) → (a then (b then refuse TooManyStations 0 t then c) then d) ≢ refused TooManyStations 0
    → (a then (b then refuse TooManyStations 0 u then c) then d) ≡ (a then (b then refuse TooManyStations 0 t then c) then d)
unfolding ◌then◌ refuse
five (Err e) b c d t u h not = refl
five (Ok x) (Err e) c d t u h not = refl
five (Ok x) (Ok y) c d true u h not = absurd (not refl)
five (Ok x) (Ok y) c d false u h not = simp (h refl)

-- what is not refused as 5 under a limit has the same verdict under a higher one
pub higher : (limit limit' : ℕ) → limit ≤ limit' → (p : Problem) → refusal_up_to limit p ≢ refused TooManyStations 0 → refusal_up_to limit' p ≡ refusal_up_to limit p
unfolding refusal_up_to grid_refusal
higher limit limit' h p not =
    five _ _ _ _ (ltb limit (length p.path.grid)) (ltb limit' (length p.path.grid))
    (λ e. le-ltb limit' (length p.path.grid) (omega (arith, ltb-false limit (length p.path.grid) e))) not

-- so with document 01's limit, 4,097: accepted before is accepted, and the four counts, the lists and all buffers are the same
module _ (p : Problem) (before : refusal_up_to 4097 p ≡ accepted) where
  pub accepted_still : refusal p ≡ accepted
  accepted_still = higher 4097 most_stations (omega arith) p (λ e. cc) ∙ before

  pub sizing_still : sizing p ≡ sizing_by (refusal_up_to 4097 p) p
  sizing_still = sizing_now p ∙ ap (λ (v : Verdict). sizing_by v p) (accepted_still ∙ sym before)

  pub assembly_still : (b : Buffers) → assembly p b ≡ assembly_by (refusal_up_to 4097 p) p b
  assembly_still b = assembly_now p b ∙ ap (λ (v : Verdict). assembly_by v p b) (accepted_still ∙ sym before)

-- "Refusal 5 now begins at 65,538 stations."
pub begins : (g : List Float) → 65538 ≤ length g → grid_refusal most_stations g ≡ refused TooManyStations 0
unfolding grid_refusal ◌then◌ refuse
begins g h = simp (le-ltb (length g) 3 (omega arith), lt-ltb most_stations (length g) (omega arith))

-- a check that refuses by another rule does not refuse as 5
rule_in : Verdict → Rule
rule_in (Ok x) = TooManyStations
rule_in (Err e) = e.rule

other : (r : Rule) (k : ℕ) (t : Bool) → r ≢ TooManyStations → refuse r k t ≢ refused TooManyStations 0
unfolding refuse rule_in
other r k true not e = not (ap rule_in e)
other r k false not e = cc

other_then : (a b : Verdict) → a ≢ refused TooManyStations 0 → b ≢ refused TooManyStations 0 → (a then b) ≢ refused TooManyStations 0
unfolding ◌then◌
other_then (Ok x) b f g = g
other_then (Err e) b f g = f

other_lowest : (r : Rule) (place : ℕ → ℕ) (test : ℕ → Bool) (k c : ℕ) → r ≢ TooManyStations → lowest r place test k c ≢ refused TooManyStations 0
unfolding lowest
other_lowest r place test k zero not = λ e. cc
other_lowest r place test k (suc c) not = other_then _ _ (other r (place k) (test k) not) (other_lowest r place test (suc k) c not)

pub not_before : (g : List Float) → length g ≤ 65537 → grid_refusal most_stations g ≢ refused TooManyStations 0
unfolding grid_refusal refuse
not_before g h =
    rw (le-ltb most_stations (length g) (omega arith))
    (other_then _ _ (other TooFewStations 0 _ (λ e. cc)) (other_then accepted _ (λ e. cc) (other_then _ _ (other_lowest GridNotFinite _ _ 0 _ (λ e. cc)) (other_lowest GridNotRising _ _ 1 _ (λ e. cc)))))
