-- A problem to which no refusal from 1 to 18 applies has all that the writers need.
use Prim.Native.Nat.{ℕ, zero, suc, ◌+◌, ◌*◌, ◌≤◌, ◌<◌}
use native.Mathlib.Omega.{arith}
use native.Mathlib.Decide.{dec_lt}
use native.Mathlib.Nat.{mul_comm}
use mathlib.Core.Path.{◌≡◌, refl, ap, ◌∙◌}
use mathlib.Core.Bool.{true, ◌||◌, or-true}
use mathlib.Core.List.{List, [], ◌∷◌}
use lib.ListN.{length, get_or, get_or-eq_default}
use lib.Seq.{get_or-take}
use lib.Dec.{ltb, eqb}
use lib.Ieee.{nan}
use borrow.Author.Tests.{ltb-false, eqb-true, not-false}
use Rattle.model.specs.Problem.{Problem, objectives, n, some, is_thermal, is_torque, is_linear}
pub use Rattle.model.proofs.Ready.{Listed, TorqueTables, ThermalTables, RootTables, Ready, Counting, CountingWith, Usable}
use Rattle.model.specs.Verdicts.{accepted, lowest, itself}
use Rattle.model.specs.Refusals.{refusal, refusal_up_to, grid_refusal, setup_refusal, tables_refusal, objectives_refusal, lists_refusal, scales_refusal, list_refusal}
use Rattle.model.specs.declared.Objective.{Objective}
use Rattle.model.specs.declared.Objective.TheVariants.{Time, ThermalEnergy, TotalVariationTorque, Linear}
use Rattle.model.specs.declared.rule.Rule.TheVariants.{TooManyRows}
use Rattle.model.proofs.All.{All}
use Rattle.model.proofs.Sizes.{Sizes, sizes}
use Rattle.model.proofs.Passes.{passing, then_passes, refuse_passes, lowest_passes}

-- numbers past the end are 0
few : (b : ℕ) (l : List ℕ) (k : ℕ) → length l ≡ k → lowest TooManyRows itself (λ i. ltb b (get_or l i 0)) 0 k ≡ accepted → (i : ℕ) → get_or l i 0 ≤ b
few b l k e h i = go (dec_lt i k)
  where
    go : Dec (i < k) → get_or l i 0 ≤ b
    go (yes lt) = ltb-false b (get_or l i 0) (lowest_passes TooManyRows itself (λ i. ltb b (get_or l i 0)) 0 k h i (omega arith) (omega arith))
    go (no ge) = let z = get_or-eq_default l 0 {n = i} (omega arith) in omega arith

module _ (p : Problem) where
  list_passes : (i need start len : ℕ) → list_refusal p.pool i need start len ≡ accepted → Listed p need start len
  unfolding list_refusal
  list_passes i need start len e = let h = simp passing at e in record { long = eqb-true len need (not-false (eqb len need) h.0); within = h.1 }

  scales_pass : (i start len : ℕ) → scales_refusal p.pool p.torque.d i start len ≡ accepted → Listed p p.torque.d start len
  unfolding scales_refusal
  scales_pass i start len e = list_passes i p.torque.d start len ((then_passes _ _).0 e).0

  -- what counts with some objectives counts with one of them, and with fewer
  counting_first : (o : Objective) (os : List Objective) → CountingWith p (o ∷ os) → Counting p (is_thermal o) (is_torque o) (is_linear o)
  counting_first o os h = record { thermal = λ q. h.thermal (simp q); torque = λ q. h.torque (simp q); roots = λ q. h.roots (simp q) }

  counting_rest : (o : Objective) (os : List Objective) → CountingWith p (o ∷ os) → CountingWith p os
  counting_rest o os h =
      record { thermal = λ q. h.thermal (simp (q, or-true)); torque = λ q. h.torque (simp (q, or-true)); roots = λ q. h.roots (simp (q, or-true)) }

  module _ (grid : 2 < length p.path.grid) where
    ready_one : (i : ℕ) (o : Objective) → lists_refusal p.pool p.torque.d (n p.path + 1) i o ≡ accepted → Counting p (is_thermal o) (is_torque o) (is_linear o) → Ready p o
    unfolding lists_refusal
    ready_one i (Time w) e t = tt
    ready_one i (ThermalEnergy w start len) e t = (scales_pass i start len e, t.thermal refl)
    ready_one i (TotalVariationTorque w start len) e t = (scales_pass i start len e, t.torque refl)
    ready_one i (Linear w a al b bl) e t =
        let f = (then_passes _ _).0 e in
        let k = list_passes i (n p.path + 1) a al f.0 in
        let l = list_passes i (n p.path + 1) b bl f.1 in
        (omega arith, omega arith, t.roots refl)

    ready_all : (i : ℕ) (os : List Objective) → objectives_refusal p.pool p.torque.d (n p.path + 1) i os ≡ accepted → CountingWith p os → All (Ready p) os
    unfolding objectives_refusal
    ready_all i [] e t = tt
    ready_all i (o ∷ os) e t =
        let f = simp (then_passes, refuse_passes) at e in
        (ready_one i o f.1.0 (counting_first o os t), ready_all (suc i) os f.1.1 (counting_rest o os t))

    -- past the end `get_or` gives a Time
    ready_at : (os : List Objective) → All (Ready p) os → (i : ℕ) → Ready p (get_or os i (Time nan))
    ready_at [] h i = tt
    ready_at (o ∷ os) h zero = h.0
    ready_at (o ∷ os) h (suc i) = ready_at os h.1 i

    -- d numbers for each station
    by_stations : (have : ℕ) → have ≡ p.torque.d * (n p.path + 1) → have ≡ length p.path.grid * p.torque.d
    by_stations have e =
        let k : n p.path + 1 ≡ length p.path.grid = omega arith in
        e ∙ ap (λ (x : ℕ). p.torque.d * x) k ∙ mul_comm p.torque.d (length p.path.grid)

  pub usable : refusal p ≡ accepted → Usable p
  unfolding refusal_up_to grid_refusal setup_refusal tables_refusal
  usable ok =
      let h = simp passing at ok in
      let grid : 2 < length p.path.grid = h.1.0.0 in
      let rates = h.1.1.1.0.1 in
      let t = rates.1.1.1.1.1.1.1.1.1.1.1.1 in
      let torque : (some is_thermal (objectives p) || some is_torque (objectives p)) ≡ true → TorqueTables p =
      λ q. record { a = by_stations grid _ (t.1.0 q); b = by_stations grid _ (t.1.1.0 q); g = by_stations grid _ (t.1.1.1.0 q) } in
      let counting : CountingWith p (objectives p) =
      record {
        thermal = λ q. record { weights = omega (arith, t.0 q); torque = torque (simp q) };
        torque = λ q. torque (simp (q, or-true));
        roots = λ q. record { start = t.1.1.1.1.0 q; end = t.1.1.1.1.1 q };
      } in
      let ready = ready_at grid (objectives p) (ready_all grid 0 (objectives p) h.1.1.0.1.1.1 counting) in
      record {
        sized = omega arith;
        joints = omega arith;
        count = omega arith;
        acc = omega arith;
        jerk = omega arith;
        few_acc = few 256 p.acc.counts (n p.path + 1) rates.0 rates.1.1.0;
        few_jerk = few 256 p.jerk.counts (n p.path + 1) rates.1.0 rates.1.1.1.0;
        amax = omega arith;
        counting = counting;
        objective = ready;
        slot = λ i lt. rw (get_or-take p.count p.slots i (Time nan) lt) at (ready i);
      }

  -- refusals 4 and 14 are what the sizes need
  pub usable_sizes : Usable p → Sizes p.path
  usable_sizes u = sizes p.path (omega arith) (omega arith)
