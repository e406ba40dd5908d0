-- Two problems that agree on what is used get the same refusal, or none.
use Prim.Native.Nat.{ℕ, zero, suc, ◌+◌, ◌-◌, ◌≤◌, ◌<◌, min}
use native.Mathlib.Omega.{arith}
use native.Mathlib.Decide.{dec_lt}
use mathlib.Core.Path.{◌≡◌, refl, sym, ap, ap₂, ◌∙◌}
use mathlib.Core.Bool.{Bool, true, false, not, ◌||◌, false≢true}
use mathlib.Core.List.{List, [], ◌∷◌}
use lib.ListN.{length, get_or, length-take, length-drop}
use lib.Dec.{ltb, eqb}
use lib.Ieee.{Float, nan}
use borrow.Author.Tests.{lt-ltb, le-ltb, eqb-true}
use Rattle.std.specs.Prelude.{Ok, Err}
use Rattle.model.specs.Numbers.{at, unusable, unfit}
use Rattle.model.specs.Lists.{part}
use Rattle.model.specs.Problem.{Problem, Path, objectives, n, m, weight, some, is_thermal, is_torque, is_linear}
use Rattle.model.specs.Verdicts.{Verdict, accepted, ◌then◌, refuse, lowest}
use Rattle.model.specs.Refusals.{boundary_refusal, grid_refusal, list_refusal, scales_refusal, lists_refusal, objectives_refusal, setup_refusal, table_if, tables_refusal, unusable_end, crossed, bounds_refusal, most_stations, refusal_up_to, refusal}
use Rattle.model.specs.Used.{SameTorque, SameFor, Agree}
use Rattle.model.specs.declared.Boundary.{Boundary}
use Rattle.model.specs.declared.Bounds.{Bounds}
use Rattle.model.specs.declared.Objective.{Objective}
use Rattle.model.specs.declared.Objective.TheVariants.{Time, ThermalEnergy, TotalVariationTorque, Linear}
use Rattle.model.specs.declared.rule.Rule.{Rule}
use Rattle.model.specs.declared.rule.Rule.TheVariants.{DimensionOutOfRange, NoObjective, TooManyObjectives, WeightUnfit, ListUnfit, ScaleUnfit, TableLength, BoundUnusable, BoundsCrossed}
use Rattle.model.proofs.Passes.{passing}

-- a problem with what is shared outright from elsewhere: boundary, path, count, d, tables 0 and 1
abbrev sharing : Boundary → Path → ℕ → ℕ → List ℕ → List ℕ → Problem → Problem
sharing boundary path count d t0 t1 p =
    record {
      boundary = boundary;
      path = path;
      count = count;
      slots = p.slots;
      pool = p.pool;
      limits = p.limits;
      acc = record { counts = t0; a = p.acc.a; b = p.acc.b; max = p.acc.max };
      jerk = record { counts = t1; a = p.jerk.a; b = p.jerk.b; c = p.jerk.c; max = p.jerk.max };
      thermal = p.thermal;
      torque = record { d = d; a = p.torque.a; b = p.torque.b; g = p.torque.g };
      roots = p.roots;
    }

-- the second problem, which takes these from the first, so that no proof below has to rewrite them
abbrev pub merged : Problem → Problem → Problem
merged p p' = sharing p.boundary p.path p.count p.torque.d p.acc.counts p.jerk.counts p'

pub merged_is : (p p' : Problem) → Agree p p' → merged p p' ≡ p'
merged_is p p' u = λ i. sharing (u.boundary i) (u.path i) (u.count i) (u.d i) (u.acc.counts i) (u.jerk.counts i) p'

-- ---- checks

-- "an end with count 0 has bounds that aren't read"
pub end_same : {B : Type 0} (F : ℕ → Bounds → B) (c : ℕ) {b b' : Bounds} → F 0 b ≡ F 0 b' → (0 < c → b ≡ b') → F c b ≡ F c b'
end_same F zero z h = z
end_same F (suc c) z h = ap (F (suc c)) (h (omega arith))

then_ext : (v : Verdict) {w w' : Verdict} → (v ≡ accepted → w ≡ w') → (v then w) ≡ (v then w')
unfolding ◌then◌
then_ext (Ok tt) h = h refl
then_ext (Err e) h = refl

lowest_ext : (r : Rule) (place : ℕ → ℕ) (s t : ℕ → Bool) (k c : ℕ) → ((i : ℕ) → k ≤ i → i < k + c → s i ≡ t i) → lowest r place s k c ≡ lowest r place t k c
unfolding lowest
lowest_ext r place s t k zero h = refl
lowest_ext r place s t k (suc c) h =
    ap₂ (λ x v. refuse r (place k) x then v) (h k (omega arith) (omega arith)) (lowest_ext r place s t (suc k) c (λ i a b. h i (omega arith) (omega arith)))

table_if_same : (counts : Bool) (t have have' need : ℕ) → (counts ≡ true → have ≡ have') → table_if counts t have need ≡ table_if counts t have' need
unfolding table_if
table_if_same true t have have' need h = ap (λ x. refuse TableLength t (not (eqb x need))) (h refl)
table_if_same false t have have' need h = refl

-- 12: a list that runs past the pool has a shorter part
past : (pool : List Float) (start len : ℕ) → 0 < len → ltb (length pool) (start + len) ≡ ltb (length (part pool start len)) len
past pool start len pos = simp (length-take, length-drop) (go (dec_lt (length pool) (start + len)))
  where
    go : Dec (length pool < start + len) → ltb (length pool) (start + len) ≡ ltb (min len (length pool - start)) len
    go (yes h) = lt-ltb (length pool) (start + len) h ∙ sym (lt-ltb (min len (length pool - start)) len (omega arith))
    go (no h) = le-ltb (length pool) (start + len) (omega arith) ∙ sym (le-ltb (min len (length pool - start)) len (omega arith))

module _ (pool pool' : List Float) where
  list_same : (i long start len : ℕ) → 0 < long → length (part pool start len) ≡ length (part pool' start len) → list_refusal pool i long start len ≡ list_refusal pool' i long start len
  unfolding list_refusal
  list_same i long start len pos same = ap (refuse ListUnfit i) (go (eqb len long) refl)
    where
      go : (t : Bool) → eqb len long ≡ t → (not t || ltb (length pool) (start + len)) ≡ (not t || ltb (length pool') (start + len))
      go false e = refl
      go true e = let l = eqb-true len long e in past pool start len (omega arith) ∙ ap (λ x. ltb x len) same ∙ sym (past pool' start len (omega arith))

  scales_same : (d i start len : ℕ) → 0 < d → part pool start len ≡ part pool' start len → scales_refusal pool d i start len ≡ scales_refusal pool' d i start len
  unfolding scales_refusal
  scales_same d i start len pos same =
      ap₂ ◌then◌ (list_same i d start len pos (ap length same)) (ap (λ l. lowest ScaleUnfit (λ j. i) (λ j. unfit (at l j)) 0 len) same)

either : {X : Type 0} (a b : Bool) → (a ≡ true → X) → (b ≡ true → X) → (a || b) ≡ true → X
either true b f g e = f refl
either false b f g e = g e

module _ (p p' : Problem) where
  abbrev r : Problem
  r = merged p p'

  -- what one objective of some kind says, that kind says
  some_says : {X : Type 0} (f : Objective → Bool) → ((o : Objective) → f o ≡ true → SameFor p r o → X) → (os : List Objective)
      → ((i : ℕ) → SameFor p r (get_or os i (Time nan))) → some f os ≡ true → X
  some_says f k [] h e = absurd (false≢true e)
  some_says f k (o ∷ os) h e = either (f o) (some f os) (λ t. k o t (h 0)) (some_says f k os (λ i. h (suc i))) e

  lists_same : (i : ℕ) (o : Objective) → 0 < p.torque.d → SameFor p r o → lists_refusal p.pool p.torque.d (n p.path + 1) i o ≡ lists_refusal p'.pool p.torque.d (n p.path + 1) i o
  unfolding lists_refusal
  lists_same i (Time w) pos h = refl
  lists_same i (ThermalEnergy w start len) pos h = scales_same p.pool p'.pool p.torque.d i start len pos h.0
  lists_same i (TotalVariationTorque w start len) pos h = scales_same p.pool p'.pool p.torque.d i start len pos h.0
  lists_same i (Linear w a al b bl) pos h =
      ap₂ ◌then◌ (list_same p.pool p'.pool i (n p.path + 1) a al (omega arith) h.0.long) (list_same p.pool p'.pool i (n p.path + 1) b bl (omega arith) h.1.long)

  objectives_same : (i : ℕ) (os : List Objective) → 0 < p.torque.d → ((i : ℕ) → SameFor p r (get_or os i (Time nan)))
      → objectives_refusal p.pool p.torque.d (n p.path + 1) i os ≡ objectives_refusal p'.pool p.torque.d (n p.path + 1) i os
  unfolding objectives_refusal
  objectives_same i [] pos h = refl
  objectives_same i (o ∷ os) pos h =
      ap₂ (λ v w. refuse WeightUnfit i (unfit (weight o)) then v then w) (lists_same i o pos (h 0)) (objectives_same (suc i) os pos (λ i. h (suc i)))

  abbrev TorqueLong : Type 0
  TorqueLong = (length p.torque.a ≡ length p'.torque.a) × (length p.torque.b ≡ length p'.torque.b) × (length p.torque.g ≡ length p'.torque.g)

  abbrev RootsLong : Type 0
  RootsLong = (length p.roots.start ≡ length p'.roots.start) × (length p.roots.end ≡ length p'.roots.end)

  module _ (u : Agree p r) where
    setup_same : setup_refusal p.torque.d p.count p.slots (n p.path + 1) p.pool ≡ setup_refusal p.torque.d p.count p'.slots (n p.path + 1) p'.pool
    unfolding setup_refusal
    setup_same =
        then_ext (refuse DimensionOutOfRange 0 (eqb p.torque.d 0 || ltb 32 p.torque.d)) (λ e.
        let h = simp passing at e in
        ap (λ v. refuse NoObjective 0 (eqb p.count 0) then refuse TooManyObjectives 0 (ltb 16 p.count) then v)
        (objectives_same 0 (objectives p) (omega arith) u.lists ∙ ap (objectives_refusal p'.pool p.torque.d (n p.path + 1) 0) u.chosen))

    long : {used : ℕ → Type 0} → SameTorque p.path used p.torque r.torque → TorqueLong
    long h = (h.a.long, h.b.long, h.g.long)

    says : (o : Objective) → SameFor p r o → (is_thermal o ≡ true → (length p.thermal ≡ length p'.thermal) × TorqueLong) × (is_torque o ≡ true → TorqueLong) × (is_linear o ≡ true → RootsLong)
    says (Time w) h = (λ e. absurd (false≢true e), λ e. absurd (false≢true e), λ e. absurd (false≢true e))
    says (ThermalEnergy w start len) h = (λ e. (h.2.long, long h.1), λ e. absurd (false≢true e), λ e. absurd (false≢true e))
    says (TotalVariationTorque w start len) h = (λ e. absurd (false≢true e), λ e. long h.1, λ e. absurd (false≢true e))
    says (Linear w a al b bl) h = (λ e. absurd (false≢true e), λ e. absurd (false≢true e), λ e. (h.2.long, h.3.long))

    tables_same : tables_refusal p ≡ tables_refusal r
    unfolding tables_refusal
    tables_same =
        let thermal = some_says is_thermal (λ o e h. (says o h).0 e) (objectives p) u.lists in
        let torque = either (some is_thermal (objectives p)) (some is_torque (objectives p)) (λ e. (thermal e).1) (some_says is_torque (λ o e h. (says o h).1 e) (objectives p) u.lists) in
        let roots = some_says is_linear (λ o e h. (says o h).2 e) (objectives p) u.lists in
        rw (
          table_if_same _ 10 _ _ _ (λ e. (thermal e).0),
          table_if_same _ 11 _ _ _ (λ e. (torque e).0),
          table_if_same _ 12 _ _ _ (λ e. (torque e).1),
          table_if_same _ 13 _ _ _ (λ e. (torque e).2),
          table_if_same _ 14 _ _ _ (λ e. (roots e).0),
          table_if_same _ 15 _ _ _ (λ e. (roots e).1),
          u.chosen,
        ) cc

    bounds_same : bounds_refusal p.path p.limits ≡ bounds_refusal p.path p'.limits
    unfolding bounds_refusal unusable_end crossed m
    bounds_same =
        ap₂ ◌then◌ (ap (refuse BoundUnusable 0) (end_same unusable_end p.path.N0 refl u.limits.start))
        (ap₂ ◌then◌ (ap (refuse BoundUnusable 1) (end_same unusable_end p.path.N1 refl u.limits.end))
        (ap₂ ◌then◌ (lowest_ext BoundUnusable _ _ _ _ _ (λ k a b. ap unusable (u.limits.amax.equal k (omega arith, omega arith))))
        (ap₂ ◌then◌ (ap (refuse BoundsCrossed 0) (end_same crossed p.path.N0 refl u.limits.start)) (ap (refuse BoundsCrossed 1) (end_same crossed p.path.N1 refl u.limits.end)))))

    pub refusal_same : refusal p ≡ refusal r
    unfolding refusal_up_to
    refusal_same =
        λ j. boundary_refusal p.boundary then grid_refusal most_stations p.path.grid then setup_same j then tables_same j then bounds_same j
