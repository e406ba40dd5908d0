-- The blocks of two problems that agree on what is used are equal, up to what a band's functions say past its height.
use Prim.Native.Nat.{ℕ, suc, ◌+◌, ◌-◌, ◌*◌, ◌<◌}
use native.Mathlib.Omega.{arith}
use mathlib.Core.Path.{◌≡◌, refl, ap, ap₂, ◌∙◌}
use mathlib.Core.Logic.{◌⊎◌, inl, inr}
use mathlib.Core.Bool.{cond}
use mathlib.Core.List.{List, [], ◌∷◌, map}
use lib.ListN.{get_or, replicate}
use lib.Dec.{ltb}
use lib.Ieee.{Float, nan, neg}
use borrow.Author.Tests.{ltb-true}
use Rattle.model.specs.Numbers.{at, ◌⊕◌, ◌⊖◌, ◌⊗◌, ◌⊘◌, +1, +4}
use Rattle.model.specs.Lists.{list, over, given, part}
use Rattle.model.specs.Problem.{Problem, Path, objectives, n, m, L, ends, flag, skip, stop, spacing, col_a, col_b, some, uses_root}
use Rattle.model.specs.Program.{cell, band, positive_row, cone, nothing}
use Rattle.model.specs.Standard.{equalities, upper_row, end_rows, interval_rows, first_order, acceleration_rows, backward_rows, forward_rows, jerk_rows_at, inequalities, root_stage, standard, root}
use Rattle.model.specs.Objectives.{thermal_cone, thermal_block, end_torque_rows, step_torque_rows, torque_block, end_charge, linear_block, objective_block}
use Rattle.model.specs.Assembled.{width, objective_blocks, blocks}
use Rattle.model.specs.Used.{Same, Among, Inner, Moving, WithXi, Resting, Parts, JointsOf, SameTorque, SameFor, Agree}
use Rattle.model.specs.declared.Objective.{Objective}
use Rattle.model.specs.declared.Objective.TheVariants.{Time, ThermalEnergy, TotalVariationTorque, Linear}
use Rattle.model.proofs.Sizes.{Sizes}
use Rattle.model.proofs.Cut.{Alike, equal_alike, single_alike, ◌⧺◌, given_alike, list_alike, over_alike, alike_equal, cut, cut_ext, none, cut_band, cut_cone, cut_block}
use Rattle.model.proofs.UnreadRefusals.{merged, end_same}

-- number i of a used station
among : {used : ℕ → Type 0} {first many : ℕ → ℕ} {t t' : List Float} → Same (Among used first many) t t' → (k : ℕ) → used k → (i : ℕ) → i < many k → at t (first k + i) ≡ at t' (first k + i)
among s k h i lt = s.equal _ record { station = k; uses = h; from = omega arith; below = omega arith }

-- a column of a band whose values are equal below the height
column : (h c : ℕ) {f g : ℕ → Float} → ((i : ℕ) → i < h → f i ≡ g i) → cut h none (λ i. cell c (f i)) ≡ cut h none (λ i. cell c (g i))
column h c e = cut_ext h none (λ i lt. ap (cell c) (e i lt))

module _ (p p' : Problem) (l : Sizes p.path) where
  abbrev r : Problem
  r = merged p p'

  abbrev q : Path
  q = p.path

  abbrev d : ℕ
  d = p.torque.d

  -- ---- the standard rows

  module _ (u : Agree p r) where
    acceleration_cut : (k : ℕ) → Inner q k → cut_band (acceleration_rows q p.acc k) ≡ cut_band (acceleration_rows q r.acc k)
    unfolding cut_band acceleration_rows
    acceleration_cut k h =
        λ j. band (get_or p.acc.counts k 0) (cut_ext _ nan (among u.acc.max k h) j) (column _ (col_a q k) (among u.acc.a k h) j ∷ column _ (col_b q k) (among u.acc.b k h) j ∷ [])

    backward_cut : (k : ℕ) → Moving q k → cut_band (backward_rows q p.jerk k) ≡ cut_band (backward_rows q r.jerk k)
    unfolding cut_band backward_rows
    backward_cut k h =
        let x = +1 ⊘ spacing q (k - 1) in
        λ j. band (get_or p.jerk.counts k 0) (cut_ext _ nan (among u.jerk.max k h) j)
        (column _ (col_a q k) (among u.jerk.a k h) j
        ∷ column _ (col_b q (k - 1)) (λ i lt. ap (λ c. neg c ⊗ x) (among u.jerk.c k h i lt)) j
        ∷ column _ (col_b q k) (λ i lt. ap₂ (λ b c. b ⊕ c ⊗ x) (among u.jerk.b k h i lt) (among u.jerk.c k h i lt)) j
        ∷ [])

    forward_cut : (k : ℕ) → Moving q k → cut_band (forward_rows q p.jerk k) ≡ cut_band (forward_rows q r.jerk k)
    unfolding cut_band forward_rows
    forward_cut k h =
        let x = +1 ⊘ spacing q k in
        λ j. band (get_or p.jerk.counts k 0) (cut_ext _ nan (among u.jerk.max k h) j)
        (column _ (col_a q k) (among u.jerk.a k h) j
        ∷ column _ (col_b q k) (λ i lt. ap₂ (λ b c. b ⊖ c ⊗ x) (among u.jerk.b k h i lt) (among u.jerk.c k h i lt)) j
        ∷ column _ (col_b q (k + 1)) (λ i lt. ap (λ c. c ⊗ x) (among u.jerk.c k h i lt)) j
        ∷ [])

    jerk_alike : (k : ℕ) → Moving q k → Alike cut_band (jerk_rows_at q p.jerk k) (jerk_rows_at q r.jerk k)
    unfolding jerk_rows_at
    jerk_alike k h = given_alike (ltb q.N0 k) (λ e. single_alike (backward_cut k h)) ⧺ given_alike (ltb k (stop q)) (λ e. single_alike (forward_cut k h))

    first_alike : Alike cut_band (first_order q p.limits) (first_order q p'.limits)
    unfolding first_order
    first_alike =
        equal_alike (end_same (λ c b. given (ltb 0 c) (end_rows q q.N0 b)) q.N0 refl u.limits.start)
        ⧺ equal_alike (end_same (λ c b. given (ltb 0 c) (end_rows q (stop q) b)) q.N1 refl u.limits.end)
        ⧺ equal_alike {xs = list (λ k. positive_row (col_a q k)) (q.N0 + 1) (m q - 1)} refl
        ⧺ over_alike _ _ (q.N0 + 1) (m q - 1) (λ k a b. equal_alike (ap (upper_row q k) (u.limits.amax.equal k (omega arith, omega arith))))
        ⧺ equal_alike {xs = over (interval_rows q) q.N0 (m q)} refl

    inequalities_alike : Alike cut_band (inequalities q p.limits p.acc p.jerk) (inequalities q p'.limits r.acc r.jerk)
    unfolding inequalities
    inequalities_alike =
        first_alike
        ⧺ list_alike _ _ (q.N0 + 1) (m q - 1) (λ k a b. acceleration_cut k (omega arith, omega arith))
        ⧺ over_alike _ _ q.N0 (m q + 1) (λ k a b. jerk_alike k (omega arith, omega arith))

    standard_cut : cut_block (standard p) ≡ cut_block (standard r)
    unfolding standard cut_block cut_cone
    standard_cut = λ j. record { cones = cut_cone (cone 0 (equalities q p.boundary)) ∷ cone 1 (inequalities_alike.same j) ∷ []; cost = []; charges = [] }

    root_same : root p ≡ root r
    unfolding root
    root_same = ap (λ os. cond (some uses_root os) (root_stage q) nothing) u.chosen

  -- ---- the objectives

  module _ {used : ℕ → Type 0} (h : SameTorque q used p.torque r.torque) (scales : List Float) where
    joint : {stations : ℕ → Type 0} {t t' : List Float} → Same (JointsOf stations d) t t' → (k : ℕ) → stations k → (i : ℕ) → i < d → at t (k * d + i) ⊗ at scales i ≡ at t' (k * d + i) ⊗ at scales i
    joint s k w i lt = ap (λ x. x ⊗ at scales i) (among s k w i lt)

    thermal_cone_cut : (t j k : ℕ) {g g' : ℕ → Float} → used k → ((i : ℕ) → i < d → g i ≡ g' i) → cut_cone (thermal_cone q p.torque scales t j k g) ≡ cut_cone (thermal_cone q r.torque scales t j k g')
    unfolding cut_cone cut_band thermal_cone
    thermal_cone_cut t j k w e =
        ap (cone 2) (ap₂ ◌∷◌ refl (λ z. band d (cut_ext d nan e z) (column d (col_a q k) (joint h.a k w) z ∷ column d (col_b q k) (joint h.b k w) z ∷ []) ∷ []))

    end_rows_same : (t k z i : ℕ) → used k → Resting q z → i < d → end_torque_rows q p.torque scales t k z i ≡ end_torque_rows q r.torque scales t k z i
    unfolding end_torque_rows
    end_rows_same t k z i w s lt = rw (joint h.a k w i lt, joint h.b k w i lt, joint h.g k (inl w) i lt, joint h.g z (inr s) i lt)

    step_rows_same : (t k i : ℕ) → used k → used (k + 1) → i < d → step_torque_rows q p.torque scales t k i ≡ step_torque_rows q r.torque scales t k i
    unfolding step_torque_rows
    step_rows_same t k i w v lt =
        rw (joint h.a k w i lt, joint h.a (k + 1) v i lt, joint h.b k w i lt, joint h.b (k + 1) v i lt, joint h.g k (inl w) i lt, joint h.g (k + 1) (inl v) i lt)

  module _ (h : SameTorque q (WithXi q) p.torque r.torque) (t : Same (λ k. WithXi q k ⊎ Resting q k) p.thermal p'.thermal) (w : Float) (scales : List Float) (c : ℕ) where
    thermal_alike : Alike cut_cone (thermal_block q p.torque p.thermal w scales c).cones (thermal_block q r.torque p'.thermal w scales c).cones
    unfolding thermal_block skip stop L
    thermal_alike =
        let g = joint h scales h.g in
        given_alike (ltb 0 q.N0) (λ e.
        let pos = ltb-true 0 q.N0 e in
        single_alike (thermal_cone_cut h scales c 0 q.N0 (omega arith, omega arith) (λ i lt. ap₂ (λ x y. neg (x ⊕ y)) (g q.N0 (inl (omega arith, omega arith)) i lt) (g 0 (inr (inl (pos, refl))) i lt))))
        ⧺ given_alike (ltb 0 q.N1) (λ e.
        let pos = ltb-true 0 q.N1 e in
        single_alike (thermal_cone_cut h scales (c + flag q.N0) (L q - 1) (stop q) (omega arith, omega arith) (λ i lt. ap₂ (λ x y. neg (x ⊕ y)) (g (stop q) (inl (omega arith, omega arith)) i lt) (g (n q) (inr (inr (pos, refl))) i lt))))
        ⧺ list_alike _ _ 0 (L q) (λ j a b. thermal_cone_cut h scales (c + ends q + j) j (skip q + j) (omega arith, omega arith) (λ i lt. ap neg (g (skip q + j) (inl (omega arith, omega arith)) i lt)))

    thermal_cost : (thermal_block q p.torque p.thermal w scales c).cost ≡ (thermal_block q r.torque p'.thermal w scales c).cost
    unfolding thermal_block skip L
    thermal_cost =
        alike_equal (given_alike (ltb 0 q.N0) (λ e. single_alike (ap (◌⊗◌ w) (t.equal 0 (inr (inl (ltb-true 0 q.N0 e, refl))))))
        ⧺ given_alike (ltb 0 q.N1) (λ e. single_alike (ap (◌⊗◌ w) (t.equal (n q) (inr (inr (ltb-true 0 q.N1 e, refl))))))
        ⧺ list_alike _ _ 0 (L q) (λ j a b. ap (◌⊗◌ (+4 ⊗ w)) (t.equal (skip q + j) (inl (omega arith, omega arith)))))

    thermal_cut : cut_block (thermal_block q p.torque p.thermal w scales c) ≡ cut_block (thermal_block q r.torque p'.thermal w scales c)
    unfolding thermal_block cut_block
    thermal_cut = λ z. record { cones = thermal_alike.same z; cost = thermal_cost z; charges = [] }

  module _ (h : SameTorque q (Moving q) p.torque r.torque) (w : Float) (scales : List Float) (c : ℕ) where
    torque_alike : Alike cut_cone (torque_block q p.torque w scales c).cones (torque_block q r.torque w scales c).cones
    unfolding torque_block stop cut_cone
    torque_alike =
        let rows =
        given_alike (ltb 0 q.N0) (λ e. over_alike _ _ 0 d (λ i a b. equal_alike (end_rows_same h scales c q.N0 0 i (omega arith, omega arith) (inl (ltb-true 0 q.N0 e, refl)) (omega arith))))
        ⧺ given_alike (ltb 0 q.N1) (λ e. over_alike _ _ 0 d (λ i a b. equal_alike (end_rows_same h scales (c + d * flag q.N0) (stop q) (n q) i (omega arith, omega arith) (inr (ltb-true 0 q.N1 e, refl)) (omega arith))))
        ⧺ over_alike _ _ 0 (m q) (λ j a b. over_alike _ _ 0 d (λ i x y. equal_alike (step_rows_same h scales (c + d * (ends q + j)) (q.N0 + j) i (omega arith, omega arith) (omega arith, omega arith) (omega arith)))) in
        single_alike (ap (cone 1) rows.same)

    torque_cut : cut_block (torque_block q p.torque w scales c) ≡ cut_block (torque_block q r.torque w scales c)
    unfolding torque_block cut_block
    torque_cut = λ z. record { cones = torque_alike.same z; cost = replicate (d * (ends q + m q)) w; charges = [] }

  module _ (w : Float) (a al b bl : ℕ) (h : SameFor p r (Linear w a al b bl)) where
    charge_same : (e z k : ℕ) {used : ℕ → Type 0} {t t' : List Float} → Parts q k → Same used t t' → used (k - 1)
        → end_charge q w (part p.pool a al) (part p.pool b bl) e z t k ≡ end_charge q w (part p'.pool a al) (part p'.pool b bl) e z t' k
    unfolding end_charge
    charge_same e z k s t v = rw (h.0.equal k (inr s), h.1.equal k (inr s), t.equal (k - 1) v)

    charges_same : (linear_block q p.roots w (part p.pool a al) (part p.pool b bl)).charges ≡ (linear_block q p'.roots w (part p'.pool a al) (part p'.pool b bl)).charges
    unfolding linear_block
    charges_same =
        alike_equal (list_alike _ _ 1 (q.N0 - 1) (λ k x y. ap (cell (col_a q q.N0)) (charge_same q.N0 0 k (inl (omega arith, omega arith)) h.2 (omega arith)))
        ⧺ list_alike _ _ 1 (q.N1 - 1) (λ k x y. ap (cell (col_a q (stop q))) (charge_same (stop q) (n q) k (inr (omega arith, omega arith)) h.3 (omega arith)))
        ⧺ list_alike _ _ q.N0 (m q + 1) (λ k x y. ap (λ v. cell (col_a q k) (w ⊗ v)) (h.0.equal k (inl (omega arith, omega arith))))
        ⧺ list_alike _ _ q.N0 (m q + 1) (λ k x y. ap (λ v. cell (col_b q k) (w ⊗ v)) (h.1.equal k (inl (omega arith, omega arith)))))

  block_cut : (c : ℕ) (o : Objective) → SameFor p r o → cut_block (objective_block p c o) ≡ cut_block (objective_block r c o)
  unfolding objective_block linear_block cut_block
  block_cut c (Time w) h = refl
  block_cut c (ThermalEnergy w start len) h = thermal_cut h.1 h.2 w _ c ∙ ap (λ s. cut_block (thermal_block q r.torque p'.thermal w s c)) h.0
  block_cut c (TotalVariationTorque w start len) h = torque_cut h.1 w _ c ∙ ap (λ s. cut_block (torque_block q r.torque w s c)) h.0
  block_cut c (Linear w a al b bl) h = λ z. record { cones = []; cost = []; charges = charges_same w a al b bl h z }

  width_same : (c : ℕ) (o : Objective) → SameFor p r o → width (objective_block p c o) ≡ width (objective_block r c o)
  unfolding cut_block
  width_same c o h = ap width (block_cut c o h)

  objectives_alike : (c : ℕ) (os : List Objective) → ((i : ℕ) → SameFor p r (get_or os i (Time nan))) → Alike cut_block (objective_blocks p c os) (objective_blocks r c os)
  unfolding objective_blocks
  objectives_alike c [] h = equal_alike refl
  objectives_alike c (o ∷ os) h =
      record {
        same =
            ap₂ ◌∷◌ (block_cut c o (h 0))
            ((objectives_alike (c + width (objective_block p c o)) os (λ i. h (suc i))).same ∙ ap (λ k. map cut_block (objective_blocks r (c + k) os)) (width_same c o (h 0)));
      }

  pub blocks_alike : Agree p r → Alike cut_block (blocks p) (blocks r)
  unfolding blocks
  blocks_alike u =
      record {
        same =
            ap₂ ◌∷◌ (standard_cut u) (ap₂ ◌∷◌ (ap cut_block (root_same u))
            ((objectives_alike _ (objectives p) u.lists).same ∙ ap₂ (λ b os. map cut_block (objective_blocks r (2 * (n q + 1) + width b) os)) (root_same u) u.chosen));
      }
