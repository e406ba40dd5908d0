-- The bands of the torque objectives, and what the scans look at. Assumes nothing.
use mathlib.Core.Path.{◌≡◌, refl, sym, ap, ap₂, ◌∙◌}
use mathlib.Core.Bool.{Bool, true, false, ◌&&◌}
use mathlib.Core.List.{List, [], ◌∷◌, ◌++◌, append-nil}
use Prim.Native.Nat.{ℕ, zero, suc, ◌+◌, ◌*◌, ◌-◌, ◌<◌, max}
use native.Mathlib.Nat.{mul-pos}
use native.Mathlib.Omega.{arith}
use lib.Dec.{ltb}
use lib.Ieee.{Float, neg, of_bits}
use lib.ListN.{length, replicate}
use Rattle.model.specs.Numbers.{finite, at, ◌⊕◌, ◌⊖◌, ◌⊗◌, +4}
use Rattle.model.specs.Lists.{list, over, given}
use Rattle.model.specs.Problem.{Path, Torque, stop, skip, m, n, L, ends, flag}
use Rattle.model.specs.Program.{Cone}
use Rattle.model.specs.Assembled.{all_finite}
use Rattle.model.specs.Objectives.{end_torque_rows, step_torque_rows, torque_block, thermal_cone, thermal_block}
use Rattle.buffers.proofs.Laws.{and_assoc, all_append}
use Rattle.finiteness.specs.Finite.{each, Each, if_test, finite_bands, finite_cones, finite_block}
use Rattle.finite_objectives.specs.Tests.{times, joint_test, joint_end_test, thermal_end, thermal_at, step_test, end_test}
use Rattle.model.proofs.Values.{finite_neg}
use Rattle.finiteness.proofs.Laws.{and_true, and_swap, each_same, each_and, finite_append, finite_over, cones_append, list_finite, finite_given, list_cones}
use Rattle.finite_objectives.proofs.Costs.{from_zero}

pub own_columns : (q : Path) (d : ℕ) → q.N0 + q.N1 < n q → 0 < d → 0 < d * (ends q + m q)
unfolding m
own_columns q d l h = mul-pos h (omega arith)

-- the numbers of a loop over stations
pub xi_stations : (q : Path) {a c j : ℕ} → a ≡ max q.N0 1 → c ≡ L q → 2 < length q.grid → j < c → a + j < length q.grid
unfolding L
xi_stations q e f l h = omega arith

-- ---- flags

if_and : (b x y : Bool) → (if_test b x && if_test b y) ≡ if_test b (x && y)
if_and true x y = refl
if_and false x y = refl

-- two rows of three numbers, and of five, of which the last is a constant
two : (a b u v : Bool) → (((a && true) && ((b && true) && true)) && (u && true)) && ((((a && true) && ((b && true) && true)) && (v && true)) && true) ≡ (a && (b && (u && v)))
two false b u v = refl
two true false u v = refl
two true true false v = refl
two true true true false = refl
two true true true true = refl

six : (a c b d u v : Bool)
    → (((a && true) && ((c && true) && ((b && true) && ((d && true) && true)))) && (u && true)) && ((((a && true) && ((c && true) && ((b && true) && ((d && true) && true)))) && (v && true)) && true)
    ≡ (a && (c && (b && (d && (u && v)))))
six false c b d u v = refl
six true false b d u v = refl
six true true false d u v = refl
six true true true false u v = refl
six true true true true false v = refl
six true true true true true false = refl
six true true true true true true = refl

-- ---- TotalVariationTorque

module _ (q : Path) (x : Torque) (y : List Float) where
  abbrev A : ℕ → ℕ → Float
  A k i = times x.a y x.d k i

  abbrev B : ℕ → ℕ → Float
  B k i = times x.b y x.d k i

  abbrev G : ℕ → ℕ → Float
  G k i = times x.g y x.d k i

  end_scanned : (t k z i : ℕ) → finite_bands (end_torque_rows q x y t k z i) ≡ end_test x y k z i
  unfolding end_torque_rows of_bits neg
  end_scanned t k z i =
      (λ j. (((finite (A k i) && true) && ((finite (B k i) && true) && true)) && (finite (G k i ⊖ G z i) && true))
      && ((((finite_neg (A k i) j && true) && ((finite_neg (B k i) j && true) && true)) && (finite (G z i ⊖ G k i) && true)) && true))
      ∙ two (finite (A k i)) (finite (B k i)) (finite (G k i ⊖ G z i)) (finite (G z i ⊖ G k i))

  step_scanned : (t k i : ℕ) → finite_bands (step_torque_rows q x y t k i) ≡ step_test x y k i
  unfolding step_torque_rows of_bits neg
  step_scanned t k i =
      (λ j. (((finite_neg (A k i) j && true) && ((finite (A (k + 1) i) && true) && ((finite_neg (B k i) j && true) && ((finite (B (k + 1) i) && true) && true)))) && (finite (G (k + 1) i ⊖ G k i) && true))
      && ((((finite (A k i) && true) && ((finite_neg (A (k + 1) i) j && true) && ((finite (B k i) && true) && ((finite_neg (B (k + 1) i) j && true) && true)))) && (finite (G k i ⊖ G (k + 1) i) && true)) && true))
      ∙ six (finite (A k i)) (finite (A (k + 1) i)) (finite (B k i)) (finite (B (k + 1) i)) (finite (G (k + 1) i ⊖ G k i)) (finite (G k i ⊖ G (k + 1) i))

  ends_scanned : (b : Bool) (t k z : ℕ) → finite_bands (given b (over (end_torque_rows q x y t k z) 0 x.d)) ≡ if_test b (each (end_test x y k z) 0 x.d)
  ends_scanned b t k z =
      finite_given b (over (end_torque_rows q x y t k z) 0 x.d)
      ∙ ap (if_test b)
      (finite_over (end_torque_rows q x y t k z) 0 x.d ∙ each_same (λ i. finite_bands (end_torque_rows q x y t k z i)) (end_test x y k z) 0 x.d (end_scanned t k z))

  steps_scanned : (t : ℕ → ℕ) (c : ℕ)
      → finite_bands (over (λ j. over (step_torque_rows q x y (t j) (q.N0 + j)) 0 x.d) 0 c) ≡ each (λ j. each (step_test x y (q.N0 + j)) 0 x.d) 0 c
  steps_scanned t c =
      finite_over (λ j. over (step_torque_rows q x y (t j) (q.N0 + j)) 0 x.d) 0 c
      ∙ each_same (λ j. finite_bands (over (step_torque_rows q x y (t j) (q.N0 + j)) 0 x.d)) (λ j. each (step_test x y (q.N0 + j)) 0 x.d) 0 c
      (λ j. finite_over (step_torque_rows q x y (t j) (q.N0 + j)) 0 x.d
      ∙ each_same (λ i. finite_bands (step_torque_rows q x y (t j) (q.N0 + j) i)) (step_test x y (q.N0 + j)) 0 x.d (step_scanned (t j) (q.N0 + j)))

replicate_finite : (c : ℕ) (w : Float) → 0 < c → all_finite (replicate c w) ≡ finite w
replicate_finite zero w l = absurd (omega arith)
replicate_finite (suc c) w l = go c where
  go : (c : ℕ) → all_finite (replicate (suc c) w) ≡ finite w
  go zero = and_true (finite w)
  go (suc c) = ap (λ (b : Bool). finite w && b) (go c) ∙ twice (finite w) where
    twice : (b : Bool) → (b && b) ≡ b
    twice true = refl
    twice false = refl

pub torque_scanned : (q : Path) (x : Torque) (y : List Float) (w : Float) (c : ℕ) → 0 < x.d * (ends q + m q) → {f g r v : Bool}
    → f ≡ if_test (ltb 0 q.N0) (each (end_test x y q.N0 0) 0 x.d) → g ≡ if_test (ltb 0 q.N1) (each (end_test x y (stop q) (n q)) 0 x.d)
    → Each r (λ k. each (step_test x y k) 0 x.d) q.N0 (m q) → v ≡ finite w
    → ((f && g) && (r && v)) ≡ finite_block (torque_block q x w y c)
unfolding torque_block
torque_scanned q x y w c l {f} {g} {r} {v} first second rest weight =
    let e0 = over (end_torque_rows q x y c q.N0 0) 0 x.d in
    let e1 = over (end_torque_rows q x y (c + x.d * flag q.N0) (stop q) (n q)) 0 x.d in
    let st = over (λ j. over (step_torque_rows q x y (c + x.d * (ends q + j)) (q.N0 + j)) 0 x.d) 0 (m q) in
    let g0 = given (ltb 0 q.N0) e0 in
    let g1 = given (ltb 0 q.N1) e1 in
    let one : f ≡ finite_bands g0 = first ∙ sym (ends_scanned q x y (ltb 0 q.N0) c q.N0 0) in
    let two : g ≡ finite_bands g1 = second ∙ sym (ends_scanned q x y (ltb 0 q.N1) (c + x.d * flag q.N0) (stop q) (n q)) in
    let three : r ≡ finite_bands st = (from_zero rest).says ∙ sym (steps_scanned q x y (λ j. c + x.d * (ends q + j)) (m q)) in
    sym (and_assoc (f && g) r v)
    ∙ ap₂ (λ (a b : Bool). a && b)
    (ap₂ (λ (a b : Bool). a && b) (ap₂ (λ (a b : Bool). a && b) one two ∙ sym (finite_append g0 g1)) three ∙ sym (finite_append (g0 ++ g1) st) ∙ ap finite_bands (sym (append-nil (g0 ++ g1 ++ st))))
    (weight ∙ sym (replicate_finite (x.d * (ends q + m q)) w l))

-- ---- ThermalEnergy

module _ (q : Path) (x : Torque) (y : List Float) where
  cone_scanned : (t j k : ℕ) (g : ℕ → Float)
      → finite_bands (thermal_cone q x y t j k g).bands ≡ each (λ i. finite (times x.a y x.d k i) && (finite (times x.b y x.d k i) && finite (g i))) 0 x.d
  unfolding thermal_cone of_bits neg
  cone_scanned t j k g =
      let a = each (λ i. finite (times x.a y x.d k i)) 0 x.d in
      let b = each (λ i. finite (times x.b y x.d k i)) 0 x.d in
      let h = each (λ i. finite (g i)) 0 x.d in
      go a b h
      ∙ ap (λ (z : Bool). a && z) (sym (each_and (λ i. finite (times x.b y x.d k i)) (λ i. finite (g i)) 0 x.d))
      ∙ sym (each_and (λ i. finite (times x.a y x.d k i)) (λ i. finite (times x.b y x.d k i) && finite (g i)) 0 x.d)
    where
      go : (a b h : Bool) → (((a && (b && true)) && h) && true) ≡ (a && (b && h))
      go false b h = refl
      go true false h = refl
      go true true h = and_true h

  cone_end : (t j k z : ℕ) → finite_bands (thermal_cone q x y t j k (λ i. neg (times x.g y x.d k i ⊕ times x.g y x.d z i))).bands ≡ each (joint_end_test x y k z) 0 x.d
  cone_end t j k z =
      cone_scanned t j k (λ i. neg (times x.g y x.d k i ⊕ times x.g y x.d z i))
      ∙ each_same (λ i. finite (times x.a y x.d k i) && (finite (times x.b y x.d k i) && finite (neg (times x.g y x.d k i ⊕ times x.g y x.d z i)))) (joint_end_test x y k z) 0 x.d
      (λ i p. finite (times x.a y x.d k i) && (finite (times x.b y x.d k i) && finite_neg (times x.g y x.d k i ⊕ times x.g y x.d z i) p))

  cone_moving : (t j k : ℕ) → finite_bands (thermal_cone q x y t j k (λ i. neg (times x.g y x.d k i))).bands ≡ each (joint_test x y k) 0 x.d
  cone_moving t j k =
      cone_scanned t j k (λ i. neg (times x.g y x.d k i))
      ∙ each_same (λ i. finite (times x.a y x.d k i) && (finite (times x.b y x.d k i) && finite (neg (times x.g y x.d k i)))) (joint_test x y k) 0 x.d
      (λ i p. finite (times x.a y x.d k i) && (finite (times x.b y x.d k i) && finite_neg (times x.g y x.d k i) p))

one_cone : (b : Bool) (c : Cone) → finite_cones (given b (c ∷ [])) ≡ if_test b (finite_bands c.bands)
one_cone true c = ap finite_bands (append-nil c.bands)
one_cone false c = refl

one_cost : (b : Bool) (w : Float) → all_finite (given b (w ∷ [])) ≡ if_test b (finite w)
one_cost true w = and_true (finite w)
one_cost false w = refl

pub thermal_scanned : (q : Path) (x : Torque) (weights : List Float) (w : Float) (y : List Float) (c : ℕ) → {f g r : Bool}
    → f ≡ if_test (ltb 0 q.N0) (thermal_end x y weights w q.N0 0) → g ≡ if_test (ltb 0 q.N1) (thermal_end x y weights w (stop q) (n q))
    → Each r (thermal_at x y weights w) (skip q) (L q)
    → ((f && g) && r) ≡ finite_block (thermal_block q x weights w y c)
unfolding thermal_block
thermal_scanned q x weights w y c {f} {g} {r} first second rest =
    let d = x.d in
    let h0 : ℕ → Float = λ i. neg (times x.g y d q.N0 i ⊕ times x.g y d 0 i) in
    let h1 : ℕ → Float = λ i. neg (times x.g y d (stop q) i ⊕ times x.g y d (n q) i) in
    let c0 = thermal_cone q x y c 0 q.N0 h0 in
    let c1 = thermal_cone q x y (c + flag q.N0) (L q - 1) (stop q) h1 in
    let cj : ℕ → Cone = λ j. thermal_cone q x y (c + ends q + j) j (skip q + j) (λ i. neg (times x.g y d (skip q + j) i)) in
    let b0 = ltb 0 q.N0 in
    let b1 = ltb 0 q.N1 in
    let z0 = w ⊗ at weights 0 in
    let z1 = w ⊗ at weights (n q) in
    let zj : ℕ → Float = λ j. +4 ⊗ w ⊗ at weights (skip q + j) in
    let C0 = finite_cones (given b0 (c0 ∷ [])) in
    let C1 = finite_cones (given b1 (c1 ∷ [])) in
    let CL = finite_cones (list cj 0 (L q)) in
    let K0 = all_finite (given b0 (z0 ∷ [])) in
    let K1 = all_finite (given b1 (z1 ∷ [])) in
    let KL = all_finite (list zj 0 (L q)) in
    let one : f ≡ (C0 && K0) =
    first ∙ sym (if_and b0 (each (joint_end_test x y q.N0 0) 0 d) (finite z0))
    ∙ ap₂ (λ (a b : Bool). a && b) (ap (if_test b0) (sym (cone_end q x y c 0 q.N0 0)) ∙ sym (one_cone b0 c0)) (sym (one_cost b0 z0)) in
    let two : g ≡ (C1 && K1) =
    second ∙ sym (if_and b1 (each (joint_end_test x y (stop q) (n q)) 0 d) (finite z1))
    ∙ ap₂ (λ (a b : Bool). a && b) (ap (if_test b1) (sym (cone_end q x y (c + flag q.N0) (L q - 1) (stop q) (n q))) ∙ sym (one_cone b1 c1)) (sym (one_cost b1 z1)) in
    let three : r ≡ (CL && KL) =
    (from_zero rest).says ∙ each_and (λ j. each (joint_test x y (skip q + j)) 0 d) (λ j. finite (zj j)) 0 (L q)
    ∙ ap₂ (λ (a b : Bool). a && b)
    (each_same (λ j. each (joint_test x y (skip q + j)) 0 d) (λ j. finite_bands (cj j).bands) 0 (L q) (λ j. sym (cone_moving q x y (c + ends q + j) j (skip q + j))) ∙ sym (list_cones cj 0 (L q)))
    (sym (list_finite zj 0 (L q))) in
    ap₂ (λ (a b : Bool). a && b) (ap₂ (λ (a b : Bool). a && b) one two ∙ and_swap C0 K0 C1 K1) three
    ∙ and_swap (C0 && C1) (K0 && K1) CL KL
    ∙ ap₂ (λ (a b : Bool). a && b)
    (ap (λ (b : Bool). b && CL) (sym (cones_append (given b0 (c0 ∷ [])) (given b1 (c1 ∷ [])))) ∙ sym (cones_append (given b0 (c0 ∷ []) ++ given b1 (c1 ∷ [])) (list cj 0 (L q))))
    (ap (λ (b : Bool). b && KL) (sym (all_append (given b0 (z0 ∷ [])) (given b1 (z1 ∷ [])))) ∙ sym (all_append (given b0 (z0 ∷ []) ++ given b1 (z1 ∷ [])) (list zj 0 (L q))))
