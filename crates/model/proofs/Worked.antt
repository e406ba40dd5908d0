-- Worked problems: a feasible point and its cost, what the Rust's sign lets by, a grid whose −2·h overflows, and a problem that has no feasible point.
use Prim.Native.Nat.{ℕ, zero, suc, ◌+◌, ◌*◌, ◌^◌, ◌≤◌, ◌<◌}
use native.Mathlib.Nat.{mul-pos, eq_of_mul-eq-mul_right}
use native.Mathlib.Omega.{arith}
use mathlib.Core.Path.{◌≡◌, refl}
use mathlib.Core.Bool.{false}
use mathlib.Core.List.{[], ◌∷◌}
use lib.ListN.{get_or, replicate}
use lib.IntN.{ℤ, pos, neg_ℤ, ◌+ℤ◌, ◌-ℤ◌, ◌*ℤ◌, zero-*ℤ}
use lib.Signed.{◌≤ℤ◌, le_z_yes}
use lib.Ieee.{binary64, of_bits}
use Rattle.model.specs.Verdicts.{accepted}
use Rattle.model.specs.Numbers.{finite, ◌⊗◌, +0, +1, +2, −2, +∞}
use Rattle.model.specs.Problem.{Problem, Torque, L, skip, stop, spacing}
use Rattle.model.specs.Refusals.{refusal}
use Rattle.model.specs.Conic.{units, Feasible, cost_at}
use Rattle.model.specs.Conic
use Rattle.model.specs.Ledger.{case_a, given}
use Rattle.model.specs.declared.Boundary.{Boundary}
use Rattle.model.specs.declared.Objective.TheVariants.{TotalVariationTorque, Linear}
use Rattle.model.proofs.Integers.{View, over, under, view, AsDiff, is, as_diff, differences}
use Rattle.model.specs.Meaning.{one, Meaning}
use Rattle.model.proofs.Units.{one_above, units_zero}
use Rattle.model.proofs.Feasible.{feasible_cones}
use Rattle.model.proofs.Scaling.{zero_law}
use Rattle.model.proofs.Demand3.{Acceptable}
use Rattle.model.proofs.Demand2.{demand2}
use Rattle.model.proofs.Ledger.{everything}

-- a problem with another boundary and other torque tables
abbrev changed : Boundary → Torque → Problem → Problem
changed x t p =
    record {
      boundary = x;
      path = p.path;
      count = p.count;
      slots = p.slots;
      pool = p.pool;
      limits = p.limits;
      acc = p.acc;
      jerk = p.jerk;
      thermal = p.thermal;
      torque = t;
      roots = p.roots;
    }

-- a = 1 and b = 0 at both ends
abbrev unit_speed : Boundary
unit_speed = record { a0 = +1; a1 = +1; b0 = +0; b1 = +0 }

-- ---- grid 0, 1, 2, one Time: a feasible point, and its cost is the travel time

abbrev steady : Problem
steady = changed unit_speed case_a.torque case_a

-- a = 1, b = 0, xi = 1, eta = 1
abbrev point : ℕ → ℤ
point c = get_or (pos 1 ∷ pos 1 ∷ pos 1 ∷ pos 0 ∷ pos 0 ∷ pos 0 ∷ pos 1 ∷ pos 1 ∷ []) c (pos 0)

pub steady_feasible : Feasible steady 1 point
unfolding everything Feasible Conic.slack Conic.units
steady_feasible = (
  omega arith,
  (
    (refl, (refl, (refl, (refl, (refl, (refl, tt)))))),
    ((le_z_yes tt, (le_z_yes tt, (le_z_yes tt, (le_z_yes tt, (le_z_yes tt, tt))))), ((le_z_yes tt, tt), ((le_z_yes tt, le_z_yes tt), ((le_z_yes tt, tt), ((le_z_yes tt, le_z_yes tt), tt))))),
  ),
)

-- 1
pub steady_cost : cost_at steady point ≡ pos one
unfolding everything cost_at Conic.units one
steady_cost = refl

-- ---- the Rust's sign in TotalVariationTorque: the case of docs/DIFFERENCES.md, one joint, table 11 is 0, 1, 1 and table 13 is 0, 1, 1

abbrev turning : Problem
turning =
    changed unit_speed (record { d = 1; a = +0 ∷ +1 ∷ +1 ∷ []; b = replicate 3 +0; g = +0 ∷ +1 ∷ +1 ∷ [] })
    (given +0 (+0 ∷ +1 ∷ +2 ∷ []) 0 0 1 (TotalVariationTorque +1 0 1 ∷ []) (replicate 3 +∞) 0)

-- a = 1, b = 0: the torque is 0, 2, 2, its variation is 2, and the point with t = 0 is feasible and costs nothing
abbrev still : ℕ → ℤ
still c = get_or (pos 1 ∷ pos 1 ∷ pos 1 ∷ []) c (pos 0)

pub turning_accepted : Acceptable turning
unfolding everything
turning_accepted = refl

pub turning_feasible : Feasible turning 1 still
unfolding everything Feasible Conic.slack Conic.units
turning_feasible = (
  omega arith,
  (
    (refl, (refl, (refl, (refl, (refl, (refl, tt)))))),
    ((le_z_yes tt, (le_z_yes tt, (le_z_yes tt, (le_z_yes tt, (le_z_yes tt, tt))))), ((le_z_yes tt, (le_z_yes tt, (le_z_yes tt, (le_z_yes tt, tt)))), tt)),
  ),
)

pub turning_cost : cost_at turning still ≡ pos 0
unfolding everything cost_at Conic.units
turning_cost = refl

-- ---- refusals 1 to 18 let −2·h overflow: `TwiceFinite` is not idle, and refusal 20 is what grants it

-- grid 0, 2^1023, 1.5·2^1023, one Linear; a is 2^1023 and 2^1022 and b is −2 and 0 at the ends
abbrev linear : Problem
linear = given +0 (+0 ∷ of_bits binary64 0x7fe0000000000000 ∷ of_bits binary64 0x7fe8000000000000 ∷ []) 0 0 1 (Linear +1 1 3 4 3 ∷ []) (replicate 3 +∞) 0

abbrev wide : Problem
wide = changed (record { a0 = of_bits binary64 0x7fe0000000000000; a1 = of_bits binary64 0x7fd0000000000000; b0 = −2; b1 = +0 }) linear.torque linear

pub wide_passes : refusal wide ≡ accepted
unfolding everything
wide_passes = refl

pub wide_overflows : finite (−2 ⊗ spacing wide.path 0) ≡ false
unfolding everything
wide_overflows = refl

-- a is 2^1023, 0, 2^1022 and b is −2, 1, 0: the rows hold, an infinity counting as 0, and 2·a[0] + 2·h·b[0] + h·b[1] is −h
abbrev far : ℕ → ℤ
far c = get_or (pos (2 ^ 1023) ∷ pos 0 ∷ pos (2 ^ 1022) ∷ neg_ℤ (pos 2) ∷ pos 1 ∷ pos 0 ∷ []) c (pos 0)

pub wide_feasible : Feasible wide 1 far
unfolding everything Feasible Conic.slack Conic.units
wide_feasible = (
  omega arith,
  ((refl, (refl, (refl, (refl, (refl, (refl, tt)))))), ((le_z_yes tt, (le_z_yes tt, (le_z_yes tt, (le_z_yes tt, (le_z_yes tt, tt))))), tt)),
)

pub wide_fails : Meaning wide 1 far → ⊥
unfolding everything Conic.units one
wide_fails g = (g.inequalities.intervals 0 (omega arith) (omega arith)).1.le

-- ---- case A of the ledger has no feasible point: at rest at both ends of two steps of equal length, a[1] is 0, so xi is 0 and no eta is 1/xi

rest_law : (u : ℕ) → 0 < u → {x b : ℤ} → AsDiff x → AsDiff b → pos u *ℤ (pos 0 -ℤ x) +ℤ pos u *ℤ (pos 0 +ℤ b) ≡ pos 0
    → pos u *ℤ (x -ℤ pos 0) +ℤ pos u *ℤ (b +ℤ pos 0) ≡ pos 0 → x ≡ pos 0
rest_law u h (is a b) (is c d) = simp differences (λ e f. omega (arith, eq_of_mul-eq-mul_right u h a b (omega arith)))

square_law : {x : ℤ} → AsDiff x → (D : ℕ) → (x *ℤ x) ≤ℤ (pos 0 *ℤ pos D) → x ≡ pos 0
square_law (is a b) D = simp differences (λ e. go a b (view a b) (omega arith))
  where
    go : (a b : ℕ) → View a b → a * a + b * b ≤ a * b + b * a → a + 0 ≡ 0 + b
    go _ _ (over b zero) e = omega arith
    go _ _ (over b (suc k)) e = absurd (omega arith)
    go _ _ (under a k) e = absurd (omega arith)

product_law : (D : ℕ) → 0 < D → {e : ℤ} → AsDiff e → (pos D *ℤ pos D) ≤ℤ (pos 0 *ℤ e) → ⊥
product_law D h (is a b) = simp differences (λ e. omega (arith, mul-pos h h))

case_a_accepted : Acceptable case_a
unfolding everything
case_a_accepted = refl

module _ (D : ℕ) (z : ℕ → ℤ) where
  one_spacing : (k : ℕ) → k < 2 → units (spacing case_a.path k) ≡ pos one
  unfolding everything Conic.units one
  one_spacing zero h = refl
  one_spacing (suc zero) h = refl
  one_spacing (suc (suc k)) h = absurd (omega arith)

  -- a[1], then xi, are 0
  at_rest : Meaning case_a D z → z 1 ≡ pos 0
  unfolding stop
  at_rest g =
      let a0 : z 0 ≡ pos 0 = (zero_law one one_above (as_diff (z 0))).0 (rw (units_zero, zero-*ℤ (pos D)) at g.equalities.a_first) in
      let a2 : z 2 ≡ pos 0 = (zero_law one one_above (as_diff (z 2))).0 (rw (units_zero, zero-*ℤ (pos D)) at g.equalities.a_last) in
      let b0 : z 3 ≡ pos 0 = (zero_law one one_above (as_diff (z 3))).0 (rw (units_zero, zero-*ℤ (pos D)) at g.equalities.b_first) in
      let b2 : z 5 ≡ pos 0 = (zero_law one one_above (as_diff (z 5))).0 (rw (units_zero, zero-*ℤ (pos D)) at g.equalities.b_last) in
      rest_law one one_above (as_diff (z 1)) (as_diff (z 4)) (simp (a0, b0, one_spacing 0 (omega arith)) at (g.equalities.moving 0 (omega arith) (omega arith)))
      (simp (a2, b2, one_spacing 1 (omega arith)) at (g.equalities.moving 1 (omega arith) (omega arith)))

  pub case_a_none : Feasible case_a D z → ⊥
  unfolding L skip
  case_a_none h =
      let d = ((feasible_cones D z case_a).0 h).0 in
      let g = ((demand2 case_a case_a_accepted).says D z d).0 h in
      let x : z 6 ≡ pos 0 = square_law (as_diff (z 6)) D (rw (at_rest g) at ((g.roots refl).root 0 (omega arith))) in
      product_law D d (as_diff (z 7)) (rw x at (g.own.0.product 0 (omega arith)))
