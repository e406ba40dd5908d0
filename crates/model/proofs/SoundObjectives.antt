-- The root stage and the objectives are sound: TotalVariationTorque once over d.
use Prim.Native.Nat.{ℕ, suc, ◌+◌, ◌-◌, ◌*◌, ◌≤◌, ◌<◌}
use native.Mathlib.Nat.{mul-le-mul_left, mul-suc}
use native.Mathlib.Omega.{arith}
use mathlib.Core.Path.{◌≡◌}
use mathlib.Core.List.{List}
use lib.Ieee.{Float}
use borrow.Author.Tests.{ltb-true}
use Rattle.model.specs.Problem.{Path, Torque, n, m, L, ends, flag, stop, skip}
use Rattle.model.specs.Program.{Cone}
use Rattle.model.specs.Standard.{root_cone, root_stage}
use Rattle.model.specs.Objectives.{time_cone, time_block, thermal_cone, thermal_block, end_torque_rows, step_torque_rows, torque_block}
use Rattle.model.proofs.All.{All, all_append, all_given, all_list, all_over}
use Rattle.model.proofs.Shape.{Sound, positive_sound}
use Rattle.model.proofs.Sizes.{Sizes, ends_end}

-- all rows of a cone are sound
abbrev pub SoundCone : ℕ → Cone → Type 0
SoundCone C k = All (Sound C) k.bands

-- slot i of row j, in rows of d slots
slot : (d j k i : ℕ) → i < d → j < k → d * j + i < d * k
slot d j k i h l =
    let a : d * suc j ≤ d * k = mul-le-mul_left d l in
    let b : d * suc j ≡ d * j + d = mul-suc d j in
    omega arith

module _ (q : Path) (l : Sizes q) where
  root_cone_sound : (j : ℕ) → j < L q → SoundCone (2 * (n q + 1) + L q) (root_cone q j)
  unfolding root_cone
  root_cone_sound j h = omega arith

  pub root_sound : All (SoundCone (2 * (n q + 1) + L q)) (root_stage q).cones
  unfolding root_stage
  root_sound =
      simp (all_list (SoundCone (2 * (n q + 1) + L q)), all_list (Sound (2 * (n q + 1) + L q)))
      ((λ j a b. positive_sound _ _ (omega arith)), λ j a b. root_cone_sound j (omega arith))

  module _ (c : ℕ) (after : 2 * (n q + 1) + L q ≤ c) where
    time_cone_sound : (j : ℕ) → j < L q → SoundCone (c + L q) (time_cone q c j)
    unfolding time_cone
    time_cone_sound j h = omega arith

    pub time_sound : (w : Float) → All (SoundCone (c + L q)) (time_block q w c).cones
    unfolding time_block
    time_sound w =
        simp (all_list (SoundCone (c + L q)), all_list (Sound (c + L q)))
        ((λ j a b. positive_sound _ _ (omega arith)), λ j a b. time_cone_sound j (omega arith))

    thermal_cone_sound : (x : Torque) (o : List Float) (t j k : ℕ) (g : ℕ → Float) → c ≤ t → t < c + (ends q + L q) → j < L q → k ≤ n q
        → SoundCone (c + (ends q + L q)) (thermal_cone q x o t j k g)
    unfolding thermal_cone
    thermal_cone_sound x o t j k g a b e f = omega arith

    pub thermal_sound : (x : Torque) (weights : List Float) (w : Float) (o : List Float) → All (SoundCone (c + (ends q + L q))) (thermal_block q x weights w o c).cones
    unfolding thermal_block
    thermal_sound x weights w o =
        simp (all_append (SoundCone (c + (ends q + L q))), all_given (SoundCone (c + (ends q + L q))), all_list (SoundCone (c + (ends q + L q)))) (
          (
            (λ e. (thermal_cone_sound x o c 0 q.N0 _ (omega arith) (omega (arith, ltb-true)) (omega arith) (omega arith), tt)),
            λ e. (thermal_cone_sound x o (c + flag q.N0) (L q - 1) (stop q) _ (omega arith) (omega (arith, ends_end q (omega (arith, ltb-true)))) (omega arith) (omega arith), tt),
          ),
          λ j a b. thermal_cone_sound x o (c + ends q + j) j (skip q + j) _ (omega arith) (omega arith) (omega arith) (omega arith),
        )

  -- the rows of joint i, whose own column is c + d * j + i, in a block of k times d columns
  module _ (x : Torque) (c : ℕ) (after : 2 * (n q + 1) ≤ c) (o : List Float) where
    end_torque_sound : (C t k z i : ℕ) → c ≤ t → t + i < C → k ≤ n q → 2 * (n q + 1) ≤ C → All (Sound C) (end_torque_rows q x o t k z i)
    unfolding end_torque_rows
    end_torque_sound C t k z i a b f g = omega arith

    step_torque_sound : (C t k i : ℕ) → c ≤ t → t + i < C → k < n q → 2 * (n q + 1) ≤ C → All (Sound C) (step_torque_rows q x o t k i)
    unfolding step_torque_rows
    step_torque_sound C t k i a b f g = (omega arith, (omega arith, tt))

    pub torque_sound : (w : Float) → All (SoundCone (c + x.d * (ends q + m q))) (torque_block q x w o c).cones
    unfolding torque_block
    torque_sound w =
        simp (all_append (Sound (c + x.d * (ends q + m q))), all_given (Sound (c + x.d * (ends q + m q))), all_over (Sound (c + x.d * (ends q + m q)))) (
          (
            (
              (λ e i a b. end_torque_sound _ c q.N0 0 i (omega arith) (omega (arith, slot x.d 0 (ends q + m q) i (omega arith) (omega arith))) (omega arith) (omega arith)),
              λ e i a b. end_torque_sound _ (c + x.d * flag q.N0) (stop q) (n q) i (omega arith) (omega (arith, slot x.d (flag q.N0) (ends q + m q) i (omega arith) (omega (arith, ends_end q (omega (arith, ltb-true)))))) (omega arith) (omega arith),
            ),
            λ j a b i f g. step_torque_sound _ (c + x.d * (ends q + j)) (q.N0 + j) i (omega arith) (omega (arith, slot x.d (ends q + j) (ends q + m q) i (omega arith) (omega arith))) (omega arith) (omega arith),
          ),
          tt,
        )
