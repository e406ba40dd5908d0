-- The sizes of the root stage and of the objectives: rows and entries by one measure, cones, columns.
use Prim.Native.Nat.{ℕ, ◌+◌, ◌*◌}
use native.Mathlib.Nat.{add-zero, add-mul}
use native.Mathlib.Omega.{arith}
use mathlib.Core.Path.{◌≡◌}
use mathlib.Core.List.{List}
use lib.Ieee.{Float}
use Rattle.model.specs.Lists.{sum}
use Rattle.model.specs.Problem.{Path, Torque, m, L, ends}
use Rattle.model.specs.Program.{Cone}
use Rattle.model.specs.Standard.{root_cone, root_stage}
use Rattle.model.specs.Objectives.{time_cone, time_block, thermal_cone, thermal_block, end_torque_rows, step_torque_rows, torque_block}
use Rattle.model.proofs.Sums.{sum_append, sum_given, sum_list, sum_over_lem, sum_over_const, flag_of}
use Rattle.model.proofs.CountStandard.{measure, positive_measure}

abbrev pub cone_measure : (ℕ → ℕ) → Cone → ℕ
cone_measure g k = sum (measure g) k.bands

module _ (q : Path) (g : ℕ → ℕ) where
  root_cone_measure : (j : ℕ) → cone_measure g (root_cone q j) ≡ 3 * g 1
  unfolding root_cone
  root_cone_measure j = omega arith

  pub root_measure : sum (cone_measure g) (root_stage q).cones ≡ L q * g 1 + L q * (3 * g 1)
  unfolding root_stage
  root_measure = simp (sum_list (measure g), sum_list (cone_measure g), root_cone_measure, positive_measure q g, sum_over_const)

  time_cone_measure : (c j : ℕ) → cone_measure g (time_cone q c j) ≡ 2 * g 2 + g 0
  unfolding time_cone
  time_cone_measure c j = omega arith

  pub time_measure : (w : Float) (c : ℕ) → sum (cone_measure g) (time_block q w c).cones ≡ L q * g 1 + L q * (2 * g 2 + g 0)
  unfolding time_block
  time_measure w c = simp (sum_list (measure g), sum_list (cone_measure g), time_cone_measure, positive_measure q g, sum_over_const)

  thermal_cone_measure : (x : Torque) (o : List Float) (t j k : ℕ) (r : ℕ → Float) → cone_measure g (thermal_cone q x o t j k r) ≡ 2 * g 2 + x.d * g 2
  unfolding thermal_cone
  thermal_cone_measure x o t j k r = omega arith

  pub thermal_measure : (x : Torque) (weights : List Float) (w : Float) (o : List Float) (c : ℕ) → sum (cone_measure g) (thermal_block q x weights w o c).cones ≡ (ends q + L q) * (2 * g 2 + x.d * g 2)
  unfolding thermal_block ends
  thermal_measure x weights w o c =
      simp (sum_append (cone_measure g), sum_given (cone_measure g), sum_list (cone_measure g), flag_of, thermal_cone_measure, sum_over_const, add-zero, add-mul)

  end_torque_measure : (x : Torque) (o : List Float) (t k z i : ℕ) → sum (measure g) (end_torque_rows q x o t k z i) ≡ 2 * g 3
  unfolding end_torque_rows
  end_torque_measure x o t k z i = omega arith

  step_torque_measure : (x : Torque) (o : List Float) (t k i : ℕ) → sum (measure g) (step_torque_rows q x o t k i) ≡ 2 * g 5
  unfolding step_torque_rows
  step_torque_measure x o t k i = omega arith

  pub torque_measure : (x : Torque) (w : Float) (o : List Float) (c : ℕ) → sum (cone_measure g) (torque_block q x w o c).cones ≡ ends q * (x.d * (2 * g 3)) + m q * (x.d * (2 * g 5))
  unfolding torque_block ends
  torque_measure x w o c = simp (sum_append (measure g), sum_given (measure g), flag_of, sum_over_lem (measure g), end_torque_measure, step_torque_measure, sum_over_const, add-zero, add-mul)
