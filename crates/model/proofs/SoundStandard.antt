-- The standard rows and the root stage are sound.
use Prim.Native.Nat.{ℕ, ◌+◌, ◌*◌, ◌≤◌, ◌<◌}
use native.Mathlib.Omega.{arith}
use lib.Ieee.{Float}
use borrow.Author.Tests.{ltb-true}
use Rattle.model.specs.Numbers.{at}
use Rattle.model.specs.Problem.{Path, Limits, Acceleration, Jerk, n, stop}
use Rattle.model.specs.Program.{Band}
use Rattle.model.specs.Standard.{boundary_rows, stationary_row, moving_rows, equalities, upper_row, end_rows, interval_rows, first_order, acceleration_rows, backward_rows, forward_rows, jerk_rows_at, inequalities}
use Rattle.model.specs.declared.Boundary.{Boundary}
use Rattle.model.specs.declared.Bounds.{Bounds}
use Rattle.model.proofs.All.{All, all_append, all_given, all_list, all_over}
use Rattle.model.proofs.Sizes.{Sizes}
use Rattle.model.proofs.Shape.{Sound, positive_sound}

module _ (q : Path) (l : Sizes q) where
  abbrev AB : Band → Type 0
  AB = Sound (2 * (n q + 1))

  boundary_sound : (x : Boundary) → All AB (boundary_rows q x)
  unfolding boundary_rows
  boundary_sound x = omega arith

  stationary_sound : (e z : ℕ) → e ≤ n q → AB (stationary_row q e z)
  unfolding stationary_row
  stationary_sound e z h = omega arith

  moving_sound : AB (moving_rows q)
  unfolding moving_rows
  moving_sound = omega arith

  pub equalities_sound : (x : Boundary) → All AB (equalities q x)
  unfolding equalities
  equalities_sound x =
      simp (all_append AB, all_given AB)
      (((boundary_sound x, λ _. (stationary_sound q.N0 0 (omega arith), tt)), λ _. (stationary_sound (stop q) (n q) (omega arith), tt)), (moving_sound, tt))

  upper_sound : (k : ℕ) (x : Float) → k ≤ n q → All AB (upper_row q k x)
  unfolding upper_row
  upper_sound k x h = simp (all_given AB) (λ _. omega arith)

  end_sound : (e : ℕ) (b : Bounds) → e ≤ n q → All AB (end_rows q e b)
  unfolding end_rows
  end_sound e b h = simp (all_append AB) (upper_sound e b.maximum h, omega arith)

  interval_sound : (k : ℕ) → k < n q → All AB (interval_rows q k)
  unfolding interval_rows
  interval_sound k h = omega arith

  acceleration_sound : (t : Acceleration) (k : ℕ) → k ≤ n q → AB (acceleration_rows q t k)
  unfolding acceleration_rows
  acceleration_sound t k h = omega arith

  backward_sound : (t : Jerk) (k : ℕ) → 0 < k → k ≤ n q → AB (backward_rows q t k)
  unfolding backward_rows
  backward_sound t k a h = omega arith

  forward_sound : (t : Jerk) (k : ℕ) → k < n q → AB (forward_rows q t k)
  unfolding forward_rows
  forward_sound t k h = omega arith

  jerk_sound : (t : Jerk) (k : ℕ) → k ≤ n q → All AB (jerk_rows_at q t k)
  unfolding jerk_rows_at
  jerk_sound t k h =
      simp (all_append AB, all_given AB)
      ((λ e. (backward_sound t k (omega (arith, ltb-true)) h, tt)), (λ e. (forward_sound t k (omega (arith, ltb-true)), tt)))

  first_order_sound : (y : Limits) → All AB (first_order q y)
  unfolding first_order
  first_order_sound y =
      simp (all_append AB, all_given AB, all_list AB, all_over AB) (
        (
          (
            ((λ _. end_sound q.N0 y.start (omega arith)), λ _. end_sound (stop q) y.end (omega arith)),
            λ k a b. positive_sound _ k (omega arith),
          ),
          λ k a b. upper_sound k (at y.amax k) (omega arith),
        ),
        λ k a b. interval_sound k (omega arith),
      )

  pub inequalities_sound : (y : Limits) (t : Acceleration) (u : Jerk) → All AB (inequalities q y t u)
  unfolding inequalities
  inequalities_sound y t u =
      simp (all_append AB, all_list AB, all_over AB)
      ((first_order_sound y, λ k a b. acceleration_sound t k (omega arith)), λ k a b. jerk_sound u k (omega arith))
