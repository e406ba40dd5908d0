-- What a feasible point of the assembled program satisfies, block by block: the page that a planner reads. The theorem is `demand2`, field `says`
-- (proofs/Demand2.antt): a point of an accepted problem is feasible (Conic.antt) exactly if it satisfies `Meaning`, at the end of this page.
-- Column c of the point is z c / D; A, X, E and t below are the columns a, xi, eta and t times D, as in request 14. Values are exact: `units x` is the double x in
-- units of 2^−1074. A coefficient that the Rust rounds stands here rounded.
use Rattle.std.specs.Prelude.{◌+◌, ◌-◌, ◌*◌, ◌^◌, ◌≤◌, ◌<◌, ◌≡◌, ◌∷◌, ◌+ℤ◌, ◌-ℤ◌, ◌*ℤ◌, ◌≤ℤ◌}
use Rattle.model.specs.Base.{ℕ, true, cond, List, [], get_or, take, ltb, ℤ, pos, Float, neg, Bounds, Objective, Time, ThermalEnergy, TotalVariationTorque, Linear}
use Rattle.model.specs.Numbers.{at, finite, ◌⊕◌, ◌⊖◌, ◌⊗◌, ◌⊘◌, +1, +4, −1½}
use Rattle.model.specs.Lists.{list, total, part}
use Rattle.model.specs.Problem.{Problem, Path, objectives, n, m, L, ends, flag, s, skip, stop, spacing, col_a, col_b, col_xi, has_root}
use Rattle.model.specs.Objectives.{time_weights, torque_a, torque_b, torque_g}
use Rattle.model.specs.Assembled.{cost}
use Rattle.model.specs.Counts.{objective_counts}
use Rattle.model.specs.Conic.{units, sum_to, squares}

-- the number 1 in units of 2^−1074
unfoldable pub one : ℕ
one = 2 ^ 1074

-- a whole number in these units, and a double times a whole number
abbrev pub whole : ℤ → ℤ
whole x = pos one *ℤ x

infixl 70 ◌·◌
abbrev pub ◌·◌ : Float → ℤ → ℤ
◌·◌ x y = units x *ℤ y

-- at most, with sums and products on either side
infix 4 ◌≼◌
abbrev pub ◌≼◌ : ℤ → ℤ → Type 0
◌≼◌ x y = x ≤ℤ y

-- y / D is the double x; is at most x; is at least x
module _ (D : ℕ) where
  abbrev pub Is : ℤ → Float → Type 0
  Is y x = whole y ≡ x · pos D

  abbrev pub AtMost : ℤ → Float → Type 0
  AtMost y x = whole y ≼ x · pos D

  abbrev pub AtLeast : ℤ → Float → Type 0
  AtLeast y x = x · pos D ≼ whole y

-- the gravity part of the torque of joint i at station k
abbrev pub gravity : Problem → List Float → ℕ → ℕ → Float
gravity p scales = torque_g p.path p.torque scales

-- "each objective's own columns follow in order": the first of them, after those of the stations and of the root stage
abbrev pub first_own_column : Problem → ℕ
first_own_column p = 2 * (n p.path + 1) + cond (has_root p) (L p.path) 0

module _ (p : Problem) (D : ℕ) (z : ℕ → ℤ) where
  abbrev q : Path
  q = p.path

  -- a and b of station k, and xi number j, times D
  abbrev pub a : ℕ → ℤ
  a k = z (col_a q k)

  abbrev pub b : ℕ → ℤ
  b k = z (col_b q k)

  abbrev pub xi : ℕ → ℤ
  xi j = z (col_xi q j)

  -- ---- module 2: the zero cone

  pub record Equalities : Type 0 where
    pub a_first : Is D (a 0) p.boundary.a0
    pub a_last : Is D (a (n q)) p.boundary.a1
    pub b_first : Is D (b 0) p.boundary.b0
    pub b_last : Is D (b (n q)) p.boundary.b1
    -- a[e] − 1.5·(s[e] − s at that end)·b[e] = 0, for each positive end
    pub start : 0 < q.N0 → whole (a q.N0) +ℤ (−1½ ⊗ (s q q.N0 ⊖ s q 0)) · b q.N0 ≡ pos 0
    pub end : 0 < q.N1 → whole (a (stop q)) +ℤ (−1½ ⊗ (s q (stop q) ⊖ s q (n q))) · b (stop q) ≡ pos 0
    -- a[k] − a[k+1] + h·(b[k] + b[k+1]) = 0
    pub moving : (k : ℕ) → q.N0 ≤ k → k < stop q → whole (a k -ℤ a (k + 1)) +ℤ spacing q k · (b k +ℤ b (k + 1)) ≡ pos 0

  -- ---- modules 3 and 4: the nonnegative cone

  -- a[e] within the bounds of a stationary end
  abbrev pub Within : ℕ → Bounds → Type 0
  Within e x = (finite x.maximum ≡ true → AtMost D (a e) x.maximum) × AtLeast D (a e) x.minimum

  -- 2·a[k] + h·b[k] ≥ 0 and 2·a[k] + 2·h·b[k] + h·b[k+1] ≥ 0
  abbrev pub Interval : ℕ → Type 0
  Interval k =
      let h = spacing q k in
      (pos 0 ≼ pos 2 *ℤ whole (a k) +ℤ h · b k) × (pos 0 ≼ pos 2 *ℤ whole (a k) +ℤ pos 2 *ℤ (h · b k) +ℤ h · b (k + 1))

  pub record Inequalities : Type 0 where
    pub start : 0 < q.N0 → Within q.N0 p.limits.start
    pub end : 0 < q.N1 → Within (stop q) p.limits.end
    pub nonnegative : (k : ℕ) → q.N0 < k → k < stop q → pos 0 ≼ a k
    pub amax : (k : ℕ) → q.N0 < k → k < stop q → finite (at p.limits.amax k) ≡ true → AtMost D (a k) (at p.limits.amax k)
    pub intervals : (k : ℕ) → q.N0 ≤ k → k < stop q → Interval k
    -- row i of station k, which stands in the tables at index o: the coefficients times a and b are at most the maximum
    pub acceleration : (k : ℕ) → q.N0 < k → k < stop q → (i : ℕ) → i < get_or p.acc.counts k 0
        → let o = total (take k p.acc.counts) + i in
        at p.acc.a o · a k +ℤ at p.acc.b o · b k ≼ at p.acc.max o · pos D
    pub backward : (k : ℕ) → q.N0 < k → k ≤ stop q → (i : ℕ) → i < get_or p.jerk.counts k 0
        → let o = total (take k p.jerk.counts) + i in
        let r = +1 ⊘ spacing q (k - 1) in
        at p.jerk.a o · a k +ℤ (neg (at p.jerk.c o) ⊗ r) · b (k - 1) +ℤ (at p.jerk.b o ⊕ at p.jerk.c o ⊗ r) · b k ≼ at p.jerk.max o · pos D
    pub forward : (k : ℕ) → q.N0 ≤ k → k < stop q → (i : ℕ) → i < get_or p.jerk.counts k 0
        → let o = total (take k p.jerk.counts) + i in
        let r = +1 ⊘ spacing q k in
        at p.jerk.a o · a k +ℤ (at p.jerk.b o ⊖ at p.jerk.c o ⊗ r) · b k +ℤ (at p.jerk.c o ⊗ r) · b (k + 1) ≼ at p.jerk.max o · pos D

  -- ---- module 5: xi ≥ 0, and A·D ≥ X², for each xi

  pub record RootStage : Type 0 where
    pub nonnegative : (j : ℕ) → j < L q → pos 0 ≼ xi j
    pub root : (j : ℕ) → j < L q → xi j *ℤ xi j ≼ a (skip q + j) *ℤ pos D

  -- ---- module 6: an objective whose own columns start at c

  -- Time: eta ≥ 0, X + E ≥ 0 and X·E ≥ D², for each xi and its eta
  pub record TimeMeaning (c : ℕ) : Type 0 where
    pub nonnegative : (j : ℕ) → j < L q → pos 0 ≼ z (c + j)
    pub sum : (j : ℕ) → j < L q → pos 0 ≼ xi j +ℤ z (c + j)
    pub product : (j : ℕ) → j < L q → pos D *ℤ pos D ≼ xi j *ℤ z (c + j)

  module _ (scales : List Float) where
    abbrev d : ℕ
    d = p.torque.d

    -- the torque of joint i at station k without its gravity part
    abbrev pub dynamic_torque : ℕ → ℕ → ℤ
    dynamic_torque k i = torque_a q p.torque scales k i · a k +ℤ torque_b q p.torque scales k i · b k

    -- the slack of a torque row: the right side g less the dynamic torque of joint i at station k
    abbrev pub torque_slack : ℕ → (ℕ → Float) → ℕ → ℤ
    torque_slack k g i = g i · pos D -ℤ dynamic_torque k i

    -- ThermalEnergy, with the own column t, xi number j, station k and the right sides g: t + X ≥ 0, and 4·t·X is at least the sum of the squares of the torque slacks
    -- (`thermal_whole`, proofs/Cones.antt: where they are whole numbers T over D, it is at least the sum of the squares of these)
    abbrev pub BoundsSquares : ℕ → ℕ → ℕ → (ℕ → Float) → Type 0
    BoundsSquares t j k g = (pos 0 ≼ z t +ℤ xi j) × (squares (list (torque_slack k g) 0 d) ≼ pos 4 *ℤ whole (z t) *ℤ whole (xi j))

    pub record ThermalMeaning (c : ℕ) : Type 0 where
      pub start : 0 < q.N0 → BoundsSquares c 0 q.N0 (λ i. neg (gravity p scales q.N0 i ⊕ gravity p scales 0 i))
      pub end : 0 < q.N1 → BoundsSquares (c + flag q.N0) (L q - 1) (stop q) (λ i. neg (gravity p scales (stop q) i ⊕ gravity p scales (n q) i))
      pub moving : (j : ℕ) → j < L q → BoundsSquares (c + ends q + j) j (skip q + j) (λ i. neg (gravity p scales (skip q + j) i))

    -- TotalVariationTorque, with the own column t: t ≥ |x − g·D|, x the change of the dynamic torque and g the rounded change of the gravity part.
    -- The change of the torque is x + g·D: the minus is the Rust's sign, which is wrong (docs/DIFFERENCES.md)
    abbrev pub BoundsDifference : ℕ → ℤ → Float → Type 0
    BoundsDifference t x g = (x -ℤ g · pos D ≼ whole (z t)) × (g · pos D -ℤ x ≼ whole (z t))

    pub record VariationMeaning (c : ℕ) : Type 0 where
      pub start : 0 < q.N0 → (i : ℕ) → i < d → BoundsDifference (c + i) (dynamic_torque q.N0 i) (gravity p scales q.N0 i ⊖ gravity p scales 0 i)
      pub end : 0 < q.N1 → (i : ℕ) → i < d
          → BoundsDifference (c + d * flag q.N0 + i) (dynamic_torque (stop q) i) (gravity p scales (stop q) i ⊖ gravity p scales (n q) i)
      pub moving : (j : ℕ) → j < m q → (i : ℕ) → i < d → let k = q.N0 + j in
          BoundsDifference (c + d * (ends q + j) + i) (dynamic_torque (k + 1) i -ℤ dynamic_torque k i) (gravity p scales (k + 1) i ⊖ gravity p scales k i)

  -- "Linear adds no row"
  abbrev pub ObjectiveMeaning : ℕ → Objective → Type 0
  ObjectiveMeaning c (Time w) = TimeMeaning c
  ObjectiveMeaning c (ThermalEnergy w start len) = ThermalMeaning (part p.pool start len) c
  ObjectiveMeaning c (TotalVariationTorque w start len) = VariationMeaning (part p.pool start len) c
  ObjectiveMeaning c (Linear w alpha alpha_len beta beta_len) = Unit {0}

  -- one objective after another, each with as many own columns as document 01 counts
  abbrev pub ObjectivesMeaning : ℕ → List Objective → Type 0
  ObjectivesMeaning c [] = Unit {0}
  ObjectivesMeaning c (o ∷ os) = ObjectiveMeaning c o × ObjectivesMeaning (c + (objective_counts p o).columns) os

  -- ---- the whole

  pub record Meaning : Type 0 where
    pub equalities : Equalities
    pub inequalities : Inequalities
    pub roots : has_root p ≡ true → RootStage
    pub own : ObjectivesMeaning (first_own_column p) (objectives p)

-- ---- the linear cost of a point by owner, times D·2^1074 (`demand2`, fields `costs` and `uncharged`)

module _ (p : Problem) (z : ℕ → ℤ) where
  -- of an objective's own columns: every eta; the t of the positive ends ("the stationary ends take the weight itself") and of every xi; the t of every change
  abbrev pub objective_cost : ℕ → Objective → ℤ
  objective_cost c (Time w) = sum_to (λ j. (w ⊗ at (time_weights p.path) (skip p.path + j)) · z (c + j)) (L p.path)
  objective_cost c (ThermalEnergy w start len) =
      cond (ltb 0 p.path.N0) ((w ⊗ at p.thermal 0) · z c) (pos 0)
      +ℤ cond (ltb 0 p.path.N1) ((w ⊗ at p.thermal (n p.path)) · z (c + flag p.path.N0)) (pos 0)
      +ℤ sum_to (λ j. (+4 ⊗ w ⊗ at p.thermal (skip p.path + j)) · z (c + ends p.path + j)) (L p.path)
  objective_cost c (TotalVariationTorque w start len) = sum_to (λ i. w · z (c + i)) (p.torque.d * (ends p.path + m p.path))
  objective_cost c (Linear w alpha alpha_len beta beta_len) = pos 0

  abbrev pub objectives_cost : ℕ → List Objective → ℤ
  objectives_cost c [] = pos 0
  objectives_cost c (o ∷ os) = objective_cost c o +ℤ objectives_cost (c + (objective_counts p o).columns) os

  -- of the a and b columns: "Linear .. adds to the cost of a and b columns"
  abbrev pub stations_cost : ℤ
  stations_cost = sum_to (λ c. at (cost p) c · z c) (2 * (n p.path + 1))
