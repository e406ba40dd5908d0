-- Modules 2 to 5: the standard rows and the root stage.
use Rattle.std.specs.Prelude.{◌+◌, ◌-◌, ◌∷◌, ◌++◌}
use Rattle.model.specs.Base.{ℕ, cond, List, [], get_or, take, replicate, ltb, Float, neg, Boundary, Bounds}
use Rattle.model.specs.Numbers.{at, finite, ◌⊕◌, ◌⊖◌, ◌⊗◌, ◌⊘◌, +0, +1, −1, −2, −1½, quarter, −quarter}
use Rattle.model.specs.Lists.{list, over, given, total}
use Rattle.model.specs.Problem.{Problem, Path, Limits, Acceleration, Jerk, n, m, L, skip, stop, s, spacing, col_a, col_b, col_xi, has_root}
use Rattle.model.specs.Program.{cell, Band, band, row, positive_row, Cone, cone, Block, nothing}

module _ (q : Path) where
  -- "Four rows with value 1 on a 0, a n, b 0, b n."
  unfoldable pub boundary_rows : Boundary → List Band
  boundary_rows x =
      row x.a0 (cell (col_a q 0) +1 ∷ [])
      ∷ row x.a1 (cell (col_a q (n q)) +1 ∷ [])
      ∷ row x.b0 (cell (col_b q 0) +1 ∷ [])
      ∷ row x.b1 (cell (col_b q (n q)) +1 ∷ [])
      ∷ []

  -- "Per positive end one row: a of station e (N0 or n−N1) with 1, b with −1.5·(s[e] − s at that end)." z is the station at that end
  unfoldable pub stationary_row : ℕ → ℕ → Band
  stationary_row e z = row +0 (cell (col_a q e) +1 ∷ cell (col_b q e) (−1½ ⊗ (s q e ⊖ s q z)) ∷ [])

  -- "Then m moving rows, entries column kind by column kind: a k: 1; a k+1: −1; b k and b k+1: the spacing."
  unfoldable pub moving_rows : Band
  moving_rows =
      band (m q) (λ i. +0)
      ((λ i. cell (col_a q (q.N0 + i)) +1)
      ∷ (λ i. cell (col_a q (q.N0 + i + 1)) −1)
      ∷ (λ i. cell (col_b q (q.N0 + i)) (spacing q (q.N0 + i)))
      ∷ (λ i. cell (col_b q (q.N0 + i + 1)) (spacing q (q.N0 + i)))
      ∷ [])

  -- module 2: "All close in one zero cone."
  unfoldable pub equalities : Boundary → List Band
  equalities x =
      boundary_rows x
      ++ given (ltb 0 q.N0) (stationary_row q.N0 0 ∷ [])
      ++ given (ltb 0 q.N1) (stationary_row (stop q) (n q) ∷ [])
      ++ (moving_rows ∷ [])

  -- "an upper row only if the maximum is finite"
  unfoldable pub upper_row : ℕ → Float → List Band
  upper_row k bound = given (finite bound) (row bound (cell (col_a q k) +1 ∷ []) ∷ [])

  -- "Per positive end: an upper row .., then the lower row −1 with right side the negated minimum."
  unfoldable pub end_rows : ℕ → Bounds → List Band
  end_rows e b = upper_row e b.maximum ++ (row (neg b.minimum) (cell (col_a q e) −1 ∷ []) ∷ [])

  -- "h the spacing: (−2, −h) and (−2, −2h, −h)"
  unfoldable pub interval_rows : ℕ → List Band
  interval_rows k =
      let h = spacing q k in
      row +0 (cell (col_a q k) −2 ∷ cell (col_b q k) (neg h) ∷ [])
      ∷ row +0 (cell (col_a q k) −2 ∷ cell (col_b q k) (−2 ⊗ h) ∷ cell (col_b q (k + 1)) (neg h) ∷ [])
      ∷ []

  -- module 3: "Then all rows −a ≤ 0 for k from N0+1 to n−N1−1, then the finite amax rows there. Interval rows for k from N0 to n−N1−1"
  unfoldable pub first_order : Limits → List Band
  first_order l =
      given (ltb 0 q.N0) (end_rows q.N0 l.start)
      ++ given (ltb 0 q.N1) (end_rows (stop q) l.end)
      ++ list (λ k. positive_row (col_a q k)) (q.N0 + 1) (m q - 1)
      ++ over (λ k. upper_row k (at l.amax k)) (q.N0 + 1) (m q - 1)
      ++ over interval_rows q.N0 (m q)

  -- the rows of station k stand in their tables from the sum of the counts before it
  unfoldable pub acceleration_rows : Acceleration → ℕ → Band
  acceleration_rows t k =
      let o = total (take k t.counts) in
      band (get_or t.counts k 0) (λ i. at t.max (o + i))
      ((λ i. cell (col_a q k) (at t.a (o + i))) ∷ (λ i. cell (col_b q k) (at t.b (o + i))) ∷ [])

  -- "with r = 1/spacing: backward a, (−c)·r, b + c·r on a k, b k−1, b k"
  unfoldable pub backward_rows : Jerk → ℕ → Band
  backward_rows t k =
      let o = total (take k t.counts) in
      let r = +1 ⊘ spacing q (k - 1) in
      band (get_or t.counts k 0) (λ i. at t.max (o + i))
      ((λ i. cell (col_a q k) (at t.a (o + i)))
      ∷ (λ i. cell (col_b q (k - 1)) (neg (at t.c (o + i)) ⊗ r))
      ∷ (λ i. cell (col_b q k) (at t.b (o + i) ⊕ at t.c (o + i) ⊗ r))
      ∷ [])

  -- "forward a, b − c·r, c·r on a k, b k, b k+1"
  unfoldable pub forward_rows : Jerk → ℕ → Band
  forward_rows t k =
      let o = total (take k t.counts) in
      let r = +1 ⊘ spacing q k in
      band (get_or t.counts k 0) (λ i. at t.max (o + i))
      ((λ i. cell (col_a q k) (at t.a (o + i)))
      ∷ (λ i. cell (col_b q k) (at t.b (o + i) ⊖ at t.c (o + i) ⊗ r))
      ∷ (λ i. cell (col_b q (k + 1)) (at t.c (o + i) ⊗ r))
      ∷ [])

  -- "the backward group unless k=N0, then the forward group unless k=n−N1"
  unfoldable pub jerk_rows_at : Jerk → ℕ → List Band
  jerk_rows_at t k = given (ltb q.N0 k) (backward_rows t k ∷ []) ++ given (ltb k (stop q)) (forward_rows t k ∷ [])

  -- module 4: "Acceleration for k from N0+1 to n−N1−1. Jerk for k from N0 to n−N1"
  unfoldable pub inequalities : Limits → Acceleration → Jerk → List Band
  inequalities l a j = first_order l ++ list (acceleration_rows a) (q.N0 + 1) (m q - 1) ++ over (jerk_rows_at j) q.N0 (m q + 1)

  -- "second-order cones of 3 with −1 on a, a, xi and right sides 0.25, −0.25, 0"
  unfoldable pub root_cone : ℕ → Cone
  root_cone j =
      cone 2
      (row quarter (cell (col_a q (skip q + j)) −1 ∷ [])
      ∷ row −quarter (cell (col_a q (skip q + j)) −1 ∷ [])
      ∷ row +0 (cell (col_xi q j) −1 ∷ [])
      ∷ [])

  -- module 5: "L rows −xi ≤ 0 in one nonnegative cone, then L second-order cones of 3"
  unfoldable pub root_stage : Block
  root_stage =
      record {
        cones = cone 1 (list (λ j. positive_row (col_xi q j)) 0 (L q)) ∷ list root_cone 0 (L q);
        cost = replicate (L q) +0;
        charges = [];
      }

-- "All close in one zero cone." "Modules 3 and 4 close in one nonnegative cone."
unfoldable pub standard : Problem → Block
standard p =
    record {
      cones = cone 0 (equalities p.path p.boundary) ∷ cone 1 (inequalities p.path p.limits p.acc p.jerk) ∷ [];
      cost = [];
      charges = [];
    }

-- "once if any Time or ThermalEnergy is present, at the place before all objectives"
unfoldable pub root : Problem → Block
root p = cond (has_root p) (root_stage p.path) nothing
