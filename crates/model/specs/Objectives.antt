-- Module 1, and module 6: "Time, ThermalEnergy, TotalVariationTorque, Linear .., as `clarabel_objective_copp3` orders them." c is the objective's first own column.
use Rattle.std.specs.Prelude.{◌+◌, ◌-◌, ◌*◌, ◌∷◌, ◌++◌}
use Rattle.model.specs.Base.{ℕ, cond, List, [], get_or, set, replicate, sets, ltb, Float, nan, neg, Objective, Time, ThermalEnergy, TotalVariationTorque, Linear}
use Rattle.model.specs.Numbers.{at, ◌⊕◌, ◌⊖◌, ◌⊗◌, ◌⊘◌, +0, +1, −1, +2, +4, +5, +6, half, +1½}
use Rattle.model.specs.Lists.{list, over, given, part}
use Rattle.model.specs.Problem.{Problem, Path, Torque, Roots, n, m, L, ends, flag, skip, stop, s, col_a, col_b, col_xi}
use Rattle.model.specs.Program.{cell, Band, band, row, positive_row, Cone, cone, Block}

module _ (q : Path) where
  -- module 1: "Zero everywhere except: station N0 if N0>0, 0.5·((5·s[N0] + s[N0+1]) − 6·s[0]); station n−N1 if N1>0, 0.5·((6·s[n] − 5·s[n−N1]) − s[n−N1−1]);
  -- stations N0+1 to n−N1−1, 0.5·(s[k+1] − s[k−1])."
  unfoldable pub time_weights : List Float
  time_weights =
      let zeros = replicate (n q + 1) +0 in
      let start = cond (ltb 0 q.N0) (set zeros q.N0 (half ⊗ (+5 ⊗ s q q.N0 ⊕ s q (q.N0 + 1) ⊖ +6 ⊗ s q 0))) zeros in
      let both = cond (ltb 0 q.N1) (set start (stop q) (half ⊗ (+6 ⊗ s q (n q) ⊖ +5 ⊗ s q (stop q) ⊖ s q (stop q - 1)))) start in
      sets both (q.N0 + 1) (list (λ k. half ⊗ (s q (k + 1) ⊖ s q (k - 1))) (q.N0 + 1) (m q - 1))

  -- Time: two rows on xi and the own column; the last row "has no entry; it carries the 2"
  unfoldable pub time_cone : ℕ → ℕ → Cone
  time_cone c j =
      cone 2
      (row +0 (cell (col_xi q j) −1 ∷ cell (c + j) −1 ∷ [])
      ∷ row +0 (cell (col_xi q j) −1 ∷ cell (c + j) +1 ∷ [])
      ∷ row +2 []
      ∷ [])

  -- the cost of own column j: the weight times the list's element at the station of xi number j, which "belongs to station max(N0,1)+j". The list is the definition's
  -- alone: "maintenance wants no list of them, lent or our own" (request 3, proofs/Request3.antt)
  unfoldable pub time_block : Float → ℕ → Block
  time_block w c =
      record {
        cones = cone 1 (list (λ j. positive_row (c + j)) 0 (L q)) ∷ list (time_cone c) 0 (L q);
        cost = list (λ j. w ⊗ at time_weights (skip q + j)) 0 (L q);
        charges = [];
      }

  module _ (x : Torque) where
    -- the torque coefficients of joint i at station k ("d×(n+1), station by station"), times the joint's scale
    abbrev pub scaled : List Float → List Float → ℕ → ℕ → Float
    scaled table scales k i = at table (k * x.d + i) ⊗ at scales i

    abbrev pub torque_a : List Float → ℕ → ℕ → Float
    torque_a = scaled x.a

    abbrev pub torque_b : List Float → ℕ → ℕ → Float
    torque_b = scaled x.b

    abbrev pub torque_g : List Float → ℕ → ℕ → Float
    torque_g = scaled x.g

    -- ThermalEnergy: the cone of the own column t, xi number j and station k
    unfoldable pub thermal_cone : List Float → ℕ → ℕ → ℕ → (ℕ → Float) → Cone
    thermal_cone scales t j k g =
        cone 2
        (band 2 (λ i. +0) ((λ i. cell t −1) ∷ (λ i. cell (col_xi q j) (get_or (−1 ∷ +1 ∷ []) i nan)) ∷ [])
        ∷ band x.d g ((λ i. cell (col_a q k) (torque_a scales k i)) ∷ (λ i. cell (col_b q k) (torque_b scales k i)) ∷ [])
        ∷ [])

    -- "the stationary ends take the weight itself, times table 10 at station 0 or n, and right side −(g + g at the end)"; the others four times the weight
    unfoldable pub thermal_block : List Float → Float → List Float → ℕ → Block
    thermal_block weights w scales c =
        record {
          cones =
              given (ltb 0 q.N0) (thermal_cone scales c 0 q.N0 (λ i. neg (torque_g scales q.N0 i ⊕ torque_g scales 0 i)) ∷ [])
              ++ given (ltb 0 q.N1)
              (thermal_cone scales (c + flag q.N0) (L q - 1) (stop q) (λ i. neg (torque_g scales (stop q) i ⊕ torque_g scales (n q) i)) ∷ [])
              ++ list (λ j. thermal_cone scales (c + ends q + j) j (skip q + j) (λ i. neg (torque_g scales (skip q + j) i))) 0 (L q);
          cost =
              given (ltb 0 q.N0) (w ⊗ at weights 0 ∷ [])
              ++ given (ltb 0 q.N1) (w ⊗ at weights (n q) ∷ [])
              ++ list (λ j. +4 ⊗ w ⊗ at weights (skip q + j)) 0 (L q);
          charges = [];
        }

    -- TotalVariationTorque: the two rows of joint i. First a positive end with the moving station k and the resting station z, then the step from k to k + 1
    -- The right sides have the Rust's sign, which is wrong: the rows bound the change of the a and b parts less the change of the gravity part (docs/DIFFERENCES.md)
    unfoldable pub end_torque_rows : List Float → ℕ → ℕ → ℕ → ℕ → List Band
    end_torque_rows scales t k z i =
        let a = torque_a scales k i in
        let b = torque_b scales k i in
        row (torque_g scales k i ⊖ torque_g scales z i) (cell (col_a q k) a ∷ cell (col_b q k) b ∷ cell (t + i) −1 ∷ [])
        ∷ row (torque_g scales z i ⊖ torque_g scales k i) (cell (col_a q k) (neg a) ∷ cell (col_b q k) (neg b) ∷ cell (t + i) −1 ∷ [])
        ∷ []

    unfoldable pub step_torque_rows : List Float → ℕ → ℕ → ℕ → List Band
    step_torque_rows scales t k i =
        let a = torque_a scales k i in
        let a' = torque_a scales (k + 1) i in
        let b = torque_b scales k i in
        let b' = torque_b scales (k + 1) i in
        row (torque_g scales (k + 1) i ⊖ torque_g scales k i)
        (cell (col_a q k) (neg a) ∷ cell (col_a q (k + 1)) a' ∷ cell (col_b q k) (neg b) ∷ cell (col_b q (k + 1)) b' ∷ cell (t + i) −1 ∷ [])
        ∷ row (torque_g scales k i ⊖ torque_g scales (k + 1) i)
        (cell (col_a q k) a ∷ cell (col_a q (k + 1)) (neg a') ∷ cell (col_b q k) b ∷ cell (col_b q (k + 1)) (neg b') ∷ cell (t + i) −1 ∷ [])
        ∷ []

    unfoldable pub torque_block : Float → List Float → ℕ → Block
    torque_block w scales c =
        record {
          cones =
              cone 1
              (given (ltb 0 q.N0) (over (end_torque_rows scales c q.N0 0) 0 x.d)
              ++ given (ltb 0 q.N1) (over (end_torque_rows scales (c + x.d * flag q.N0) (stop q) (n q)) 0 x.d)
              ++ over (λ j. over (step_torque_rows scales (c + x.d * (ends q + j)) (q.N0 + j)) 0 x.d) 0 (m q))
              ∷ [];
          cost = replicate (x.d * (ends q + m q)) w;
          charges = [];
        }

  -- Linear: "Its start part uses stations 1 to N0−1, its end part stations 1 to N1−1 with distances from s[n], each with its lent root, in the Rust's order of operations."
  unfoldable pub end_charge : Float → List Float → List Float → ℕ → ℕ → List Float → ℕ → Float
  end_charge w alpha beta e z roots k =
      let x = s q k ⊖ s q z in
      let gamma = x ⊘ (s q e ⊖ s q z) in
      w ⊗ gamma ⊗ at roots (k - 1) ⊗ (at alpha k ⊕ at beta k ⊘ (+1½ ⊗ x))

  -- "Linear adds no row; it adds to the cost of a and b columns."
  unfoldable pub linear_block : Roots → Float → List Float → List Float → Block
  linear_block r w alpha beta =
      record {
        cones = [];
        cost = [];
        charges =
            list (λ k. cell (col_a q q.N0) (end_charge w alpha beta q.N0 0 r.start k)) 1 (q.N0 - 1)
            ++ list (λ k. cell (col_a q (stop q)) (end_charge w alpha beta (stop q) (n q) r.end k)) 1 (q.N1 - 1)
            ++ list (λ k. cell (col_a q k) (w ⊗ at alpha k)) q.N0 (m q + 1)
            ++ list (λ k. cell (col_b q k) (w ⊗ at beta k)) q.N0 (m q + 1);
      }

-- "the parts (start, length) of a lent pool that hold its lists"
module _ (p : Problem) where
  unfoldable pub objective_block : ℕ → Objective → Block
  objective_block c (Time w) = time_block p.path w c
  objective_block c (ThermalEnergy w start len) = thermal_block p.path p.torque p.thermal w (part p.pool start len) c
  objective_block c (TotalVariationTorque w start len) = torque_block p.path p.torque w (part p.pool start len) c
  objective_block c (Linear w alpha alpha_len beta beta_len) =
      linear_block p.path p.roots w (part p.pool alpha alpha_len) (part p.pool beta beta_len)
