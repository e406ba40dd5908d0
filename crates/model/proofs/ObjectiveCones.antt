-- The cones of an objective hold exactly if the point satisfies what specs/Meaning.antt says of its kind.
use Prim.Native.Nat.{ℕ, ◌+◌, ◌*◌}
use native.Mathlib.Omega.{arith}
use mathlib.Core.Path.{ap, subst}
use mathlib.Core.Logic.Iff
use mathlib.Core.Logic.{◌↔◌}
use mathlib.Core.List.{List, [], ◌∷◌, ◌++◌}
use lib.Dec.{ltb}
use lib.IntN.{ℤ, pos, neg_ℤ, ◌+ℤ◌, ◌-ℤ◌, ◌*ℤ◌}
use lib.Signed.{◌≤ℤ◌}
use lib.Ieee.{Float}
use borrow.Author.Tests.{lt-ltb, ltb-true}
use Rattle.model.specs.Numbers.{◌⊖◌}
use Rattle.model.specs.Problem.{Problem, Path, n, m, L, ends, flag, stop, col_a, col_b}
use Rattle.model.specs.Lists.{over, given, part}
use Rattle.model.specs.Program.{Band, Cone, cone, Block}
use Rattle.model.specs.Objectives.{torque_a, torque_b, time_cone, time_block, thermal_block, end_torque_rows, step_torque_rows, torque_block, linear_block, objective_block}
use Rattle.model.specs.Assembled.{width, objective_blocks}
use Rattle.model.specs.Conic.{units}
use Rattle.model.specs.declared.FourCounts.{FourCounts}
use Rattle.model.specs.declared.Objective.{Objective}
use Rattle.model.specs.declared.Objective.TheVariants.{Time, ThermalEnergy, TotalVariationTorque, Linear}
use Rattle.model.proofs.All.{All, all_append, all_given, all_list}
use Rattle.model.proofs.Integers.{AsDiff, is, as_diff, differences}
use Rattle.model.proofs.Counted.{objective_counted}
use Rattle.model.proofs.Feasible.{row_slack, Holds}
use Rattle.model.proofs.Each.{Nonnegatives, nonnegatives_cone, each_append, each_given, each_over}
use Rattle.model.specs.Meaning.{one, gravity, dynamic_torque, BoundsDifference, TimeMeaning, ThermalMeaning, VariationMeaning, ObjectiveMeaning, ObjectivesMeaning}
use Rattle.model.proofs.Units.{constants}
use Rattle.model.proofs.Opposite.{opposite}
use Rattle.model.proofs.Cones.{time_says, thermal_says}
use Rattle.model.proofs.StandardRows.{signs_say}

-- ---- the two rows of a change: G is the gravity part's, u·t the own column

end_law : {g u t a x b y : ℤ} → AsDiff g → AsDiff u → AsDiff t → AsDiff a → AsDiff x → AsDiff b → AsDiff y
    → pos 0 ≤ℤ (g -ℤ (a *ℤ x +ℤ (b *ℤ y +ℤ (neg_ℤ u *ℤ t +ℤ pos 0)))) ↔ (a *ℤ x +ℤ b *ℤ y -ℤ g) ≤ℤ (u *ℤ t)
end_law (is _ _) (is _ _) (is _ _) (is _ _) (is _ _) (is _ _) (is _ _) = simp differences (omega arith)

end_law' : (D : ℕ) {g u t a x b y : ℤ} → AsDiff g → AsDiff u → AsDiff t → AsDiff a → AsDiff x → AsDiff b → AsDiff y
    → pos 0 ≤ℤ (neg_ℤ g *ℤ pos D -ℤ (neg_ℤ a *ℤ x +ℤ (neg_ℤ b *ℤ y +ℤ (neg_ℤ u *ℤ t +ℤ pos 0)))) ↔ (g *ℤ pos D -ℤ (a *ℤ x +ℤ b *ℤ y)) ≤ℤ (u *ℤ t)
end_law' D (is _ _) (is _ _) (is _ _) (is _ _) (is _ _) (is _ _) (is _ _) = simp differences (omega arith)

step_law : {g u t a x a' x' b y b' y' : ℤ} → AsDiff g → AsDiff u → AsDiff t → AsDiff a → AsDiff x → AsDiff a' → AsDiff x' → AsDiff b → AsDiff y → AsDiff b' → AsDiff y'
    → pos 0 ≤ℤ (g -ℤ (neg_ℤ a *ℤ x +ℤ (a' *ℤ x' +ℤ (neg_ℤ b *ℤ y +ℤ (b' *ℤ y' +ℤ (neg_ℤ u *ℤ t +ℤ pos 0))))))
    ↔ (a' *ℤ x' +ℤ b' *ℤ y' -ℤ (a *ℤ x +ℤ b *ℤ y) -ℤ g) ≤ℤ (u *ℤ t)
step_law (is _ _) (is _ _) (is _ _) (is _ _) (is _ _) (is _ _) (is _ _) (is _ _) (is _ _) (is _ _) (is _ _) = simp differences (omega arith)

step_law' : (D : ℕ) {g u t a x a' x' b y b' y' : ℤ} → AsDiff g → AsDiff u → AsDiff t → AsDiff a → AsDiff x → AsDiff a' → AsDiff x' → AsDiff b → AsDiff y → AsDiff b' → AsDiff y'
    → pos 0 ≤ℤ (neg_ℤ g *ℤ pos D -ℤ (a *ℤ x +ℤ (neg_ℤ a' *ℤ x' +ℤ (b *ℤ y +ℤ (neg_ℤ b' *ℤ y' +ℤ (neg_ℤ u *ℤ t +ℤ pos 0))))))
    ↔ (g *ℤ pos D -ℤ (a' *ℤ x' +ℤ b' *ℤ y' -ℤ (a *ℤ x +ℤ b *ℤ y))) ≤ℤ (u *ℤ t)
step_law' D (is _ _) (is _ _) (is _ _) (is _ _) (is _ _) (is _ _) (is _ _) (is _ _) (is _ _) (is _ _) (is _ _) = simp differences (omega arith)

module _ (p : Problem) (D : ℕ) (z : ℕ → ℤ) where
  abbrev q : Path
  q = p.path

  -- ---- Time

  pub time_block_says : (w : Float) (c : ℕ) → All (Holds D z) (time_block q w c).cones ↔ TimeMeaning p D z c
  unfolding time_block
  time_block_says w c =
      let signs = signs_say D z (λ j. c + j) (L q) in
      let each = all_list (Holds D z) (time_cone q c) 0 (L q) in (
        (λ h. record {
          nonnegative = signs.0 h.0;
          sum = λ j l. ((time_says p D z c j).0 (each.0 h.1 j (omega arith) (omega arith))).0;
          product = λ j l. ((time_says p D z c j).0 (each.0 h.1 j (omega arith) (omega arith))).1;
        }),
        λ h. (signs.1 h.nonnegative, each.1 (λ j k l. (time_says p D z c j).1 (h.sum j (omega arith), h.product j (omega arith)))),
      )

  module _ (scales : List Float) where
    -- ---- ThermalEnergy

    pub thermal_block_says : (weights : List Float) (w : Float) (c : ℕ) → All (Holds D z) (thermal_block q p.torque weights w scales c).cones ↔ ThermalMeaning p D z scales c
    unfolding thermal_block
    thermal_block_says weights w c = (to, from)
      where
        cones : List Cone
        cones = (thermal_block q p.torque weights w scales c).cones

        to : All (Holds D z) cones → ThermalMeaning p D z scales c
        to h =
            let g = simp (all_append, all_given, all_list) at h in
            record {
              start = λ e. (thermal_says p D z scales _ _ _ _).0 (g.0.0 (lt-ltb 0 q.N0 e)).0;
              end = λ e. (thermal_says p D z scales _ _ _ _).0 (g.0.1 (lt-ltb 0 q.N1 e)).0;
              moving = λ j l. (thermal_says p D z scales _ _ _ _).0 (g.1 j (omega arith) (omega arith));
            }

        from : ThermalMeaning p D z scales c → All (Holds D z) cones
        from h =
            simp (all_append, all_given, all_list) (
              ((λ e. ((thermal_says p D z scales _ _ _ _).1 (h.start (ltb-true 0 q.N0 e)), tt)), λ e. ((thermal_says p D z scales _ _ _ _).1 (h.end (ltb-true 0 q.N1 e)), tt)),
              λ j k l. (thermal_says p D z scales _ _ _ _).1 (h.moving j (omega arith)),
            )

    -- ---- TotalVariationTorque

    end_says : (t k e i : ℕ) → Nonnegatives D z (end_torque_rows q p.torque scales t k e i)
        ↔ BoundsDifference p D z scales (t + i) (dynamic_torque p D z scales k i) (gravity p scales k i ⊖ gravity p scales e i)
    unfolding end_torque_rows row_slack
    end_says t k e i =
        let G = units (gravity p scales k i ⊖ gravity p scales e i) in
        let A = as_diff (units (torque_a q p.torque scales k i)) in
        let B = as_diff (units (torque_b q p.torque scales k i)) in
        let X = as_diff (z (col_a q k)) in
        let Y = as_diff (z (col_b q k)) in
        let U = as_diff (pos one) in
        let T = as_diff (z (t + i)) in
        let first = end_law (as_diff (G *ℤ pos D)) U T A X B Y in
        let second = end_law' D (as_diff G) U T A X B Y in
        Iff.trans (nonnegatives_cone D z (end_torque_rows q p.torque scales t k e i))
        (simp (constants, opposite (gravity p scales k i) (gravity p scales e i)) ((λ h. (first.0 h.0, second.0 h.1.0)), λ h. (first.1 h.0, (second.1 h.1, tt))))

    step_says : (t k i : ℕ) → Nonnegatives D z (step_torque_rows q p.torque scales t k i)
        ↔ BoundsDifference p D z scales (t + i) (dynamic_torque p D z scales (k + 1) i -ℤ dynamic_torque p D z scales k i) (gravity p scales (k + 1) i ⊖ gravity p scales k i)
    unfolding step_torque_rows row_slack
    step_says t k i =
        let G = units (gravity p scales (k + 1) i ⊖ gravity p scales k i) in
        let A = as_diff (units (torque_a q p.torque scales k i)) in
        let A' = as_diff (units (torque_a q p.torque scales (k + 1) i)) in
        let B = as_diff (units (torque_b q p.torque scales k i)) in
        let B' = as_diff (units (torque_b q p.torque scales (k + 1) i)) in
        let X = as_diff (z (col_a q k)) in
        let X' = as_diff (z (col_a q (k + 1))) in
        let Y = as_diff (z (col_b q k)) in
        let Y' = as_diff (z (col_b q (k + 1))) in
        let U = as_diff (pos one) in
        let T = as_diff (z (t + i)) in
        let first = step_law (as_diff (G *ℤ pos D)) U T A X A' X' B Y B' Y' in
        let second = step_law' D (as_diff G) U T A X A' X' B Y B' Y' in
        Iff.trans (nonnegatives_cone D z (step_torque_rows q p.torque scales t k i))
        (simp (constants, opposite (gravity p scales (k + 1) i) (gravity p scales k i)) ((λ h. (first.0 h.0, second.0 h.1.0)), λ h. (first.1 h.0, (second.1 h.1, tt))))

    pub torque_block_says : (w : Float) (c : ℕ) → All (Holds D z) (torque_block q p.torque w scales c).cones ↔ VariationMeaning p D z scales c
    unfolding torque_block
    torque_block_says w c = (to, from)
      where
        rows : List Band
        rows =
            given (ltb 0 q.N0) (over (end_torque_rows q p.torque scales c q.N0 0) 0 p.torque.d)
            ++ given (ltb 0 q.N1) (over (end_torque_rows q p.torque scales (c + p.torque.d * flag q.N0) (stop q) (n q)) 0 p.torque.d)
            ++ over (λ j. over (step_torque_rows q p.torque scales (c + p.torque.d * (ends q + j)) (q.N0 + j)) 0 p.torque.d) 0 (m q)

        to : All (Holds D z) (cone 1 rows ∷ []) → VariationMeaning p D z scales c
        to h =
            let g = simp (each_append, each_given, each_over) at ((nonnegatives_cone D z rows).1 h.0) in
            record {
              start = λ e i l. (end_says c q.N0 0 i).0 (g.0.0 (lt-ltb 0 q.N0 e) i (omega arith) (omega arith));
              end = λ e i l. (end_says (c + p.torque.d * flag q.N0) (stop q) (n q) i).0 (g.0.1 (lt-ltb 0 q.N1 e) i (omega arith) (omega arith));
              moving = λ j u i l. (step_says (c + p.torque.d * (ends q + j)) (q.N0 + j) i).0 (g.1 j (omega arith) (omega arith) i (omega arith) (omega arith));
            }

        from : VariationMeaning p D z scales c → All (Holds D z) (cone 1 rows ∷ [])
        from h = (
          (nonnegatives_cone D z rows).0 (simp (each_append, each_given, each_over) (
            (
              (λ e i u v. (end_says c q.N0 0 i).1 (h.start (ltb-true 0 q.N0 e) i (omega arith))),
              λ e i u v. (end_says (c + p.torque.d * flag q.N0) (stop q) (n q) i).1 (h.end (ltb-true 0 q.N1 e) i (omega arith)),
            ),
            λ j a b i u v. (step_says (c + p.torque.d * (ends q + j)) (q.N0 + j) i).1 (h.moving j (omega arith) i (omega arith)),
          )),
          tt,
        )

  -- ---- any objective

  pub objective_says : (c : ℕ) (o : Objective) → All (Holds D z) (objective_block p c o).cones ↔ ObjectiveMeaning p D z c o
  unfolding objective_block linear_block
  objective_says c (Time w) = time_block_says w c
  objective_says c (ThermalEnergy w start len) = thermal_block_says (part p.pool start len) p.thermal w c
  objective_says c (TotalVariationTorque w start len) = torque_block_says (part p.pool start len) w c
  objective_says c (Linear w a al b bl) = ((λ h. h), λ h. h)

  abbrev pub Held : Block → Type 0
  Held x = All (Holds D z) x.cones

  pub objectives_say : (c : ℕ) (os : List Objective) → All Held (objective_blocks p c os) ↔ ObjectivesMeaning p D z c os
  unfolding objective_blocks
  objectives_say c [] = ((λ h. h), λ h. h)
  objectives_say c (o ∷ os) =
      let first = objective_says c o in
      let own = width (objective_block p c o) in
      let rest = subst (λ (k : ℕ). All Held (objective_blocks p (c + own) os) ↔ ObjectivesMeaning p D z (c + k) os) (ap (λ (t : FourCounts). t.columns) (objective_counted p c o)) (objectives_say (c + own) os) in
      ((λ h. (first.0 h.0, rest.0 h.1)), λ h. (first.1 h.0, rest.1 h.1))
