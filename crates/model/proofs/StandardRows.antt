-- The cones of the standard rows and of the root stage hold exactly if the point satisfies what specs/Meaning.antt says of them.
use Prim.Native.Nat.{ℕ, ◌+◌, ◌-◌, ◌<◌}
use native.Mathlib.Omega.{arith}
use mathlib.Core.Path.{◌≡◌}
use mathlib.Core.Logic.{◌↔◌}
use mathlib.Core.List.{List}
use lib.IntN.{ℤ, pos}
use borrow.Author.Tests.{lt-ltb, ltb-true}
use Rattle.model.specs.Numbers.{at}
use Rattle.model.specs.Lists.{list}
use Rattle.model.specs.Problem.{Problem, Path, n, L, stop, col_a, col_xi}
use Rattle.model.specs.Program.{Band, cone, positive_row}
use Rattle.model.specs.Standard.{equalities, first_order, jerk_rows_at, inequalities, root_cone, root_stage}
use Rattle.model.specs.Meaning.{◌≼◌, Equalities, Inequalities, RootStage}
use Rattle.model.proofs.All.{All, all_list}
use Rattle.model.proofs.Sizes.{Sizes}
use Rattle.model.proofs.Feasible.{Holds}
use Rattle.model.proofs.Each.{zeros_cone, nonnegatives_cone, each_append, each_given, each_over, each_list}
use Rattle.model.proofs.Rows.{boundary_says, stationary_says, moving_says, end_says, positive_says, upper_says, interval_says, acceleration_says, backward_says, forward_says}
use Rattle.model.proofs.Cones.{root_says}
use Rattle.model.proofs.TwiceFinite.{TwiceFinite}

-- rows −x ≤ 0 in one nonnegative cone: no column of them is negative
pub signs_say : (D : ℕ) (z : ℕ → ℤ) (f : ℕ → ℕ) (c : ℕ) → Holds D z (cone 1 (list (λ j. positive_row (f j)) 0 c)) ↔ ((j : ℕ) → j < c → pos 0 ≼ z (f j))
signs_say D z f c =
    let all = nonnegatives_cone D z (list (λ j. positive_row (f j)) 0 c) in
    let each = each_list D z _ (λ j. positive_row (f j)) 0 c in
    ((λ h j l. (positive_says D z (f j)).0 (each.0 (all.1 h) j (omega arith) (omega arith))), λ h. all.0 (each.1 (λ j k l. (positive_says D z (f j)).1 (h j (omega arith)))))

module _ (p : Problem) (D : ℕ) (z : ℕ → ℤ) where
  abbrev q : Path
  q = p.path

  -- ---- module 2

  pub equalities_say : Sizes q → Holds D z (cone 0 (equalities q p.boundary)) ↔ Equalities p D z
  unfolding equalities
  equalities_say l = (to, from)
    where
      all : List Band
      all = equalities q p.boundary

      to : Holds D z (cone 0 all) → Equalities p D z
      to h =
          let g = simp (each_append, each_given) at ((zeros_cone D z all).1 h) in
          let x = (boundary_says p D z).0 g.0.0.0 in
          record {
            a_first = x.0;
            a_last = x.1.0;
            b_first = x.1.1.0;
            b_last = x.1.1.1;
            start = λ e. (stationary_says p D z q.N0 0).0 (g.0.0.1 (lt-ltb 0 q.N0 e));
            end = λ e. (stationary_says p D z (stop q) (n q)).0 (g.0.1 (lt-ltb 0 q.N1 e));
            moving = λ k u v. let e : q.N0 + (k - q.N0) ≡ k = omega arith in rw e at ((moving_says p D z).0 g.1 (k - q.N0) (omega arith));
          }

      from : Equalities p D z → Holds D z (cone 0 all)
      from h =
          (zeros_cone D z all).0 (simp (each_append, each_given) (
            (
              (
                (boundary_says p D z).1 (h.a_first, (h.a_last, (h.b_first, h.b_last))),
                λ e. (stationary_says p D z q.N0 0).1 (h.start (ltb-true 0 q.N0 e)),
              ),
              λ e. (stationary_says p D z (stop q) (n q)).1 (h.end (ltb-true 0 q.N1 e)),
            ),
            (moving_says p D z).1 (λ i e. h.moving (q.N0 + i) (omega arith) (omega arith)),
          ))

  -- ---- modules 3 and 4

  pub inequalities_say : Sizes q → TwiceFinite q → Holds D z (cone 1 (inequalities q p.limits p.acc p.jerk)) ↔ Inequalities p D z
  unfolding inequalities first_order jerk_rows_at
  inequalities_say l twice = (to, from)
    where
      all : List Band
      all = inequalities q p.limits p.acc p.jerk

      to : Holds D z (cone 1 all) → Inequalities p D z
      to h =
          let g = simp (each_append, each_given, each_list, each_over) at ((nonnegatives_cone D z all).1 h) in
          let f = g.0.0 in
          record {
            start = λ e. (end_says p D z q.N0 p.limits.start).0 (f.0.0.0.0 (lt-ltb 0 q.N0 e));
            end = λ e. (end_says p D z (stop q) p.limits.end).0 (f.0.0.0.1 (lt-ltb 0 q.N1 e));
            nonnegative = λ k u v. (positive_says D z (col_a q k)).0 (f.0.0.1 k (omega arith) (omega arith));
            amax = λ k u v. (upper_says p D z k (at p.limits.amax k)).0 (f.0.1 k (omega arith) (omega arith));
            intervals = λ k u v. (interval_says p D z k (twice k u v)).0 (f.1 k (omega arith) (omega arith));
            acceleration = λ k u v. (acceleration_says p D z k).0 (g.0.1 k (omega arith) (omega arith));
            backward = λ k u v. (backward_says p D z k).0 ((g.1 k (omega arith) (omega arith)).0 (lt-ltb q.N0 k u));
            forward = λ k u v. (forward_says p D z k).0 ((g.1 k (omega arith) (omega arith)).1 (lt-ltb k (stop q) v));
          }

      from : Inequalities p D z → Holds D z (cone 1 all)
      from h =
          (nonnegatives_cone D z all).0 (simp (each_append, each_given, each_list, each_over) (
            (
              (
                (
                  (
                    (
                      (λ e. (end_says p D z q.N0 p.limits.start).1 (h.start (ltb-true 0 q.N0 e))),
                      λ e. (end_says p D z (stop q) p.limits.end).1 (h.end (ltb-true 0 q.N1 e)),
                    ),
                    λ k u v. (positive_says D z (col_a q k)).1 (h.nonnegative k (omega arith) (omega arith)),
                  ),
                  λ k u v. (upper_says p D z k (at p.limits.amax k)).1 (h.amax k (omega arith) (omega arith)),
                ),
                λ k u v. (interval_says p D z k (twice k (omega arith) (omega arith))).1 (h.intervals k (omega arith) (omega arith)),
              ),
              λ k u v. (acceleration_says p D z k).1 (h.acceleration k (omega arith) (omega arith)),
            ),
            λ k u v. (
              (λ e. (backward_says p D z k).1 (h.backward k (ltb-true q.N0 k e) (omega arith))),
              λ e. (forward_says p D z k).1 (h.forward k (omega arith) (ltb-true k (stop q) e)),
            ),
          ))

  -- ---- module 5

  pub root_stage_says : 0 < D → All (Holds D z) (root_stage q).cones ↔ RootStage p D z
  unfolding root_stage
  root_stage_says d =
      let signs = signs_say D z (col_xi q) (L q) in
      let each = all_list (Holds D z) (root_cone q) 0 (L q) in (
        (λ h. record { nonnegative = signs.0 h.0; root = λ j l. (root_says p D z d j).0 (each.0 h.1 j (omega arith) (omega arith)) }),
        λ h. (signs.1 h.nonnegative, each.1 (λ j k l. (root_says p D z d j).1 (h.root j (omega arith)))),
      )
