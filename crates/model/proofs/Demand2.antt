-- Demand 2, about what is assembled: "Rows and cones are proved to follow a definition written from Clarabel's conic form". The definition is specs/Conic.antt;
-- what it means to a planner is specs/Meaning.antt. That the numbers are the Rust's is shown by running: docs/DIFFERENCES.md.
use Prim.Native.Nat.{ℕ, ◌+◌, ◌*◌, ◌<◌}
use native.Mathlib.Omega.{arith}
use mathlib.Core.Path.{◌≡◌, refl, sym, ap, ap₂, ◌∙◌, subst}
use mathlib.Core.Logic.{◌↔◌}
use mathlib.Core.Bool.{Bool, true, false, cond, false≢true}
use mathlib.Core.List.{List, [], ◌∷◌}
use lib.ListN.{length}
use lib.IntN.{ℤ, pos, ◌+ℤ◌, ◌*ℤ◌, +ℤ_idl, +ℤ_idr}
use lib.Ieee.{Float}
use Rattle.model.specs.Verdicts.{accepted}
use Rattle.model.specs.Numbers.{at}
use Rattle.model.specs.Problem.{Problem, objectives, n, L, skip, some, is_linear, has_root}
use Rattle.model.specs.Refusals.{refusal}
use Rattle.model.specs.Program.{nothing}
use Rattle.model.specs.Standard.{standard, root, root_stage}
use Rattle.model.specs.Assembled.{width, objective_blocks, blocks, cones, entries, right_side, cost}
use Rattle.model.specs.Conic.{units, sum_to, coefficient, slack, Feasible, cost_at}
use Rattle.model.specs.declared.Objective.{Objective}
use Rattle.model.specs.declared.Objective.TheVariants.{Time}
use Rattle.model.proofs.All.{All, all_joined}
use Rattle.model.proofs.Sizes.{Sizes}
use Rattle.model.proofs.Usable.{usable, usable_sizes}
use Rattle.model.proofs.Demand3.{Acceptable, accepted_lem, all_finite_lem}
use Rattle.model.proofs.Counted.{root_width}
use Rattle.model.proofs.Feasible.{Holds, feasible_cones, matrix_form}
use Rattle.model.specs.Meaning.{◌≼◌, xi, RootStage, TimeMeaning, ObjectivesMeaning, first_own_column, Meaning, stations_cost, objective_cost, objectives_cost}
use Rattle.model.proofs.StandardRows.{equalities_say, inequalities_say, root_stage_says}
use Rattle.model.proofs.ObjectiveCones.{Held, objectives_say}
use Rattle.model.proofs.TwiceFinite.{TwiceFinite, accepted_twice_finite}
use Rattle.model.proofs.Scaling.{scale, feasible_scaled, cost_scaled}
use Rattle.model.proofs.Costs.{costs_add, stations_free}
use Rattle.model.proofs.Rising.{Doubles, weight_least, time_fit}
use Rattle.model.proofs.Travel.{Multiple, travel, xi_above, travel_least, travel_exactly, multiple}

-- ---- one theorem over the list of blocks

module _ (p : Problem) (D : ℕ) (z : ℕ → ℤ) where
  root_held : 0 < D → (t : Bool) → Held p D z (cond t (root_stage p.path) nothing) ↔ (t ≡ true → RootStage p D z)
  root_held d true = let e = root_stage_says p D z d in ((λ h _. e.0 h), λ h. e.1 (h refl))
  root_held d false = ((λ _ e. absurd (false≢true e)), λ _. tt)

  own_held : All (Held p D z) (objective_blocks p (2 * (n p.path + 1) + width (root p)) (objectives p)) ↔ ObjectivesMeaning p D z (first_own_column p) (objectives p)
  own_held =
      subst (λ (k : ℕ). All (Held p D z) (objective_blocks p (2 * (n p.path + 1) + width (root p)) (objectives p)) ↔ ObjectivesMeaning p D z (2 * (n p.path + 1) + k) (objectives p)) (root_width p)
      (objectives_say p D z (2 * (n p.path + 1) + width (root p)) (objectives p))

  cones_say : Sizes p.path → TwiceFinite p.path → 0 < D → All (Holds D z) (cones p) ↔ Meaning p D z
  unfolding cones blocks standard root
  cones_say l twice d =
      let each = all_joined (Holds D z) (λ b. b.cones) (blocks p) in
      let equal = equalities_say p D z l in
      let most = inequalities_say p D z l twice in
      let roots = root_held d (has_root p) in (
        (λ h.
            let g = each.0 h in
            record { equalities = equal.0 g.0.0; inequalities = most.0 g.0.1.0; roots = roots.0 g.1.0; own = own_held.0 g.1.1 }),
        λ h. each.1 ((equal.1 h.equalities, (most.1 h.inequalities, tt)), (roots.1 h.roots, own_held.1 h.own)),
      )

-- by refusals 4 and 14
sized : (p : Problem) → refusal p ≡ accepted → Sizes p.path
sized p ok = usable_sizes p (usable p ok)

-- every problem that passes refusals 1 to 18, every D and every point; refusal 20 sees to `TwiceFinite`, refusals 1 to 18 do not (`wide_fails`, Worked.antt)
pub means : (p : Problem) → refusal p ≡ accepted → TwiceFinite p.path → (D : ℕ) (z : ℕ → ℤ) → 0 < D → Feasible p D z ↔ Meaning p D z
means p ok twice D z d =
    let cones = cones_say p D z (sized p ok) twice d in
    let feasible = feasible_cones D z p in
    ((λ h. cones.0 (feasible.0 h).1), λ h. feasible.1 (d, cones.1 h))

-- of every accepted problem, for every D and every point z / D
pub record Demand2 (p : Problem) : Type 0 where
  -- "A·z + slack = right side,"
  pub form : (D : ℕ) (z : ℕ → ℤ) (r : ℕ)
      → sum_to (λ c. coefficient (entries p) r c *ℤ z c) (length (cost p)) +ℤ slack D z (entries p) (right_side p) r ≡ units (at (right_side p) r) *ℤ pos D
  -- "slack in the product of the cones, rows in cone order": each cone holds the slacks of its own rows
  pub cone_by_cone : (D : ℕ) (z : ℕ → ℤ) → Feasible p D z ↔ ((0 < D) × All (Holds D z) (cones p))
  -- feasible is what satisfies the planner's page
  pub says : (D : ℕ) (z : ℕ → ℤ) → 0 < D → Feasible p D z ↔ Meaning p D z
  -- a point that is written over k·D is feasible alike, and costs as much
  pub scaled : (k : ℕ) → 0 < k → (D : ℕ) (z : ℕ → ℤ) → Feasible p (k * D) (scale k z) ↔ Feasible p D z
  pub same_cost : (k : ℕ) (z : ℕ → ℤ) → cost_at p (scale k z) ≡ pos k *ℤ cost_at p z
  -- "linear cost": of the a and b columns, which only Linear charges, and of each objective's own columns
  pub costs : (z : ℕ → ℤ) → cost_at p z ≡ stations_cost p z +ℤ objectives_cost p z (first_own_column p) (objectives p)
  pub uncharged : (z : ℕ → ℤ) → some is_linear (objectives p) ≡ false → stations_cost p z ≡ pos 0

module _ (p : Problem) (ok : Acceptable p) where
  passed : refusal p ≡ accepted
  passed = accepted_lem p ok

  pub demand2 : Demand2 p
  demand2 =
      let l = sized p passed in
      record {
        form = λ D z. matrix_form z D p l;
        cone_by_cone = λ D z. feasible_cones D z p;
        says = means p passed (accepted_twice_finite p l (all_finite_lem p ok));
        scaled = λ k h. feasible_scaled k h p;
        same_cost = λ k. cost_scaled k p;
        costs = λ z. costs_add p z l;
        uncharged = λ z. stations_free p z l;
      }

  -- ---- one Time objective alone

  module _ (w : Float) (alone : objectives p ≡ Time w ∷ []) (z : ℕ → ℤ) where
    -- the cost is that of its own columns
    pub time_alone : cost_at p z ≡ objective_cost p z (first_own_column p) (Time w)
    time_alone =
        let o = objective_cost p z (first_own_column p) (Time w) in
        demand2.costs z
        ∙ ap₂ ◌+ℤ◌ (demand2.uncharged z (ap (some is_linear) alone)) (ap (objectives_cost p z (first_own_column p)) alone ∙ +ℤ_idr o)
        ∙ +ℤ_idl o

    module _ (D : ℕ) (feasible : Feasible p D z) where
      positive : 0 < D
      positive = ((feasible_cones D z p).0 feasible).0

      pub time_means : TimeMeaning p D z (first_own_column p)
      time_means = (subst (λ (os : List Objective). ObjectivesMeaning p D z (first_own_column p) os) alone ((demand2.says D z positive).0 feasible).own).0

      -- every xi is above zero, so the X have a common multiple
      pub moves : (j : ℕ) → j < L p.path → pos 1 ≼ xi p D z j
      moves = xi_above p D z w (first_own_column p) time_means positive

      pub common : Multiple (xi p D z) (L p.path)
      common = multiple (xi p D z) (L p.path) moves

      -- a feasible point costs at least the travel time over the grid at its xi
      pub travel_time : Doubles p.path.grid → (m : Multiple (xi p D z) (L p.path)) → travel p D w m.M ≼ pos m.k *ℤ cost_at p z
      travel_time doubles m =
          subst (λ (y : ℤ). travel p D w m.M ≼ pos m.k *ℤ y) (sym time_alone)
          (travel_least p D z w (first_own_column p) time_means m (λ j l. weight_least p passed (sized p passed) doubles w (time_fit p passed w alone) (skip p.path + j) (omega (arith, (sized p passed).reach))))

      -- and just that where every X·E is D²
      pub travel_time_exactly : (m : Multiple (xi p D z) (L p.path)) → ((j : ℕ) → j < L p.path → xi p D z j *ℤ z (first_own_column p + j) ≡ pos D *ℤ pos D)
          → travel p D w m.M ≡ pos m.k *ℤ cost_at p z
      travel_time_exactly m tight = travel_exactly p D z w (first_own_column p) time_means m tight ∙ ap (λ (y : ℤ). pos m.k *ℤ y) (sym time_alone)
