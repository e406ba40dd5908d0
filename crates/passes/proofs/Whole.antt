-- The two halves, one after the other, are the assembled program. Assumes nothing.
use mathlib.Core.Path.{◌≡◌, refl, sym, ap, subst, ◌∙◌}
use mathlib.Core.List.{List, [], ◌∷◌, ◌++◌}
use Prim.Native.Nat.{ℕ, ◌+◌, ◌*◌}
use native.Mathlib.Omega.{arith}
use native.Mathlib.Nat.{zero-add}
use lib.Ieee.{Float}
use lib.ListN.{length}
use lib.Seq.{sets}
use Rattle.model.specs.Lists.{joined}
use Rattle.model.specs.Program.{Cone, entries_from, right_sides}
use Rattle.model.specs.Problem.{Problem, objectives, n}
use Rattle.model.specs.Standard.{standard, root}
use Rattle.model.specs.Objectives.{objective_block}
use Rattle.model.specs.Assembled.{objective_blocks, blocks, cones, cost}
use Rattle.model.specs.Counts.{four_counts, ◌plus◌}
use Rattle.model.specs.Owners.{Owner, eight, size_of, owners_from, tally_start, owners, index}
use Rattle.model.specs.declared.FourCounts.{FourCounts}
use Rattle.model.specs.declared.Objective.{Objective}
use Rattle.model.specs.declared.Tally.{Tally}
use Rattle.model.proofs.Counted.{same_counts}
use Rattle.model.proofs.Owned.{objectives_blocks}
use Rattle.buffers.specs.Buffers.{State, state_of, Built, Builds}
use Rattle.model.specs.declared.Buffers.{Buffers}
use Rattle.buffers.specs.Owned.{counts_of, owner_between, reowned, StoresOwner, PutsOwner}
use Rattle.buffers.proofs.Laws.{sets-append, same_then}
use Rattle.objectives.specs.Input.{lends}
use Rattle.objectives.specs.Owned.{tallied, BuiltOwners, BuildsOwners}
use Rattle.objectives.proofs.Blocks.{built_then, built_width, built_like, same_cones, same_cost, same_all_cones, same_all_cost}
use Rattle.objectives.proofs.Owned.{built_reowned, built_counts, owner_between_lem}
use Rattle.blocks.specs.Blocks.{own_blocks}
use Rattle.passes.specs.Program.{whole, start_at, Complete, Completes}

module _ (p : Problem) where
  -- the problem as the objectives' writer sees it
  abbrev pub seen : Problem
  seen = lends p.path p.thermal p.torque p.pool

  abbrev first : ℕ
  first = 2 * (n p.path + 1) + length (root p).cost

  all_cones : (standard p).cones ++ ((root p).cones ++ joined (λ b. b.cones) (objective_blocks seen first (objectives p))) ≡ cones p
  unfolding cones blocks
  all_cones = ap (λ (l : List Cone). (standard p).cones ++ ((root p).cones ++ l)) (same_all_cones seen p refl refl refl refl first (objectives p))

  all_cost : (xs : List Float) → xs ++ ((root p).cost ++ joined (λ b. b.cost) (objective_blocks seen first (objectives p))) ≡ xs ++ joined (λ b. b.cost) (blocks p)
  unfolding blocks standard
  all_cost xs = ap (λ (l : List Float). xs ++ ((root p).cost ++ l)) (same_all_cost seen p refl refl refl refl first (objectives p))

  -- the owners don't depend on what the objectives' writer doesn't see
  same_size : (c : ℕ) (o : Objective) → size_of (objective_block seen c o) ≡ size_of (objective_block p c o)
  unfolding size_of
  same_size c o =
      (λ i. four_counts (length (entries_from 0 (joined (λ x. x.bands) (same_cones seen p refl refl refl refl c o i))))
      (length (right_sides (joined (λ x. x.bands) (same_cones seen p refl refl refl refl c o i)))) (length (same_cones seen p refl refl refl refl c o i)) (length (same_cost seen p refl refl refl refl c o i)))

  same_owners : (t : FourCounts) (c : ℕ) (os : List Objective) → owners_from t (objective_blocks seen c os) ≡ owners_from t (objective_blocks p c os)
  unfolding objective_blocks
  same_owners t c [] = refl
  same_owners t c (o ∷ os) =
      (λ i. record { first = t; size = same_size c o i } ∷ owners_from (t plus same_size c o i) (objective_blocks seen (c + length (same_cost seen p refl refl refl refl c o i)) os))
      ∙ ap (λ (l : List Owner). record { first = t; size = size_of (objective_block p c o) } ∷ l)
      (same_owners (t plus size_of (objective_block p c o)) (c + length (objective_block p c o).cost) os)

  module _ {a b : State} {xs : List Float} {i : ℕ} (z : a.tally ≡ start_at 0) (f : Built a b (record { cones = (standard p).cones; cost = xs; charges = [] }) i)
      (long : length xs ≡ 2 * (n p.path + 1)) where
    at : b.tally.columns.at ≡ 2 * (n p.path + 1)
    at = built_width f ∙ ap (λ (k : Tally). k.columns.at + length xs) z ∙ zero-add (length xs) ∙ long

    -- "the column tally starts at 2n+2, so the standard rows have none"
    standard_counts_lem : counts_of b.tally ≡ tally_start p plus size_of (standard p)
    unfolding size_of standard
    standard_counts_lem = built_counts f ∙ ap (λ (k : Tally). counts_of k plus size_of (record { cones = (standard p).cones; cost = xs; charges = [] })) z ∙ same_counts refl refl refl (omega arith)

    first_owner : owner_between (start_at b.tally.columns.at) b.tally ≡ record { first = tally_start p; size = size_of (standard p) }
    first_owner =
        let e : four_counts 0 0 0 b.tally.columns.at ≡ tally_start p = ap (four_counts 0 0 0) (at ∙ omega arith) in
        owner_between_lem (start_at b.tally.columns.at) b.tally (size_of (standard p)) (standard_counts_lem ∙ ap (λ (k : FourCounts). k plus size_of (standard p)) (sym e))
        ∙ ap (λ (k : FourCounts). record { first = k; size = size_of (standard p) }) e

    module _ {c : State} {j : ℕ} {w t : Tally} {x x' x'' : List ℕ} (begins : w ≡ start_at b.tally.columns.at) (stored : StoresOwner w b.tally x t x')
        (g : BuiltOwners (tallied t b) c x' x'' (own_blocks seen t.columns.at (objectives p)) j) where
      h : StoresOwner (start_at b.tally.columns.at) b.tally x t x'
      h = subst (λ (k : Tally). StoresOwner k b.tally x t x') begins stored

      next : Tally
      next = reowned 1 b.tally

      -- the later owners, from the tally that the store of the first one leaves
      later : BuiltOwners (tallied next b) c x' x'' (root p ∷ objective_blocks seen first (objectives p)) j
      unfolding next root
      later =
          subst (λ (k : ℕ). BuiltOwners (tallied next b) c x' x'' (own_blocks seen k (objectives p)) j) at
          (subst (λ (k : Tally). BuiltOwners (tallied k b) c x' x'' (own_blocks seen k.columns.at (objectives p)) j) h.next g)

      pub whole_index : x'' ≡ sets x 0 (index p)
      unfolding next index owners blocks
      whole_index =
          let T : FourCounts = tally_start p plus size_of (standard p) in
          let O : Owner = record { first = tally_start p; size = size_of (standard p) } in
          let rest : List Owner = owners_from T (root p ∷ objective_blocks p first (objectives p)) in
          later.index
          ∙ (λ i. sets (h.says i) 8 (joined eight (owners_from (standard_counts_lem i) (root p ∷ objective_blocks seen first (objectives p)))))
          ∙ (λ i. sets (sets x 0 (eight (first_owner i))) 8
          (joined eight (record { first = T; size = size_of (root p) } ∷ same_owners (T plus size_of (root p)) first (objectives p) i)))
          ∙ sym (sets-append x 0 (eight O) (joined eight rest))

      pub whole_owner : c.tally.owner ≡ length (objectives p) + 2
      unfolding next
      whole_owner = later.owner ∙ omega (arith, objectives_blocks seen first (objectives p))

      pub whole_built : cost p ≡ xs ++ joined (λ b. b.cost) (blocks p) → Complete a c x x'' p (i + j)
      unfolding next
      whole_built same =
          let o = a.tally.owner in
          record {
            built = built_like (built_then (built_reowned f o) (built_reowned later.built o)) (whole p) all_cones (all_cost xs ∙ sym same);
            index = whole_index;
            owner = whole_owner;
          }

  -- the same of the buffers that were lent
  pub whole_builds : {t u v w z : Tally} {b c d e : Buffers} {xs : List Float} {i j : ℕ} → t ≡ start_at 0 → Builds t b u c (record { cones = (standard p).cones; cost = xs; charges = [] }) i
      → length xs ≡ 2 * (n p.path + 1) → z ≡ start_at u.columns.at → PutsOwner z u c v d → BuildsOwners v d w e (own_blocks seen v.columns.at (objectives p)) j
      → cost p ≡ xs ++ joined (λ b. b.cost) (blocks p) → Completes t b w e p (i + j)
  whole_builds {t} {u} {v} {w} {z} {b} {c} {d} {e} {j} y f long begins q g same =
      record {
        same = same_then f.same (same_then q.same g.same);
        complete = whole_built y f.built long begins (subst (λ (x : List ℕ). StoresOwner z u x v d.index.now) f.index q.stored)
            (subst (λ (s : State). BuiltOwners s (state_of w e) d.index.now e.index.now (own_blocks seen v.columns.at (objectives p)) j) q.others g.owners) same;
      }
