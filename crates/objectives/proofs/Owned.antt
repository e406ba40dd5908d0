-- One owner after another: blocks, and the index. Assumes nothing.
use mathlib.Core.Path.{◌≡◌, refl, sym, ap, subst, ◌∙◌}
use mathlib.Core.List.{List, [], ◌∷◌, ◌++◌, append-nil}
use Prim.Native.Nat.{ℕ, ◌+◌, ◌*◌, ◌≤◌, ◌<◌}
use native.Mathlib.Nat.{add-zero, mul-suc}
use native.Mathlib.Numerals.{add-one}
use native.Mathlib.Omega.{arith}
use lib.Ieee.{nan}
use lib.ListN.{length, get_or, take, length-append, length-take}
use lib.Seq.{sets, length-sets}
use Rattle.model.specs.Lists.{joined}
use Rattle.model.specs.Program.{Block}
use Rattle.model.specs.Problem.{Problem}
use Rattle.model.specs.Objectives.{objective_block}
use Rattle.model.specs.Assembled.{objective_blocks}
use Rattle.model.specs.Counts.{◌plus◌}
use Rattle.model.specs.Owners.{Owner, eight, size_of, owners_from}
use Rattle.model.specs.declared.FourCounts.{FourCounts}
use Rattle.model.specs.declared.Tally.{Tally}
use Rattle.model.specs.declared.Objective.{Objective}
use Rattle.model.specs.declared.Objective.TheVariants.{Time}
use Rattle.model.proofs.Sums.{joined-append}
use Rattle.model.proofs.Counted.{same_counts}
use Rattle.model.proofs.Owned.{owners_length, objectives_blocks, eights_length}
use Rattle.model.proofs.Slices.{sized}
use Rattle.model.specs.Lent.{SameBuffers}
use Rattle.model.specs.declared.Buffers.{Buffers}
use Rattle.buffers.specs.Buffers.{State, state_of, emit, Built, Builds}
use Rattle.buffers.specs.Owned.{counts_of, owner_between, reowned, StoresOwner, PutsOwner}
use Rattle.buffers.proofs.Laws.{sets-append, same_refl, same_then}
use Rattle.objectives.specs.Blocks.{pair, together}
use Rattle.objectives.specs.Owned.{tallied, after, BuiltOwners, BuildsOwners}
use Rattle.objectives.proofs.Blocks.{built_width, built_most, built_as, built_like, built_then, built_none, blocks_snoc}

-- ---- a block

module _ {s s' : State} {x : Block} {b : ℕ} (p : Built s s' x b) where
  -- whoever is written
  pub built_reowned : (k : ℕ) → Built (tallied (reowned k s.tally) s) (tallied (reowned k s'.tally) s') x b
  unfolding emit
  built_reowned k = record { says = ap (λ u. tallied (reowned k u.tally) u) p.says; entries = p.entries; rows = p.rows; cones = p.cones; columns = p.columns }

  -- the counts move by its size
  pub built_counts : counts_of s'.tally ≡ counts_of s.tally plus size_of x
  unfolding emit
  built_counts =
      let z = sized x in
      ap (λ u. counts_of u.tally) p.says
      ∙ same_counts (ap (λ (k : ℕ). s.tally.entries + k) (z.entries s.tally.rows.at)) (ap (λ (k : ℕ). s.tally.rows.at + k) z.rows) (ap (λ (k : ℕ). s.tally.cones + k) z.cones) (ap (λ (k : ℕ). s.tally.columns.at + k) z.columns)

  pub built_grows : (s.tally.entries ≤ s'.tally.entries) × (s.tally.rows.at ≤ s'.tally.rows.at) × (s.tally.cones ≤ s'.tally.cones) × (s.tally.columns.at ≤ s'.tally.columns.at)
  built_grows =
      let e = built_counts in (
        omega (arith, ap (λ (c : FourCounts). c.entries) e),
        omega (arith, ap (λ (c : FourCounts). c.rows) e),
        omega (arith, ap (λ (c : FourCounts). c.cones) e),
        omega (arith, ap (λ (c : FourCounts). c.columns) e),
      )

-- the owner between two tallies
pub owner_between_lem : (t u : Tally) (z : FourCounts) → counts_of u ≡ counts_of t plus z → owner_between t u ≡ record { first = counts_of t; size = z }
owner_between_lem t u z e =
    ap (λ (c : FourCounts). record { first = counts_of t; size = c })
    (same_counts (omega (arith, ap (λ (c : FourCounts). c.entries) e)) (omega (arith, ap (λ (c : FourCounts). c.rows) e)) (omega (arith, ap (λ (c : FourCounts). c.cones) e)) (omega (arith, ap (λ (c : FourCounts). c.columns) e)))

-- ---- owners after owners

after_append : (t : FourCounts) (bs cs : List Block) → after t (bs ++ cs) ≡ after (after t bs) cs
after_append t [] cs = refl
after_append t (b ∷ bs) cs = after_append (t plus size_of b) bs cs

owners_append : (t : FourCounts) (bs cs : List Block) → owners_from t (bs ++ cs) ≡ owners_from t bs ++ owners_from (after t bs) cs
owners_append t [] cs = refl
owners_append t (b ∷ bs) cs = ap (λ (os : List Owner). record { first = t; size = size_of b } ∷ os) (owners_append (t plus size_of b) bs cs)

together_append : (bs cs : List Block) → pair (together bs) (together cs) ≡ together (bs ++ cs)
together_append bs cs =
    λ i. record {
      cones = sym (joined-append (λ b. b.cones) bs cs) i;
      cost = sym (joined-append (λ b. b.cost) bs cs) i;
      charges = sym (joined-append (λ b. b.charges) bs cs) i;
    }

pub owners_none : {s : State} {x : List ℕ} {b : ℕ} → BuiltOwners s s x x [] b
owners_none {s} = record { built = built_none (together []) refl refl; index = refl; counts = refl; owner = sym (add-zero s.tally.owner) }

-- one block, and the store of its owner's numbers
pub owners_one : {s u : State} {y : Block} {c : ℕ} {t : Tally} {x x' : List ℕ} → Built s u y c → StoresOwner s.tally u.tally x t x'
    → BuiltOwners s (tallied t u) x x' (y ∷ []) c
owners_one {s} {u} {y} {c} {t} {x} {x'} f p =
    subst (λ (k : Tally). BuiltOwners s (tallied k u) x x' (y ∷ []) c) (sym p.next)
    (record {
      built = built_like (built_reowned f s.tally.owner) (together (y ∷ [])) (sym (append-nil y.cones)) (sym (append-nil y.cost));
      index = p.says ∙ ap (λ (o : Owner). sets x (8 * s.tally.owner) (eight o)) (owner_between_lem s.tally u.tally (size_of y) (built_counts f));
      counts = built_counts f;
      owner = refl;
    })

module _ {s s' : State} {x x' : List ℕ} {bs : List Block} {b : ℕ} (g : BuiltOwners s s' x x' bs b) where
  abbrev o : ℕ
  o = s.tally.owner

  abbrev t₀ : FourCounts
  t₀ = counts_of s.tally

  pub owners_then : {s'' : State} {x'' : List ℕ} {cs : List Block} {c : ℕ} → BuiltOwners s' s'' x' x'' cs c → BuiltOwners s s'' x x'' (bs ++ cs) (b + c)
  owners_then {s''} {x''} {cs} h =
      let os = owners_from t₀ bs in
      let long : 8 * s'.tally.owner ≡ 8 * o + length (joined eight os) = omega (arith, g.owner, eights_length os, owners_length t₀ bs) in
      record {
        built = built_as (built_then g.built (built_reowned h.built o)) (together_append bs cs);
        index = h.index
            ∙ (λ i. sets (g.index i) (long i) (joined eight (owners_from (g.counts i) cs)))
            ∙ sym (sets-append x (8 * o) (joined eight os) (joined eight (owners_from (after t₀ bs) cs)))
            ∙ ap (sets x (8 * o)) (sym (joined-append eight os (owners_from (after t₀ bs) cs)) ∙ ap (joined eight) (sym (owners_append t₀ bs cs)));
        counts = h.counts ∙ ap (λ (t : FourCounts). after t cs) g.counts ∙ sym (after_append t₀ bs cs);
        owner = simp length-append (omega (arith, g.owner, h.owner));
      }

  pub owners_long : length x' ≡ length x
  owners_long = ap length g.index ∙ length-sets x (8 * o) (joined eight (owners_from t₀ bs))

  pub owners_most : {c : ℕ} → b ≤ c → BuiltOwners s s' x x' bs c
  owners_most h = record { built = built_most g.built h; index = g.index; counts = g.counts; owner = g.owner }

-- ---- the loop over objectives

-- the owners of i objectives, each moving the counts by at most b
pub record OwnedAll (s s' : State) (x x' : List ℕ) (p : Problem) (os : List Objective) (i b : ℕ) : Type 0 where
  pub owners : BuiltOwners s s' x x' (objective_blocks p s.tally.columns.at (take i os)) (b * i)

module _ {s : State} {x : List ℕ} {p : Problem} {os : List Objective} {b : ℕ} where
  pub owned_none : OwnedAll s s x x p os 0 b
  unfolding objective_blocks
  owned_none = record { owners = owners_none }

  module _ {s' : State} {x' : List ℕ} {i : ℕ} (g : OwnedAll s s' x x' p os i b) where
    pub owned_more : {u : State} {t : Tally} {x'' : List ℕ} → Built s' u (objective_block p s'.tally.columns.at (get_or os i (Time nan))) b
        → StoresOwner s'.tally u.tally x' t x'' → i < length os → OwnedAll s (tallied t u) x x'' p os (i + 1) b
    owned_more {u} h q l =
        let c = s.tally.columns.at in
        let bs = objective_blocks p c (take i os) in
        let k : Built s' u (objective_block p (c + length (together bs).cost) (get_or os i (Time nan))) b =
        subst (λ (z : ℕ). Built s' u (objective_block p z (get_or os i (Time nan))) b) (built_width g.owners.built) h in
        record { owners = rw (add-one, blocks_snoc p c i os l, mul-suc) (owners_most (owners_then g.owners (owners_one k q)) (omega arith)) }

    pub owned_end : {m c : ℕ} → i ≤ m → m ≤ i → b * m ≤ c → BuiltOwners s s' x x' (objective_blocks p s.tally.columns.at (take m os)) c
    owned_end {m} h l z =
        let e : i ≡ m = omega arith in
        owners_most (subst (λ (j : ℕ). BuiltOwners s s' x x' (objective_blocks p s.tally.columns.at (take j os)) (b * j)) e g.owners) z

    -- the owner being written
    pub owned_owner : s'.tally.owner ≤ s.tally.owner + i
    owned_owner = omega (arith, g.owners.owner, objectives_blocks p s.tally.columns.at (take i os), length-take i os)

-- ---- the same of the buffers that were lent

pub record OwnsAll (t : Tally) (b : Buffers) (t' : Tally) (b' : Buffers) (p : Problem) (os : List Objective) (i most : ℕ) : Type 0 where
  pub same : SameBuffers b b'
  pub owned : OwnedAll (state_of t b) (state_of t' b') b.index.now b'.index.now p os i most

module _ {t : Tally} {b : Buffers} {p : Problem} {os : List Objective} {most : ℕ} where
  pub owns_none : OwnsAll t b t b p os 0 most
  owns_none = record { same = same_refl b; owned = owned_none }

  module _ {t' : Tally} {b' : Buffers} {i : ℕ} (g : OwnsAll t b t' b' p os i most) where
    pub owns_more : {u : Tally} {c : Buffers} {v : Tally} {d : Buffers} → Builds t' b' u c (objective_block p t'.columns.at (get_or os i (Time nan))) most
        → PutsOwner t' u c v d → i < length os → OwnsAll t b v d p os (i + 1) most
    owns_more {u} {v} {d} h q l =
        record {
          same = same_then g.same (same_then h.same q.same);
          owned = subst (λ (s : State). OwnedAll (state_of t b) s b.index.now d.index.now p os (i + 1) most) (sym q.others)
              (owned_more g.owned h.built (subst (λ (x : List ℕ). StoresOwner t' u x v d.index.now) h.index q.stored) l);
        }

    pub owns_end : {m c : ℕ} → i ≤ m → m ≤ i → most * m ≤ c → BuildsOwners t b t' b' (objective_blocks p t.columns.at (take m os)) c
    owns_end h l z = record { same = g.same; owners = owned_end g.owned h l z }
