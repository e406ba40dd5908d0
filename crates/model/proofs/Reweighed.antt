-- Request 6: "two accepted problems that differ only in the weight of one objective other than Linear have equal entries, right side and cones, and equal cost outside
-- that owner's columns." Shown for every problem, accepted or not.
use Prim.Native.Nat.{ℕ, zero, suc, ◌+◌, ◌-◌, ◌*◌, ◌≤◌, ◌<◌}
use native.Mathlib.Nat.{not-suc-le-zero, le_of_suc-le-suc}
use native.Mathlib.Decide.{dec_lt, ℕ_discrete}
use native.Mathlib.Omega.{arith}
use mathlib.Core.Path.{◌≡◌, refl, sym, ap, ap₂, ◌∙◌}
use mathlib.Core.Bool.{Bool, false, ◌||◌, cond, false≢true}
use mathlib.Core.List.{List, [], ◌∷◌, ◌++◌}
use lib.Ieee.{Float, nan}
use lib.ListN.{length, get_or, set, replicate, length-append, length-take, length-set, length-replicate, get_or-append, get_or-eq_default}
use lib.Seq.{take-set-lt, get_or-take, get_or-append-add, get_or-set_same, get_or-set_other, set_out}
use Rattle.model.specs.Numbers.{at, ◌⊕◌, +0}
use Rattle.model.specs.Lists.{joined}
use Rattle.model.specs.Problem.{Problem, objectives, n, some, uses_root, is_linear}
use Rattle.model.specs.Program.{Cell, Block, nothing, charged, entries_from, right_sides}
use Rattle.model.specs.Standard.{standard, root, root_stage}
use Rattle.model.specs.Objectives.{time_block, thermal_block, torque_block, objective_block}
use Rattle.model.specs.Assembled.{width, cost_after, objective_blocks, blocks, cones, bands, entries, right_side, cost}
use Rattle.model.specs.Counts.{◌plus◌}
use Rattle.model.specs.Owners.{eight, size_of, owners_from, tally_start, owners, index}
use Rattle.model.specs.Reweighed.{with_weight, reweighed}
use Rattle.model.specs.declared.FourCounts.{FourCounts}
use Rattle.model.specs.declared.Objective.{Objective}
use Rattle.model.specs.declared.Objective.TheVariants.{Time, ThermalEnergy, TotalVariationTorque, Linear}
use Rattle.model.proofs.Sums.{length_list, length_given}
use Rattle.model.proofs.Counted.{same_counts, charged_length}
use Rattle.model.proofs.Owned.{none}

-- two blocks that differ at most in the numbers of their own columns' cost
pub record Alike (b b' : Block) : Type 0 where
  pub cones : b'.cones ≡ b.cones
  pub charges : b'.charges ≡ b.charges
  pub width : width b' ≡ width b

-- two lists of blocks, equal but for place i, where they are alike
abbrev pub AlikeAt : ℕ → List Block → List Block → Type 0
AlikeAt i [] [] = ⊥
AlikeAt i [] (b' ∷ bs') = ⊥
AlikeAt i (b ∷ bs) [] = ⊥
AlikeAt zero (b ∷ bs) (b' ∷ bs') = Alike b b' × (bs' ≡ bs)
AlikeAt (suc i) (b ∷ bs) (b' ∷ bs') = (b' ≡ b) × AlikeAt i bs bs'

cones_same : (i : ℕ) (bs bs' : List Block) → AlikeAt i bs bs' → joined (λ b. b.cones) bs' ≡ joined (λ b. b.cones) bs
cones_same i [] [] h = absurd h
cones_same i [] (b' ∷ bs') h = absurd h
cones_same i (b ∷ bs) [] h = absurd h
cones_same zero (b ∷ bs) (b' ∷ bs') h = ap₂ ◌++◌ h.0.cones (ap (joined (λ b. b.cones)) h.1)
cones_same (suc i) (b ∷ bs) (b' ∷ bs') h = ap₂ ◌++◌ (ap (λ (x : Block). x.cones) h.0) (cones_same i bs bs' h.1)

-- blocks that are alike are of one size, so that the owners are the same
alike_size : (b b' : Block) → Alike b b' → size_of b' ≡ size_of b
unfolding size_of
alike_size b b' a =
    same_counts (ap (λ cs. length (entries_from 0 (joined (λ c. c.bands) cs))) a.cones) (ap (λ cs. length (right_sides (joined (λ c. c.bands) cs))) a.cones) (ap length a.cones) a.width

owners_same : (i : ℕ) (t : FourCounts) (bs bs' : List Block) → AlikeAt i bs bs' → owners_from t bs' ≡ owners_from t bs
owners_same i t [] [] h = absurd h
owners_same i t [] (b' ∷ bs') h = absurd h
owners_same i t (b ∷ bs) [] h = absurd h
owners_same zero t (b ∷ bs) (b' ∷ bs') h = rw (alike_size b b' h.0, h.1)
owners_same (suc i) t (b ∷ bs) (b' ∷ bs') h = rw h.0 (ap (λ os. record { first = t; size = size_of b } ∷ os) (owners_same i (t plus size_of b) bs bs' h.1))

-- ---- the cost: equal outside the columns lo, .., len of them
pub record Outside (lo len : ℕ) (q q' : List Float) : Type 0 where
  pub long : length q' ≡ length q
  pub same : (k : ℕ) → ¬ ((lo ≤ k) × (k < lo + len)) → at q' k ≡ at q k

-- an element that is set to equal numbers, or another element
set_same : (q q' : List Float) (c k : ℕ) (v v' : Float) → length q' ≡ length q → (k ≡ c → v' ≡ v) → at q' k ≡ at q k → at (set q' c v') k ≡ at (set q c v) k
set_same q q' c k v v' long e h = go (ℕ_discrete k c) (dec_lt c (length q))
  where
    go : Dec (k ≡ c) → Dec (c < length q) → at (set q' c v') k ≡ at (set q c v) k
    go (no d) l = get_or-set_other q' c k v' nan d ∙ h ∙ sym (get_or-set_other q c k v nan d)
    go (yes d) (yes l) = rw d (get_or-set_same q' c v' nan (omega arith) ∙ e d ∙ sym (get_or-set_same q c v nan l))
    go (yes d) (no l) = rw (set_out q' c v' (omega arith), set_out q c v (omega arith)) h

outside_charged : (lo len : ℕ) (q q' : List Float) (cs : List Cell) → Outside lo len q q' → Outside lo len (charged q cs) (charged q' cs)
outside_charged lo len q q' [] o = o
outside_charged lo len q q' (c ∷ cs) o =
    outside_charged lo len (set q c.column (at q c.column ⊕ c.value)) (set q' c.column (at q' c.column ⊕ c.value)) cs record {
      long = length-set q' c.column _ ∙ o.long ∙ sym (length-set q c.column _);
      same = λ k out. set_same q q' c.column k _ _ o.long (λ e. ap (λ (x : Float). x ⊕ c.value) (o.same c.column (rw e at out))) (o.same k out);
    }

outside_more : (lo len : ℕ) (q q' r : List Float) → Outside lo len q q' → Outside lo len (q ++ r) (q' ++ r)
outside_more lo len q q' r o =
    record {
      long = simp length-append (ap (λ (x : ℕ). x + length r) o.long);
      same = λ k out. go k out (dec_lt k (length q));
    }
  where
    go : (k : ℕ) → ¬ ((lo ≤ k) × (k < lo + len)) → Dec (k < length q) → at (q' ++ r) k ≡ at (q ++ r) k
    go k out (yes l) = get_or-append q' r nan k (omega (arith, o.long)) ∙ o.same k out ∙ sym (get_or-append q r nan k l)
    go k out (no l) =
        let e : length q + (k - length q) ≡ k = omega arith in
        let e' : length q' + (k - length q) ≡ k = omega (arith, o.long) in
        ap (at (q' ++ r)) (sym e') ∙ get_or-append-add q' r (k - length q) nan ∙ sym (get_or-append-add q r (k - length q) nan) ∙ ap (at (q ++ r)) e

outside_after : (lo len : ℕ) (q q' : List Float) (bs : List Block) → Outside lo len q q' → Outside lo len (cost_after q bs) (cost_after q' bs)
outside_after lo len q q' [] o = o
outside_after lo len q q' (b ∷ bs) o = outside_after lo len (charged q b.charges ++ b.cost) (charged q' b.charges ++ b.cost) bs (outside_more lo len _ _ b.cost (outside_charged lo len q q' b.charges o))

-- new columns alone differ
outside_new : (q r r' : List Float) → length r' ≡ length r → Outside (length q) (length r) (q ++ r) (q ++ r')
outside_new q r r' e = record { long = simp length-append (ap (λ (x : ℕ). length q + x) e); same = λ k out. go k out (dec_lt k (length q)) }
  where
    far : (k : ℕ) → ¬ ((length q ≤ k) × (k < length q + length r)) → ¬ (k < length q) → Dec (k < length q + length r) → length q + length r ≤ k
    far k out l (yes h) = absurd (out (omega arith, h))
    far k out l (no h) = omega arith

    go : (k : ℕ) → ¬ ((length q ≤ k) × (k < length q + length r)) → Dec (k < length q) → at (q ++ r') k ≡ at (q ++ r) k
    go k out (yes l) = get_or-append q r' nan k l ∙ sym (get_or-append q r nan k l)
    go k out (no l) =
        let h : length q + length r ≤ k = far k out l (dec_lt k (length q + length r)) in
        get_or-eq_default (q ++ r') nan (simp length-append (omega (arith, e))) ∙ sym (get_or-eq_default (q ++ r) nan (simp length-append h))

-- lo and len are those of owner i
cost_outside : (i : ℕ) (bs bs' : List Block) (t : FourCounts) (q : List Float) → t.columns ≡ length q → AlikeAt i bs bs'
    → Outside (get_or (owners_from t bs) i none).first.columns (get_or (owners_from t bs) i none).size.columns (cost_after q bs) (cost_after q bs')
unfolding size_of
cost_outside i [] [] t q e h = absurd h
cost_outside i [] (b' ∷ bs') t q e h = absurd h
cost_outside i (b ∷ bs) [] t q e h = absurd h
cost_outside zero (b ∷ bs) (b' ∷ bs') t q e h =
    let e' : t.columns ≡ length (charged q b.charges) = e ∙ sym (charged_length q b.charges) in
    rw (h.1, h.0.charges, e') (outside_after _ _ _ _ bs (outside_new (charged q b.charges) b.cost b'.cost h.0.width))
cost_outside (suc i) (b ∷ bs) (b' ∷ bs') t q e h =
    rw h.0 (cost_outside i bs bs' (t plus size_of b) (charged q b.charges ++ b.cost) (simp (length-append, charged_length) (ap (λ (x : ℕ). x + width b) e)) h.1)

-- ---- this program

module _ (p : Problem) (i₀ : ℕ) (w : Float) where
  block_same : (c : ℕ) (o : Objective) → objective_block (reweighed p i₀ w) c o ≡ objective_block p c o
  unfolding objective_block reweighed
  block_same c (Time v) = refl
  block_same c (ThermalEnergy v o len) = refl
  block_same c (TotalVariationTorque v o len) = refl
  block_same c (Linear v a al b bl) = refl

  blocks_same : (c : ℕ) (os : List Objective) → objective_blocks (reweighed p i₀ w) c os ≡ objective_blocks p c os
  unfolding objective_blocks
  blocks_same c [] = refl
  blocks_same c (o ∷ os) = ap₂ ◌∷◌ (block_same c o) (blocks_same (c + width (objective_block (reweighed p i₀ w) c o)) os ∙ ap (λ (b : Block). objective_blocks p (c + width b) os) (block_same c o))

  block_alike : (c : ℕ) (o : Objective) → is_linear o ≡ false → Alike (objective_block p c o) (objective_block (reweighed p i₀ w) c (with_weight w o))
  unfolding objective_block reweighed time_block thermal_block torque_block
  block_alike c (Time v) h = record { cones = refl; charges = refl; width = simp length_list }
  block_alike c (ThermalEnergy v o len) h = record { cones = refl; charges = refl; width = simp (length-append, length_given, length_list) }
  block_alike c (TotalVariationTorque v o len) h = record { cones = refl; charges = refl; width = simp length-replicate }
  block_alike c (Linear v a al b bl) h = absurd (false≢true (sym h))

  blocks_alike : (c : ℕ) (os : List Objective) (i : ℕ) → i < length os → is_linear (get_or os i (Time nan)) ≡ false
      → AlikeAt i (objective_blocks p c os) (objective_blocks (reweighed p i₀ w) c (set os i (with_weight w (get_or os i (Time nan)))))
  unfolding objective_blocks
  blocks_alike c [] i l h = absurd (not-suc-le-zero l)
  blocks_alike c (o ∷ os) zero l h =
      let a = block_alike c o h in
      (a, blocks_same _ os ∙ ap (λ (k : ℕ). objective_blocks p (c + k) os) a.width)
  blocks_alike c (o ∷ os) (suc i) l h = (block_same c o, rw block_same (blocks_alike (c + width (objective_block p c o)) os i (le_of_suc-le-suc l) h))

  uses_same : (o : Objective) → uses_root (with_weight w o) ≡ uses_root o
  uses_same (Time v) = refl
  uses_same (ThermalEnergy v o len) = refl
  uses_same (TotalVariationTorque v o len) = refl
  uses_same (Linear v a al b bl) = refl

  some_same : (os : List Objective) (i : ℕ) → some uses_root (set os i (with_weight w (get_or os i (Time nan)))) ≡ some uses_root os
  some_same [] i = refl
  some_same (o ∷ os) zero = ap (λ (b : Bool). b || some uses_root os) (uses_same o)
  some_same (o ∷ os) (suc i) = ap (λ (b : Bool). uses_root o || b) (some_same os i)

-- What stays: entries, right side and cones whole, the cost outside the columns of owner k, and the index
pub record Unmoved (p p' : Problem) (k : ℕ) : Type 0 where
  pub entries : entries p' ≡ entries p
  pub right : right_side p' ≡ right_side p
  pub cones : cones p' ≡ cones p
  pub cost : Outside (get_or (owners p) k none).first.columns (get_or (owners p) k none).size.columns (cost p) (cost p')
  pub index : index p' ≡ index p

module _ (p : Problem) (i : ℕ) (w : Float) (known : i < length (objectives p)) (other : is_linear (get_or (objectives p) i (Time nan)) ≡ false) where
  below_count : i < p.count
  below_count = omega (arith, simp length-take at known)

  objectives_set : objectives (reweighed p i w) ≡ set (objectives p) i (with_weight w (get_or (objectives p) i (Time nan)))
  unfolding reweighed
  objectives_set =
      take-set-lt p.count p.slots i _ below_count
      ∙ ap (λ (o : Objective). set (objectives p) i (with_weight w o)) (sym (get_or-take p.count p.slots i (Time nan) below_count))

  standard_same : standard (reweighed p i w) ≡ standard p
  unfolding standard reweighed
  standard_same = refl

  root_same : root (reweighed p i w) ≡ root p
  unfolding root reweighed
  root_same = ap (λ (b : Bool). cond b (root_stage p.path) nothing) (ap (some uses_root) objectives_set ∙ some_same p i w (objectives p) i)

  all_alike : AlikeAt (suc (suc i)) (blocks p) (blocks (reweighed p i w))
  unfolding blocks objective_blocks root reweighed
  all_alike = (standard_same, (root_same, rw (root_same, objectives_set) (blocks_alike p i w _ (objectives p) i known other)))

  pub weight_alone : Unmoved p (reweighed p i w) (suc (suc i))
  unfolding entries right_side cones cost bands owners index reweighed
  weight_alone =
      let c = cones_same (suc (suc i)) (blocks p) (blocks (reweighed p i w)) all_alike in
      let b = ap (joined (λ c. c.bands)) c in
      record {
        entries = ap (entries_from 0) b;
        right = ap right_sides b;
        cones = c;
        cost =
            cost_outside (suc (suc i)) (blocks p) (blocks (reweighed p i w)) (tally_start p) (replicate (2 * (n p.path + 1)) +0)
            (omega (arith, length-replicate (2 * (n p.path + 1)) +0)) all_alike;
        index = ap (joined eight) (owners_same (suc (suc i)) (tally_start p) (blocks p) (blocks (reweighed p i w)) all_alike);
      }
