-- The cost of a point is that of the a and b columns and that of each objective's own columns.
use Prim.Native.Nat.{ℕ, suc, ◌+◌, ◌*◌, ◌<◌}
use native.Mathlib.Nat.{add-zero, zero-add}
use native.Mathlib.Omega.{arith}
use mathlib.Core.Path.{◌≡◌, refl, sym, ap, ap₂, ◌∙◌}
use mathlib.Core.Bool.{Bool, true, false, cond, false≢true}
use mathlib.Core.List.{List, [], ◌∷◌, ◌++◌, append-nil, append_assoc}
use lib.ListN.{length, set, replicate, length-append, length-set, length-replicate, get_or-replicate, get_or-append}
use lib.Seq.{set-append_left}
use lib.Dec.{ltb}
use lib.IntN.{ℤ, pos, ◌+ℤ◌, ◌*ℤ◌, +ℤ_idl, +ℤ_idr, +ℤ_assoc, zero-*ℤ}
use lib.Ieee.{Float, nan}
use Rattle.model.specs.Numbers.{at, ◌⊕◌, ◌⊗◌, +0, +4}
use Rattle.model.specs.Lists.{list, given, joined}
use Rattle.model.specs.Problem.{Problem, Path, objectives, n, m, L, ends, flag, skip, some, is_linear, has_root}
use Rattle.model.specs.Program.{Cell, Block, nothing, charged}
use Rattle.model.specs.Standard.{standard, root, root_stage}
use Rattle.model.specs.Objectives.{time_weights, time_block, thermal_block, torque_block, linear_block, objective_block}
use Rattle.model.specs.Assembled.{width, cost_after, objective_blocks, blocks, cost}
use Rattle.model.specs.Conic.{units, sum_to, cost_at}
use Rattle.model.specs.declared.FourCounts.{FourCounts}
use Rattle.model.specs.declared.Objective.{Objective}
use Rattle.model.specs.declared.Objective.TheVariants.{Time, ThermalEnergy, TotalVariationTorque, Linear}
use Rattle.model.proofs.All.{All, all_append, all_list}
use Rattle.model.proofs.Sizes.{Sizes}
use Rattle.model.proofs.Sums.{length_list, length_given, flag_of}
use Rattle.model.proofs.Counted.{root_width, objective_counted, charged_length}
use Rattle.model.proofs.SumTo.{sum_to_ext, sum_to_none, sum_to_first}
use Rattle.model.proofs.Feasible.{get_d_list}
use Rattle.model.proofs.Units.{units_zero}
use Rattle.model.specs.Meaning.{objective_cost, objectives_cost, stations_cost, first_own_column}

module _ (z : ℕ → ℤ) where
  -- a list of costs, of the columns from k on
  abbrev worth : List Float → ℕ → ℤ
  worth [] k = pos 0
  worth (x ∷ l) k = units x *ℤ z k +ℤ worth l (suc k)

  worth_append : (xs ys : List Float) (k : ℕ) → worth (xs ++ ys) k ≡ worth xs k +ℤ worth ys (k + length xs)
  worth_append [] ys k = ap (worth ys) (sym (add-zero k)) ∙ sym (+ℤ_idl (worth ys (k + 0)))
  worth_append (x ∷ xs) ys k =
      ap (λ (y : ℤ). units x *ℤ z k +ℤ y) (worth_append xs ys (suc k) ∙ ap (λ (i : ℕ). worth xs (suc k) +ℤ worth ys i) (omega arith))
      ∙ sym (+ℤ_assoc (units x *ℤ z k) (worth xs (suc k)) (worth ys (k + suc (length xs))))

  -- one by one
  worth_by : (l : List Float) (f : ℕ → Float) (k : ℕ) → ((i : ℕ) → i < length l → at l i ≡ f i) → worth l k ≡ sum_to (λ i. units (f i) *ℤ z (k + i)) (length l)
  worth_by [] f k h = refl
  worth_by (x ∷ l) f k h =
      ap₂ ◌+ℤ◌ (ap₂ (λ (y : Float) (i : ℕ). units y *ℤ z i) (h 0 (omega arith)) (sym (add-zero k)))
      (worth_by l (λ i. f (suc i)) (suc k) (λ i a. h (suc i) (omega arith)) ∙ sum_to_ext _ _ (length l) (λ i a. ap (λ (j : ℕ). units (f (suc i)) *ℤ z j) (omega arith)))
      ∙ sym (sum_to_first (λ i. units (f i) *ℤ z (k + i)) (length l))

  worth_list : (f : ℕ → Float) (c k : ℕ) → worth (list f 0 c) k ≡ sum_to (λ i. units (f i) *ℤ z (k + i)) c
  worth_list f c k =
      worth_by (list f 0 c) f k (λ i h. get_d_list f 0 c i nan (omega (arith, length_list f 0 c)) ∙ ap f (zero-add i)) ∙ ap (sum_to (λ i. units (f i) *ℤ z (k + i))) (length_list f 0 c)

  worth_replicate : (c : ℕ) (x : Float) (k : ℕ) → worth (replicate c x) k ≡ sum_to (λ i. units x *ℤ z (k + i)) c
  worth_replicate c x k =
      worth_by (replicate c x) (λ i. x) k (λ i h. get_or-replicate c i x nan (omega (arith, length-replicate c x))) ∙ ap (sum_to (λ i. units x *ℤ z (k + i))) (length-replicate c x)

  worth_zeros : (c k : ℕ) → worth (replicate c +0) k ≡ pos 0
  worth_zeros c k = worth_replicate c +0 k ∙ sum_to_none (λ i. units +0 *ℤ z (k + i)) c (λ i h. ap (λ (x : ℤ). x *ℤ z (k + i)) units_zero ∙ zero-*ℤ (z (k + i)))

  worth_given : (t : Bool) (x : Float) (k : ℕ) → worth (given t (x ∷ [])) k ≡ cond t (units x *ℤ z k) (pos 0)
  worth_given true x k = +ℤ_idr (units x *ℤ z k)
  worth_given false x k = refl

  -- one for each positive end, then a list; i and e are how many stand before
  worth_ends : (s t : Bool) (x y : Float) (f : ℕ → Float) (l c i e : ℕ) → cond s 1 0 ≡ i → cond s 1 0 + cond t 1 0 ≡ e
      → worth (given s (x ∷ []) ++ given t (y ∷ []) ++ list f 0 l) c
      ≡ cond s (units x *ℤ z c) (pos 0) +ℤ cond t (units y *ℤ z (c + i)) (pos 0) +ℤ sum_to (λ j. units (f j) *ℤ z (c + e + j)) l
  worth_ends s t x y f l c i e a b =
      let first : length (given s (x ∷ [])) ≡ i = omega (arith, length_given s (x ∷ [])) in
      let both : length (given s (x ∷ []) ++ given t (y ∷ [])) ≡ e = omega (arith, length-append (given s (x ∷ [])) (given t (y ∷ [])), length_given s (x ∷ []), length_given t (y ∷ [])) in
      worth_append (given s (x ∷ []) ++ given t (y ∷ [])) (list f 0 l) c
      ∙ ap₂ ◌+ℤ◌ (worth_append (given s (x ∷ [])) (given t (y ∷ [])) c ∙ ap₂ ◌+ℤ◌ (worth_given s x c) (ap (λ (k : ℕ). worth (given t (y ∷ [])) (c + k)) first ∙ worth_given t y (c + i)))
      (ap (λ (k : ℕ). worth (list f 0 l) (c + k)) both ∙ worth_list f l (c + e))

-- ---- charges change the first columns alone

-- of all blocks
abbrev pub all_charges : List Block → List Cell
all_charges = joined (λ b. b.charges)

abbrev Before : ℕ → List Cell → Type 0
Before k = All (λ c. c.column < k)

charged_front : (k : ℕ) (q r : List Float) (cs : List Cell) → length q ≡ k → Before k cs → charged (q ++ r) cs ≡ charged q cs ++ r
charged_front k q r [] e h = refl
charged_front k q r (c ∷ cs) e h =
    let v = at q c.column ⊕ c.value in
    ap (λ (x : Float). charged (set (q ++ r) c.column (x ⊕ c.value)) cs) (get_or-append q r nan c.column (omega (arith, h.0)))
    ∙ ap (λ (l : List Float). charged l cs) (set-append_left q r c.column v (omega (arith, h.0)))
    ∙ charged_front k (set q c.column v) r cs (length-set q c.column v ∙ e) h.1

charged_append : (q : List Float) (cs ds : List Cell) → charged q (cs ++ ds) ≡ charged (charged q cs) ds
charged_append q [] ds = refl
charged_append q (c ∷ cs) ds = charged_append (set q c.column (at q c.column ⊕ c.value)) cs ds

cost_front : (k : ℕ) (q r : List Float) (bs : List Block) → length q ≡ k → All (λ b. Before k b.charges) bs
    → cost_after (q ++ r) bs ≡ charged q (all_charges bs) ++ (r ++ joined (λ b. b.cost) bs)
cost_front k q r [] e h = ap (λ (l : List Float). q ++ l) (sym (append-nil r))
cost_front k q r (b ∷ bs) e h =
    ap (λ (l : List Float). cost_after (l ++ b.cost) bs) (charged_front k q r b.charges e h.0)
    ∙ ap (λ (l : List Float). cost_after l bs) (append_assoc (charged q b.charges) r b.cost)
    ∙ cost_front k (charged q b.charges) (r ++ b.cost) bs (charged_length q b.charges ∙ e) h.1
    ∙ ap₂ ◌++◌ (sym (charged_append q b.charges (all_charges bs))) (append_assoc r b.cost (joined (λ b. b.cost) bs))

module _ (p : Problem) where
  abbrev q : Path
  q = p.path

  linear_before : Sizes q → (w : Float) (alpha beta : List Float) → Before (2 * (n q + 1)) (linear_block q p.roots w alpha beta).charges
  unfolding linear_block
  linear_before l w alpha beta =
      simp (all_append (λ (c : Cell). c.column < 2 * (n q + 1)), all_list (λ (c : Cell). c.column < 2 * (n q + 1)))
      ((((λ i a b. omega arith), λ i a b. omega arith), λ i a b. omega arith), λ i a b. omega arith)

  objective_before : Sizes q → (c : ℕ) (o : Objective) → Before (2 * (n q + 1)) (objective_block p c o).charges
  unfolding objective_block time_block thermal_block torque_block
  objective_before l c (Time w) = tt
  objective_before l c (ThermalEnergy w start len) = tt
  objective_before l c (TotalVariationTorque w start len) = tt
  objective_before l c (Linear w a al b bl) = linear_before l w _ _

  objectives_before : Sizes q → (c : ℕ) (os : List Objective) → All (λ b. Before (2 * (n q + 1)) b.charges) (objective_blocks p c os)
  unfolding objective_blocks
  objectives_before l c [] = tt
  objectives_before l c (o ∷ os) = (objective_before l c o, objectives_before l (c + width (objective_block p c o)) os)

  blocks_before : Sizes q → All (λ b. Before (2 * (n q + 1)) b.charges) (blocks p)
  unfolding blocks standard root root_stage
  blocks_before l = (tt, (go (has_root p), objectives_before l _ (objectives p)))
    where
      go : (t : Bool) → Before (2 * (n q + 1)) (cond t (root_stage q) nothing).charges
      go true = tt
      go false = tt

  abbrev zeros : List Float
  zeros = replicate (2 * (n q + 1)) +0

  -- the a and b columns as the charges leave them
  abbrev pub station_columns : List Float
  station_columns = charged zeros (all_charges (blocks p))

  -- and then each block's own
  pub cost_parts : Sizes q → cost p ≡ station_columns ++ joined (λ b. b.cost) (blocks p)
  unfolding cost
  cost_parts l = ap (λ (l : List Float). cost_after l (blocks p)) (sym (append-nil zeros)) ∙ cost_front (2 * (n q + 1)) zeros [] (blocks p) (length-replicate (2 * (n q + 1)) +0) (blocks_before l)

  pub stations_long : length station_columns ≡ 2 * (n q + 1)
  stations_long = charged_length zeros (all_charges (blocks p)) ∙ length-replicate (2 * (n q + 1)) +0

  module _ (z : ℕ → ℤ) where
    -- ---- an objective's own columns

    objective_cost_lem : (c : ℕ) (o : Objective) → worth z (objective_block p c o).cost c ≡ objective_cost p z c o
    unfolding objective_block time_block thermal_block torque_block linear_block ends
    objective_cost_lem c (Time w) = worth_list z (λ j. w ⊗ at (time_weights q) (skip q + j)) (L q) c
    objective_cost_lem c (ThermalEnergy w start len) =
        worth_ends z (ltb 0 q.N0) (ltb 0 q.N1) _ _ (λ j. +4 ⊗ w ⊗ at p.thermal (skip q + j)) (L q) c (flag q.N0) (ends q) (flag_of q.N0) (ap₂ ◌+◌ (flag_of q.N0) (flag_of q.N1))
    objective_cost_lem c (TotalVariationTorque w start len) = worth_replicate z (p.torque.d * (ends q + m q)) w c
    objective_cost_lem c (Linear w a al b bl) = refl

    objectives_cost_lem : (c : ℕ) (os : List Objective) → worth z (joined (λ b. b.cost) (objective_blocks p c os)) c ≡ objectives_cost p z c os
    unfolding objective_blocks
    objectives_cost_lem c [] = refl
    objectives_cost_lem c (o ∷ os) =
        let own = (objective_block p c o).cost in
        let later = objective_blocks p (c + length own) os in
        worth_append z own (joined (λ b. b.cost) later) c
        ∙ ap₂ ◌+ℤ◌ (objective_cost_lem c o) (objectives_cost_lem (c + length own) os ∙ ap (λ (t : FourCounts). objectives_cost p z (c + t.columns) os) (objective_counted p c o))

    root_cost : (k : ℕ) → worth z (root p).cost k ≡ pos 0
    unfolding root root_stage
    root_cost k = go (has_root p)
      where
        go : (t : Bool) → worth z (cond t (root_stage q) nothing).cost k ≡ pos 0
        go true = worth_zeros z (L q) k
        go false = refl

    own_cost : worth z (joined (λ b. b.cost) (blocks p)) (2 * (n q + 1)) ≡ objectives_cost p z (first_own_column p) (objectives p)
    unfolding blocks standard
    own_cost =
        let c = 2 * (n q + 1) in
        worth_append z (root p).cost (joined (λ b. b.cost) (objective_blocks p (c + width (root p)) (objectives p))) c
        ∙ ap₂ ◌+ℤ◌ (root_cost c) (objectives_cost_lem (c + width (root p)) (objectives p) ∙ ap (λ (k : ℕ). objectives_cost p z (c + k) (objectives p)) (root_width p))
        ∙ +ℤ_idl _

    stations_cost_lem : Sizes q → worth z station_columns 0 ≡ stations_cost p z
    stations_cost_lem l =
        let first = station_columns in
        worth_by z first (at (cost p)) 0 (λ i h. sym (ap (λ (l : List Float). at l i) (cost_parts l) ∙ get_or-append first (joined (λ b. b.cost) (blocks p)) nan i h))
        ∙ sum_to_ext _ _ (length first) (λ i h. ap (λ (k : ℕ). units (at (cost p) i) *ℤ z k) (zero-add i)) ∙ ap (sum_to (λ c. units (at (cost p) c) *ℤ z c)) stations_long

    pub costs_add : Sizes q → cost_at p z ≡ stations_cost p z +ℤ objectives_cost p z (first_own_column p) (objectives p)
    unfolding cost_at
    costs_add l =
        let first = station_columns in
        let rest = joined (λ b. b.cost) (blocks p) in
        sum_to_ext _ _ (length (cost p)) (λ i h. ap (λ (k : ℕ). units (at (cost p) i) *ℤ z k) (sym (zero-add i)))
        ∙ sym (worth_by z (cost p) (at (cost p)) 0 (λ i h. refl))
        ∙ ap (λ (l : List Float). worth z l 0) (cost_parts l)
        ∙ worth_append z first rest 0
        ∙ ap₂ ◌+ℤ◌ (stations_cost_lem l) (ap (worth z rest) (zero-add (length first) ∙ stations_long) ∙ own_cost)

    -- ---- without a Linear the a and b columns cost nothing

    objectives_uncharged : (c : ℕ) (os : List Objective) → some is_linear os ≡ false → all_charges (objective_blocks p c os) ≡ []
    unfolding objective_blocks objective_block time_block thermal_block torque_block
    objectives_uncharged c [] e = refl
    objectives_uncharged c (Time w ∷ os) e = objectives_uncharged (c + width (objective_block p c (Time w))) os e
    objectives_uncharged c (ThermalEnergy w start len ∷ os) e = objectives_uncharged (c + width (objective_block p c (ThermalEnergy w start len))) os e
    objectives_uncharged c (TotalVariationTorque w start len ∷ os) e = objectives_uncharged (c + width (objective_block p c (TotalVariationTorque w start len))) os e
    objectives_uncharged c (Linear w a al b bl ∷ os) e = absurd (false≢true (sym e))

    blocks_uncharged : some is_linear (objectives p) ≡ false → all_charges (blocks p) ≡ []
    unfolding blocks standard root root_stage
    blocks_uncharged e = ap₂ ◌++◌ (go (has_root p)) (objectives_uncharged _ (objectives p) e)
      where
        go : (t : Bool) → (cond t (root_stage q) nothing).charges ≡ []
        go true = refl
        go false = refl

    pub stations_free : Sizes q → some is_linear (objectives p) ≡ false → stations_cost p z ≡ pos 0
    stations_free l e = sym (stations_cost_lem l) ∙ ap (λ (cs : List Cell). worth z (charged zeros cs) 0) (blocks_uncharged e) ∙ worth_zeros z (2 * (n q + 1)) 0
