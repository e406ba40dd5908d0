-- The laws of the overlay over crate model's bands, cones and blocks: one writer after another, loops, bands, cones. Assumes nothing.
use mathlib.Core.Path.{◌≡◌, refl, sym, ap, subst, ◌∙◌}
use mathlib.Core.Bool.{Bool, true, false, ◌&&◌}
use mathlib.Core.List.{List, [], ◌∷◌, ◌++◌, map, map-append, append-nil, append_assoc}
use Prim.Native.Nat.{ℕ, zero, suc, ◌+◌, ◌*◌, ◌≤◌}
use native.Mathlib.Nat.{add-zero, zero-add, add-suc, suc-add, add_assoc, le_refl, zero-mul, mul-suc, suc-mul, add-mul, mul-one}
use native.Mathlib.Numerals.{add-one}
use native.Mathlib.Omega.{arith}
use lib.Ieee.{Float}
use borrow.Author.Rules.{rules}
use lib.ListN.{length, set, replicate, length-append, length-map, take}
use lib.Seq.{sets}
use Rattle.model.specs.Numbers.{finite}
use Rattle.model.specs.Lists.{list, over, joined}
use Rattle.model.specs.Program.{Cell, cell, Band, band, Cone, cone, Entry, entry, dimension, entries_from, right_sides}
use Rattle.model.specs.Assembled.{all_finite}
use Rattle.model.proofs.Shape.{heights, right_heights, entries_append, right_append}
use Rattle.model.proofs.Sums.{joined-append, length_list}
use Rattle.model.specs.Lent.{SameBuffers}
use Rattle.model.specs.declared.Tally.{Tally}
use Rattle.model.specs.declared.Buffers.{Buffers}
use Rattle.model.specs.declared.Term.{Term}
use Rattle.buffers.specs.Buffers.{Chunk, chunk, none, join, bands_of, of_bands, of_cones, State, state, state_of, tally_of, moved, emit, Lays, Fills, Puts, FillsRight, PutsRight, Columns, Wrote, Overs, Lists, PutsCone, Closed, ClosedList, Costs, PutsCost, FillsCost, Builds}
use Rattle.buffers.specs.Lent.{constant_cells}

-- ---- lists

pub sets-append {ℓ} : {A : Type ℓ} (l : List A) (i : ℕ) (xs ys : List A) → sets l i (xs ++ ys) ≡ sets (sets l i xs) (i + length xs) ys
sets-append l i [] ys = rw add-zero
sets-append l i (x ∷ xs) ys = sets-append (set l i x) (suc i) xs ys ∙ rw (add-suc, suc-add)

module _ {A : Type 0} where
  -- one more at the end
  pub list_snoc : (f : ℕ → A) (k c : ℕ) → list f k (suc c) ≡ list f k c ++ (f (k + c) ∷ [])
  list_snoc f k zero = simp add-zero
  list_snoc f k (suc c) = ap (λ (x : List A). f k ∷ x) (list_snoc f (suc k) c ∙ simp (suc-add, add-suc))

  pub over_snoc : (f : ℕ → List A) (k c : ℕ) → over f k (suc c) ≡ over f k c ++ f (k + c)
  over_snoc f k zero = simp (add-zero, append-nil)
  over_snoc f k (suc c) = ap (λ (x : List A). f k ++ x) (over_snoc f (suc k) c) ∙ simp (append_assoc, suc-add, add-suc)

-- a loop that stores one a turn, from a place on
module _ {A : Type 0} (l : List A) (at : ℕ) (f : ℕ → A) (i : ℕ) where
  pub stored_more : {l' l'' : List A} {x : A} → l' ≡ sets l at (list f 0 i) → l'' ≡ set l' (at + i) x → x ≡ f i → l'' ≡ sets l at (list f 0 (i + 1))
  stored_more p q e = rw (add-one, list_snoc f 0 i, zero-add, sets-append l at (list f 0 i) (f i ∷ []), length_list f 0 i, ← p, ← e) q

  pub stored_all : {l' : List A} {m : ℕ} → l' ≡ sets l at (list f 0 i) → i ≤ m → m ≤ i → l' ≡ sets l at (list f 0 m)
  stored_all {m} p h g = let e : m ≡ i = omega arith in rw e p

-- ---- flags

pub and_assoc : (a b c : Bool) → (a && b && c) ≡ (a && (b && c))
and_assoc true b c = refl
and_assoc false b c = refl

pub all_append : (xs ys : List Float) → all_finite (xs ++ ys) ≡ (all_finite xs && all_finite ys)
all_append [] ys = refl
all_append (x ∷ xs) ys = ap (λ b. finite x && b) (all_append xs ys) ∙ sym (and_assoc (finite x) (all_finite xs) (all_finite ys))

-- what follows from false
abbrev When : Type 0 → Bool → Type 0
When A true = A
When A false = Unit {0}

pub never : {A : Type 0} → false ≡ true → A
never {A} e = subst (When A) e tt

-- ---- one chunk after another

lay {ℓ ℓ'} : {A : Type ℓ} {B : Type ℓ'} (f : A → B) (l : List B) (i : ℕ) (xs ys : List A)
    → sets (sets l i (map f xs)) (i + length xs) (map f ys) ≡ sets l i (map f (xs ++ ys))
lay f l i xs ys = rw (map-append, sets-append, length-map)

further {ℓ} : {A : Type ℓ} (k : ℕ) (xs ys : List A) → k + length xs + length ys ≡ k + length (xs ++ ys)
further k xs ys = add_assoc k (length xs) (length ys) ∙ ap (λ j. k + j) (sym (length-append xs ys))

pub emit_emit : (a b : Chunk) (s : State) → emit b (emit a s) ≡ emit (join a b) s
unfolding emit
emit_emit a b s =
    λ i. record {
      rows = lay (λ e. e.row) s.rows s.tally.entries a.entries b.entries i;
      columns = lay (λ e. e.column) s.columns s.tally.entries a.entries b.entries i;
      values = lay (λ e. e.value) s.values s.tally.entries a.entries b.entries i;
      right = sym (sets-append s.right s.tally.rows.at a.right b.right) i;
      kinds = lay (λ c. c.kind) s.kinds s.tally.cones a.cones b.cones i;
      dimensions = lay dimension s.dimensions s.tally.cones a.cones b.cones i;
      cost = sym (sets-append s.cost s.tally.columns.at a.cost b.cost) i;
      tally = tally_of (further s.tally.entries a.entries b.entries i) (further s.tally.rows.at a.right b.right i) (further s.tally.cones a.cones b.cones i) (further s.tally.columns.at a.cost b.cost i) s.tally.owner;
    }

pub emit_none : (s : State) → emit none s ≡ s
unfolding emit
emit_none s =
    λ i. record {
      rows = s.rows;
      columns = s.columns;
      values = s.values;
      right = s.right;
      kinds = s.kinds;
      dimensions = s.dimensions;
      cost = s.cost;
      tally = tally_of (add-zero s.tally.entries i) (add-zero s.tally.rows.at i) (add-zero s.tally.cones i) (add-zero s.tally.columns.at i) s.tally.owner;
    }

join_bands : (r : ℕ) (xs ys : List Band) → join (of_bands r xs) (of_bands (r + length (right_sides xs)) ys) ≡ of_bands r (xs ++ ys)
join_bands r xs ys = λ i. chunk (sym (entries_append r xs ys) i) (sym (right_append xs ys) i) [] []

join_cones : (r : ℕ) (xs ys : List Cone) → join (of_cones r xs) (of_cones (r + length (right_sides (bands_of xs))) ys) ≡ of_cones r (xs ++ ys)
join_cones r xs ys =
    λ i. chunk
    ((sym (entries_append r (bands_of xs) (bands_of ys)) ∙ ap (entries_from r) (sym (joined-append (λ c. c.bands) xs ys))) i)
    ((sym (right_append (bands_of xs) (bands_of ys)) ∙ ap right_sides (sym (joined-append (λ c. c.bands) xs ys))) i) (xs ++ ys) []

-- ---- the buffers stay the same ones

pub same_refl : (b : Buffers) → SameBuffers b b
same_refl b = record { rows = refl; columns = refl; values = refl; right = refl; kinds = refl; dimensions = refl; cost = refl; index = refl }

pub same_then : {b c d : Buffers} → SameBuffers b c → SameBuffers c d → SameBuffers b d
same_then p q =
    record {
      rows = q.rows ∙ p.rows;
      columns = q.columns ∙ p.columns;
      values = q.values ∙ p.values;
      right = q.right ∙ p.right;
      kinds = q.kinds ∙ p.kinds;
      dimensions = q.dimensions ∙ p.dimensions;
      cost = q.cost ∙ p.cost;
      index = q.index ∙ p.index;
    }

-- ---- the leaves

-- a chunk is laid over the buffers where each holds what it held, with the chunk's part from the tally's place on
lays_of : {b b' : Buffers} {t t' : Tally} (a : Chunk)
    → SameBuffers b b'
    → b'.rows.now ≡ sets b.rows.now t.entries (map (λ e. e.row) a.entries)
    → b'.columns.now ≡ sets b.columns.now t.entries (map (λ e. e.column) a.entries)
    → b'.values.now ≡ sets b.values.now t.entries (map (λ e. e.value) a.entries)
    → b'.right.now ≡ sets b.right.now t.rows.at a.right
    → b'.kinds.now ≡ sets b.kinds.now t.cones (map (λ c. c.kind) a.cones)
    → b'.dimensions.now ≡ sets b.dimensions.now t.cones (map dimension a.cones)
    → b'.cost.now ≡ sets b.cost.now t.columns.at a.cost
    → b'.index.now ≡ b.index.now → t' ≡ moved a t → Lays t b t' b' a
unfolding emit
lays_of a same pr pc pv ph pk pd pq px e = record { same = same; index = px; says = λ i. state (pr i) (pc i) (pv i) (ph i) (pk i) (pd i) (pq i) (e i) }

pub one_entry : {b b' : Buffers} {t : Tally} {r c : ℕ} {v : Float}
    → SameBuffers b b' → b'.rows.now ≡ set b.rows.now t.entries r → b'.columns.now ≡ set b.columns.now t.entries c → b'.values.now ≡ set b.values.now t.entries v
    → b'.right.now ≡ b.right.now → b'.kinds.now ≡ b.kinds.now → b'.dimensions.now ≡ b.dimensions.now → b'.cost.now ≡ b.cost.now → b'.index.now ≡ b.index.now
    → Puts t b (record { entries = t.entries + 1; rows = t.rows; cones = t.cones; columns = t.columns; owner = t.owner }) b' (entry r (cell c v))
one_entry {t} {r} {c} {v} same pr pc pv ph pk pd pq px =
    record { lays = lays_of (chunk (entry r (cell c v) ∷ []) [] [] []) same pr pc pv ph pk pd pq px (λ i. tally_of (t.entries + 1) (sym (add-zero t.rows.at) i) (sym (add-zero t.cones) i) (sym (add-zero t.columns.at) i) t.owner); entries = refl; rows = refl; cones = refl; columns = refl }

-- right sides, and costs: so many stored from the tally's place on
pub right_filled : {b b' : Buffers} {t : Tally} {f : ℕ → Float} {m : ℕ}
    → SameBuffers b b' → b'.rows.now ≡ b.rows.now → b'.columns.now ≡ b.columns.now → b'.values.now ≡ b.values.now
    → b'.right.now ≡ sets b.right.now t.rows.at (list f 0 m) → b'.kinds.now ≡ b.kinds.now → b'.dimensions.now ≡ b.dimensions.now → b'.cost.now ≡ b.cost.now → b'.index.now ≡ b.index.now
    → FillsRight t b (record { entries = t.entries; rows = record { at = t.rows.at + m }; cones = t.cones; columns = t.columns; owner = t.owner }) b' f m
right_filled {t} {f} {m} same pr pc pv ph pk pd pq px =
    record { lays = lays_of (chunk [] (list f 0 m) [] []) same pr pc pv ph pk pd pq px (λ i. tally_of (sym (add-zero t.entries) i) (t.rows.at + sym (length_list f 0 m) i) (sym (add-zero t.cones) i) (sym (add-zero t.columns.at) i) t.owner); entries = refl; rows = refl; cones = refl; columns = refl }

pub cost_filled : {b b' : Buffers} {t : Tally} {f : ℕ → Float} {m : ℕ}
    → SameBuffers b b' → b'.rows.now ≡ b.rows.now → b'.columns.now ≡ b.columns.now → b'.values.now ≡ b.values.now
    → b'.right.now ≡ b.right.now → b'.kinds.now ≡ b.kinds.now → b'.dimensions.now ≡ b.dimensions.now → b'.cost.now ≡ sets b.cost.now t.columns.at (list f 0 m) → b'.index.now ≡ b.index.now
    → FillsCost t b (record { entries = t.entries; rows = t.rows; cones = t.cones; columns = record { at = t.columns.at + m }; owner = t.owner }) b' f 0 m
cost_filled {t} {f} {m} same pr pc pv ph pk pd pq px =
    record { costs = record { lays = lays_of (chunk [] [] [] (list f 0 m)) same pr pc pv ph pk pd pq px (λ i. tally_of (sym (add-zero t.entries) i) (sym (add-zero t.rows.at) i) (sym (add-zero t.cones) i) (t.columns.at + sym (length_list f 0 m) i) t.owner) }; entries = refl; rows = refl; cones = refl; columns = refl }

-- and one
pub one_right : {b b' : Buffers} {t : Tally} {v : Float}
    → SameBuffers b b' → b'.rows.now ≡ b.rows.now → b'.columns.now ≡ b.columns.now → b'.values.now ≡ b.values.now
    → b'.right.now ≡ set b.right.now t.rows.at v → b'.kinds.now ≡ b.kinds.now → b'.dimensions.now ≡ b.dimensions.now → b'.cost.now ≡ b.cost.now → b'.index.now ≡ b.index.now
    → PutsRight t b (record { entries = t.entries; rows = record { at = t.rows.at + 1 }; cones = t.cones; columns = t.columns; owner = t.owner }) b' v
one_right {v} same pr pc pv ph pk pd pq px =
    let p = right_filled {f = λ i. v} {m = 1} same pr pc pv ph pk pd pq px in
    record { lays = p.lays; entries = p.entries; rows = p.rows; cones = p.cones; columns = p.columns }

pub one_cost : {b b' : Buffers} {t : Tally} {v : Float}
    → SameBuffers b b' → b'.rows.now ≡ b.rows.now → b'.columns.now ≡ b.columns.now → b'.values.now ≡ b.values.now
    → b'.right.now ≡ b.right.now → b'.kinds.now ≡ b.kinds.now → b'.dimensions.now ≡ b.dimensions.now → b'.cost.now ≡ set b.cost.now t.columns.at v → b'.index.now ≡ b.index.now
    → PutsCost t b (record { entries = t.entries; rows = t.rows; cones = t.cones; columns = record { at = t.columns.at + 1 }; owner = t.owner }) b' v
one_cost {v} same pr pc pv ph pk pd pq px =
    let p = cost_filled {f = λ i. v} {m = 1} same pr pc pv ph pk pd pq px in
    record { costs = p.costs; entries = p.entries; rows = p.rows; cones = p.cones; columns = p.columns }

-- ---- chunks after chunks

module _ {t : Tally} {b : Buffers} where
  pub lays_none : Lays t b t b none
  lays_none = record { same = same_refl b; index = refl; says = sym (emit_none (state_of t b)) }

  module _ {t' : Tally} {b' : Buffers} {a : Chunk} (p : Lays t b t' b' a) where
    pub lays_then : {t'' : Tally} {b'' : Buffers} {c : Chunk} → Lays t' b' t'' b'' c → Lays t b t'' b'' (join a c)
    lays_then {c} q =
        record {
          same = same_then p.same q.same;
          index = q.index ∙ p.index;
          says = q.says ∙ ap (emit c) p.says ∙ emit_emit a c (state_of t b);
        }

    pub lays_as : {c : Chunk} → a ≡ c → Lays t b t' b' c
    lays_as e = subst (λ (c : Chunk). Lays t b t' b' c) e p

-- ---- a loop that adds one a turn. Its invariant before turn i is `(i ≤ m) × Fills .. i`

module _ {t : Tally} {b : Buffers} {n : ℕ} {f : ℕ → Cell} where
  pub fills_none : Fills t b t b n f 0
  fills_none = record { lays = lays_none; entries = sym (add-zero t.entries); rows = refl; cones = refl; columns = refl }

  module _ {t' : Tally} {b' : Buffers} {i : ℕ} (p : Fills t b t' b' n f i) where
    pub fills_more : {t'' : Tally} {b'' : Buffers} {x : Cell} → Puts t' b' t'' b'' (entry (n + i) x) → x ≡ f i → Fills t b t'' b'' n f (i + 1)
    fills_more a e =
        record {
          lays = rw (add-one, list_snoc, zero-add, ← e) (lays_then p.lays a.lays);
          entries = omega arith;
          rows = a.rows ∙ p.rows;
          cones = a.cones ∙ p.cones;
          columns = a.columns ∙ p.columns;
        }

    -- the same cells, otherwise written
    pub fills_as : {g : ℕ → Cell} → ((j : ℕ) → f j ≡ g j) → Fills t b t' b' n g i
    fills_as e = subst (λ (g : ℕ → Cell). Fills t b t' b' n g i) (λ x j. e j x) p

    pub fills_all : {m : ℕ} → i ≤ m → m ≤ i → Fills t b t' b' n f m
    fills_all {m} h g = let e : m ≡ i = omega arith in rw e p

module _ {t : Tally} {b : Buffers} {f : ℕ → Float} where
  pub right_none : FillsRight t b t b f 0
  right_none = record { lays = lays_none; entries = refl; rows = sym (add-zero t.rows.at); cones = refl; columns = refl }

  module _ {t' : Tally} {b' : Buffers} {i : ℕ} (p : FillsRight t b t' b' f i) where
    pub right_more : {t'' : Tally} {b'' : Buffers} {v : Float} → PutsRight t' b' t'' b'' v → v ≡ f i → FillsRight t b t'' b'' f (i + 1)
    right_more a e =
        record {
          lays = rw (add-one, list_snoc, zero-add, ← e) (lays_then p.lays a.lays);
          entries = a.entries ∙ p.entries;
          rows = omega arith;
          cones = a.cones ∙ p.cones;
          columns = a.columns ∙ p.columns;
        }

    pub right_all : {m : ℕ} → i ≤ m → m ≤ i → FillsRight t b t' b' f m
    right_all {m} h g = let e : m ≡ i = omega arith in rw e p

module _ {t : Tally} {b : Buffers} where
  pub costs_none : Costs t b t b []
  costs_none = record { lays = lays_none }

  pub costs_then : {t' : Tally} {b' : Buffers} {xs : List Float} {t'' : Tally} {b'' : Buffers} {ys : List Float} → Costs t b t' b' xs → Costs t' b' t'' b'' ys → Costs t b t'' b'' (xs ++ ys)
  costs_then p q = record { lays = lays_then p.lays q.lays }

module _ {t : Tally} {b : Buffers} {f : ℕ → Float} {k : ℕ} where
  pub cost_none : FillsCost t b t b f k 0
  cost_none = record { costs = costs_none; entries = refl; rows = refl; cones = refl; columns = sym (add-zero t.columns.at) }

  module _ {t' : Tally} {b' : Buffers} {i : ℕ} (p : FillsCost t b t' b' f k i) where
    pub cost_more : {t'' : Tally} {b'' : Buffers} {v : Float} → PutsCost t' b' t'' b'' v → v ≡ f (k + i) → FillsCost t b t'' b'' f k (i + 1)
    cost_more a e =
        record {
          costs = rw (add-one, list_snoc, ← e) (costs_then p.costs a.costs);
          entries = a.entries ∙ p.entries;
          rows = a.rows ∙ p.rows;
          cones = a.cones ∙ p.cones;
          columns = omega arith;
        }

    pub cost_as : {g : ℕ → Float} → ((j : ℕ) → f j ≡ g j) → FillsCost t b t' b' g k i
    cost_as e = subst (λ (g : ℕ → Float). FillsCost t b t' b' g k i) (λ x j. e j x) p

    pub cost_all : {m : ℕ} → i ≤ m → m ≤ i → FillsCost t b t' b' f k m
    cost_all {m} h g = let e : m ≡ i = omega arith in rw e p

pub list_same : {A : Type 0} (x : A) (k c : ℕ) → list (λ i. x) k c ≡ replicate c x
list_same x k zero = refl
list_same x k (suc c) = ap (λ (l : List _). x ∷ l) (list_same x (suc k) c)

-- ---- a band, column by column

module _ {t : Tally} {b : Buffers} {n m : ℕ} where
  pub columns_none : Columns t b t b n [] m
  columns_none = record { lays = lays_none; entries = rw (zero-mul m) (sym (add-zero t.entries)); rows = refl; cones = refl; columns = refl }

  pub columns_cons : {t' : Tally} {b' : Buffers} {f : ℕ → Cell} {t'' : Tally} {b'' : Buffers} {fs : List (ℕ → Cell)}
      → Fills t b t' b' n f m → Columns t' b' t'' b'' n fs m → Columns t b t'' b'' n (f ∷ fs) m
  columns_cons {fs} p q =
      record {
        lays = lays_then p.lays q.lays;
        entries = omega (arith, suc-mul (length fs) m);
        rows = q.rows ∙ p.rows;
        cones = q.cones ∙ p.cones;
        columns = q.columns ∙ p.columns;
      }

  pub columns_then : {t' : Tally} {b' : Buffers} {fs : List (ℕ → Cell)} {t'' : Tally} {b'' : Buffers} {gs : List (ℕ → Cell)}
      → Columns t b t' b' n fs m → Columns t' b' t'' b'' n gs m → Columns t b t'' b'' n (fs ++ gs) m
  columns_then {fs} {gs} p q =
      record {
        lays = rw (joined-append (λ (f : ℕ → Cell). list (λ i. entry (n + i) (f i)) 0 m) fs gs) (lays_then p.lays q.lays);
        entries = let e = length-append fs gs in let d = add-mul (length fs) (length gs) m in rw (e, d) (omega arith);
        rows = q.rows ∙ p.rows;
        cones = q.cones ∙ p.cones;
        columns = q.columns ∙ p.columns;
      }

pub put_fills : {t : Tally} {b : Buffers} {n : ℕ} {t' : Tally} {b' : Buffers} {x : Cell} → Puts t b t' b' (entry n x) → Fills t b t' b' n (λ i. x) 1
put_fills {n} {x} a = record { lays = rw (add-zero n) a.lays; entries = a.entries; rows = a.rows; cones = a.cones; columns = a.columns }

-- one cell more in a row
cells_more : (ps : List Term) (p : Term) → constant_cells (ps ++ (p ∷ [])) ≡ constant_cells ps ++ ((λ j. cell p.col.at p.v) ∷ [])
cells_more [] p = refl
cells_more (q ∷ ps) p = ap (λ (l : List _). (λ (j : ℕ). cell q.col.at q.v) ∷ l) (cells_more ps p)

pub columns_snoc : {t : Tally} {b : Buffers} {n : ℕ} {t' : Tally} {b' : Buffers} (ps : List Term) (i : ℕ) {p : Term} {t'' : Tally} {b'' : Buffers}
    → Columns t b t' b' n (constant_cells (take i ps)) 1 → Puts t' b' t'' b'' (entry n (cell p.col.at p.v)) → take (i + 1) ps ≡ take i ps ++ (p ∷ [])
    → Columns t b t'' b'' n (constant_cells (take (i + 1) ps)) 1
columns_snoc ps i {p} a x e = rw (e, cells_more (take i ps) p) (columns_then a (columns_cons (put_fills x) columns_none))

pub put_right_fills : {t t' : Tally} {b b' : Buffers} {x : Float} → PutsRight t b t' b' x → FillsRight t b t' b' (λ i. x) 1
put_right_fills a = record { lays = a.lays; entries = a.entries; rows = a.rows; cones = a.cones; columns = a.columns }

module _ {t : Tally} {b : Buffers} where
  pub band_wrote : {t' : Tally} {b' : Buffers} {fs : List (ℕ → Cell)} {m : ℕ} {t'' : Tally} {b'' : Buffers} {x : ℕ → Float}
      → Columns t b t' b' t.rows.at fs m → FillsRight t' b' t'' b'' x m → length fs * m ≤ 5 * m → Wrote t b t'' b'' (band m x fs ∷ []) m
  band_wrote {fs} {m} {x} p q h =
      let es : List Entry = joined (λ f. list (λ i. entry (t.rows.at + i) (f i)) 0 m) fs in
      record {
        lays = lays_as (lays_then p.lays q.lays) (ap (λ (l : List Float). chunk (es ++ []) l [] []) (sym (append-nil (list x 0 m))));
        moves = record { entries = omega arith; rows = omega arith; forth = omega arith; cones = q.cones ∙ p.cones; columns = q.columns ∙ p.columns };
      }

  -- a row, of the puts of its cells
  pub row_wrote : {t' : Tally} {b' : Buffers} {fs : List (ℕ → Cell)} {t'' : Tally} {b'' : Buffers} {x : Float}
      → Columns t b t' b' t.rows.at fs 1 → PutsRight t' b' t'' b'' x → length fs ≤ 5 → Wrote t b t'' b'' (band 1 (λ i. x) fs ∷ []) 1
  row_wrote {fs} p q h = band_wrote p (put_right_fills q) (omega (arith, mul-one (length fs)))

  -- ---- bands after bands

  pub wrote_none : Wrote t b t b [] 0
  wrote_none = record { lays = lays_none; moves = record { entries = omega arith; rows = omega arith; forth = le_refl t.rows.at; cones = refl; columns = refl } }

  module _ {t' : Tally} {b' : Buffers} {xs : List Band} {n : ℕ} (p : Wrote t b t' b' xs n) where
    pub wrote_count : t'.rows.at ≡ t.rows.at + length (right_sides xs)
    unfolding emit
    wrote_count = ap (λ s. s.tally.rows.at) p.lays.says

    pub wrote_then : {t'' : Tally} {b'' : Buffers} {ys : List Band} {c : ℕ} → Wrote t' b' t'' b'' ys c → Wrote t b t'' b'' (xs ++ ys) (n + c)
    wrote_then {ys} g =
        record {
          lays = lays_as (lays_then p.lays g.lays) (ap (λ (r : ℕ). join (of_bands t.rows.at xs) (of_bands r ys)) wrote_count ∙ join_bands t.rows.at xs ys);
          moves = let m = p.moves in let l = g.moves in
              record { entries = omega arith; rows = omega arith; forth = omega arith; cones = l.cones ∙ m.cones; columns = l.columns ∙ m.columns };
        }

    pub wrote_as : {ys : List Band} → xs ≡ ys → Wrote t b t' b' ys n
    wrote_as e = subst (λ (ys : List Band). Wrote t b t' b' ys n) e p

    pub wrote_most : {c : ℕ} → n ≤ c → Wrote t b t' b' xs c
    wrote_most h = let m = p.moves in record { lays = p.lays; moves = record { entries = omega arith; rows = omega arith; forth = m.forth; cones = m.cones; columns = m.columns } }

  -- where nothing is written
  pub wrote_skip : {n : ℕ} → Wrote t b t b [] n
  wrote_skip = wrote_most wrote_none (omega arith)

  -- ---- loops over bands

  module _ {f : ℕ → List Band} {k n : ℕ} where
    pub overs_none : Overs t b t b f k 0 n
    overs_none = record { wrote = wrote_skip }

    module _ {t' : Tally} {b' : Buffers} {i : ℕ} (p : Overs t b t' b' f k i n) where
      pub overs_more : {t'' : Tally} {b'' : Buffers} → Wrote t' b' t'' b'' (f (k + i)) n → Overs t b t'' b'' f k (i + 1) n
      overs_more g = record { wrote = rw (add-one, over_snoc, mul-suc) (wrote_most (wrote_then p.wrote g) (omega arith)) }

      pub overs_all : {m c : ℕ} → i ≤ m → m ≤ i → n * m ≤ c → Wrote t b t' b' (over f k m) c
      overs_all {m} h g x = let e : i ≡ m = omega arith in wrote_most (subst (λ (j : ℕ). Wrote t b t' b' (over f k j) (n * j)) e p.wrote) x

  module _ {f : ℕ → Band} {k n : ℕ} where
    pub lists_none : Lists t b t b f k 0 n
    lists_none = record { wrote = wrote_skip }

    module _ {t' : Tally} {b' : Buffers} {i : ℕ} (p : Lists t b t' b' f k i n) where
      pub lists_more : {t'' : Tally} {b'' : Buffers} → Wrote t' b' t'' b'' (f (k + i) ∷ []) n → Lists t b t'' b'' f k (i + 1) n
      lists_more g = record { wrote = rw (add-one, list_snoc, mul-suc) (wrote_most (wrote_then p.wrote g) (omega arith)) }

      pub lists_all : {m c : ℕ} → i ≤ m → m ≤ i → n * m ≤ c → Wrote t b t' b' (list f k m) c
      lists_all {m} h g x = let e : i ≡ m = omega arith in wrote_most (subst (λ (j : ℕ). Wrote t b t' b' (list f k j) (n * j)) e p.wrote) x

-- a loop from 0 on
pub overs_next : {t : Tally} {b : Buffers} {f : ℕ → List Band} {n : ℕ} {t' : Tally} {b' : Buffers} {i : ℕ} {t'' : Tally} {b'' : Buffers}
    → Overs t b t' b' f 0 i n → Wrote t' b' t'' b'' (f i) n → Overs t b t'' b'' f 0 (i + 1) n
overs_next {f} {i} p g = overs_more p (wrote_as g (ap f (sym (zero-add i))))

-- ---- cones

module _ {t : Tally} {b : Buffers} where
  pub closes : {t' : Tally} {b' : Buffers} {bs : List Band} {n : ℕ} {t'' : Tally} {b'' : Buffers} {kind dim : ℕ}
      → Wrote t b t' b' bs n → PutsCone t' b' t'' b'' kind dim → t.rows.at + dim ≡ t'.rows.at → 1 ≤ n → Closed t b t'' b'' (cone kind bs ∷ []) n
  unfolding emit
  closes {t'} {b'} {bs} {n} {t''} {b''} {kind} {dim} p g e h =
      let z : dim ≡ heights bs = omega (arith, wrote_count p, right_heights bs) in
      let last : Lays t' b' t'' b'' (chunk [] [] (cone kind bs ∷ []) []) =
      record {
        same = g.same;
        index = g.index;
        says = g.says ∙ λ i. record {
          rows = b'.rows.now;
          columns = b'.columns.now;
          values = b'.values.now;
          right = b'.right.now;
          kinds = sets b'.kinds.now t'.cones (kind ∷ []);
          dimensions = set b'.dimensions.now t'.cones (z i);
          cost = b'.cost.now;
          tally = tally_of (sym (add-zero t'.entries) i) (sym (add-zero t'.rows.at) i) (t'.cones + 1) (sym (add-zero t'.columns.at) i) t'.owner;
        };
      } in
      let m = p.moves in
      record {
        lays = lays_as (lays_then p.lays last)
            (λ i. chunk ((append-nil (entries_from t.rows.at bs) ∙ ap (entries_from t.rows.at) (sym (append-nil bs))) i)
            ((append-nil (right_sides bs) ∙ ap right_sides (sym (append-nil bs))) i) (cone kind bs ∷ []) []);
        steps = record { entries = omega arith; rows = omega arith; cones = omega arith; columns = g.columns ∙ m.columns };
      }

  pub closed_none : Closed t b t b [] 0
  closed_none = record { lays = lays_none; steps = record { entries = omega arith; rows = omega arith; cones = omega arith; columns = refl } }

  module _ {t' : Tally} {b' : Buffers} {xs : List Cone} {n : ℕ} (p : Closed t b t' b' xs n) where
    pub closed_count : t'.rows.at ≡ t.rows.at + length (right_sides (bands_of xs))
    unfolding emit
    closed_count = ap (λ s. s.tally.rows.at) p.lays.says

    pub closed_then : {t'' : Tally} {b'' : Buffers} {ys : List Cone} {c : ℕ} → Closed t' b' t'' b'' ys c → Closed t b t'' b'' (xs ++ ys) (n + c)
    closed_then {ys} g =
        record {
          lays = lays_as (lays_then p.lays g.lays) (ap (λ (r : ℕ). join (of_cones t.rows.at xs) (of_cones r ys)) closed_count ∙ join_cones t.rows.at xs ys);
          steps = let m = p.steps in let l = g.steps in record { entries = omega arith; rows = omega arith; cones = omega arith; columns = l.columns ∙ m.columns };
        }

    pub closed_most : {c : ℕ} → n ≤ c → Closed t b t' b' xs c
    closed_most h = let m = p.steps in record { lays = p.lays; steps = record { entries = omega arith; rows = omega arith; cones = omega arith; columns = m.columns } }

  pub closed_skip : {n : ℕ} → Closed t b t b [] n
  closed_skip = closed_most closed_none (omega arith)

  module _ {f : ℕ → Cone} {j n : ℕ} where
    pub turns_none : ClosedList t b t b f j 0 n
    turns_none = record { closed = closed_skip }

    module _ {t' : Tally} {b' : Buffers} {i : ℕ} (p : ClosedList t b t' b' f j i n) where
      pub turns_more : {t'' : Tally} {b'' : Buffers} → Closed t' b' t'' b'' (f (j + i) ∷ []) n → ClosedList t b t'' b'' f j (i + 1) n
      turns_more g = record { closed = rw (add-one, list_snoc, mul-suc) (closed_most (closed_then p.closed g) (omega arith)) }

      pub turns_all : {m c : ℕ} → i ≤ m → m ≤ i → n * m ≤ c → Closed t b t' b' (list f j m) c
      turns_all {m} h g x = let e : i ≡ m = omega arith in closed_most (subst (λ (u : ℕ). Closed t b t' b' (list f j u) (n * u)) e p.closed) x

  -- a block: its cones, then the cost of its columns
  pub builds : {t' : Tally} {b' : Buffers} {cs : List Cone} {n : ℕ} {t'' : Tally} {b'' : Buffers} {xs : List Float} {ys : List Cell} {m c : ℕ}
      → Closed t b t' b' cs n → Costs t' b' t'' b'' xs → t''.columns.at ≡ t'.columns.at + m → n ≤ c → m ≤ c
      → Builds t b t'' b'' (record { cones = cs; cost = xs; charges = ys }) c
  unfolding emit
  builds {t'} {b'} {cs} {t''} {xs} p g e h l =
      let n = p.steps in
      let a : t''.entries ≡ t'.entries = ap (λ s. s.tally.entries) g.lays.says ∙ add-zero t'.entries in
      let z : t''.rows.at ≡ t'.rows.at = ap (λ s. s.tally.rows.at) g.lays.says ∙ add-zero t'.rows.at in
      let y : t''.cones ≡ t'.cones = ap (λ s. s.tally.cones) g.lays.says ∙ add-zero t'.cones in
      let all = lays_then p.lays g.lays in
      record {
        same = all.same;
        index = all.index;
        built = record {
          says = all.says
              ∙ (λ i. emit (chunk (append-nil (entries_from t.rows.at (bands_of cs)) i) (append-nil (right_sides (bands_of cs)) i) (append-nil cs i) xs) (state_of t b));
          entries = omega arith;
          rows = omega arith;
          cones = omega arith;
          columns = omega arith;
        };
      }

pub ruleset stage = (fills_none, fills_more, fills_all, right_none, right_more, right_all, cost_none, cost_more, cost_all, rules)

pub ruleset turns = (overs_none, lists_none, rules)
