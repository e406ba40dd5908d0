-- Loops from 0 on, lists that start further on, costs and blocks.
use mathlib.Core.Path.{◌≡◌, refl, sym, ap, subst, ◌∙◌}
use mathlib.Core.List.{List, [], ◌∷◌, map}
use lib.ListN.{length}
use lib.Seq.{length-sets}
use Prim.Native.Nat.{ℕ, zero, suc, ◌+◌}
use native.Mathlib.Omega.{arith}
use native.Mathlib.Nat.{add-zero, zero-add, add-suc}
use lib.Ieee.{Float}
use Rattle.model.specs.Lists.{list}
use Rattle.model.specs.Program.{Cone, Block, Cell, nothing, dimension}
use Rattle.model.specs.declared.Tally.{Tally}
use Rattle.model.specs.declared.Buffers.{Buffers}
use Rattle.buffers.specs.Buffers.{emit, chunk, Closed, ClosedList, Chunk, Lays, State, state_of, Built, Builds, Costs, FillsCost, PutsCost}
use Rattle.buffers.proofs.Laws.{turns_more, cost_more, emit_none, lays_as, same_refl}

pub turns_next : {t : Tally} {b : Buffers} {f : ℕ → Cone} {n : ℕ} {t' : Tally} {b' : Buffers} {i : ℕ} {t'' : Tally} {b'' : Buffers}
    → ClosedList t b t' b' f 0 i n → Closed t' b' t'' b'' (f i ∷ []) n → ClosedList t b t'' b'' f 0 (i + 1) n
turns_next {f} {n} {t'} {b'} {i} {t''} {b''} p g = turns_more p (subst (λ (u : ℕ). Closed t' b' t'' b'' (f u ∷ []) n) (sym (zero-add i)) g)

pub cost_next : {t : Tally} {b : Buffers} {f : ℕ → Float} {t' : Tally} {b' : Buffers} {i : ℕ} {t'' : Tally} {b'' : Buffers} {v : Float}
    → FillsCost t b t' b' f 0 i → PutsCost t' b' t'' b'' v → v ≡ f i → FillsCost t b t'' b'' f 0 (i + 1)
cost_next {f} {i} {v} p g e = cost_more p g (e ∙ ap f (sym (zero-add i)))

from_go : {A : Type 0} (f : ℕ → A) (k j c : ℕ) → list f (k + j) c ≡ list (λ i. f (k + i)) j c
from_go f k j zero = refl
from_go f k j (suc c) = ap (λ (l : List _). f (k + j) ∷ l) (subst (λ (z : ℕ). list f z c ≡ list (λ i. f (k + i)) (suc j) c) (add-suc k j) (from_go f k (suc j) c))

pub list_from : {A : Type 0} (f : ℕ → A) (k c : ℕ) → list f k c ≡ list (λ i. f (k + i)) 0 c
list_from f k c = ap (λ (z : ℕ). list f z c) (sym (add-zero k)) ∙ from_go f k 0 c

-- costs, otherwise written
pub costs_as : {t t' : Tally} {b b' : Buffers} {xs ys : List Float} → Costs t b t' b' xs → xs ≡ ys → Costs t b t' b' ys
costs_as p e = record { lays = lays_as p.lays (ap (λ (l : List Float). chunk [] [] [] l) e) }

-- a block that is left out
pub built_skip : {s : State} {b : ℕ} → Built s s nothing b
built_skip {s} = record { says = sym (emit_none s); entries = omega arith; rows = omega arith; cones = omega arith; columns = omega arith }

-- a block's cost, otherwise written
pub built_cost : {s s' : State} {cs : List Cone} {xs zs : List Float} {ys : List Cell} {b : ℕ}
    → Built s s' (record { cones = cs; cost = xs; charges = ys }) b → xs ≡ zs → Built s s' (record { cones = cs; cost = zs; charges = ys }) b
built_cost {s} {s'} {cs} {ys} {b} p e = subst (λ (l : List Float). Built s s' (record { cones = cs; cost = l; charges = ys }) b) e p

-- whatever is laid over the buffers, they keep their lengths
module _ (a : Chunk) (s : State) where
  emit_rows : length (emit a s).rows ≡ length s.rows
  unfolding emit
  emit_rows = length-sets s.rows s.tally.entries (map (λ e. e.row) a.entries)

  emit_columns : length (emit a s).columns ≡ length s.columns
  unfolding emit
  emit_columns = length-sets s.columns s.tally.entries (map (λ e. e.column) a.entries)

  emit_values : length (emit a s).values ≡ length s.values
  unfolding emit
  emit_values = length-sets s.values s.tally.entries (map (λ e. e.value) a.entries)

  emit_right : length (emit a s).right ≡ length s.right
  unfolding emit
  emit_right = length-sets s.right s.tally.rows.at a.right

  emit_kinds : length (emit a s).kinds ≡ length s.kinds
  unfolding emit
  emit_kinds = length-sets s.kinds s.tally.cones (map (λ c. c.kind) a.cones)

  emit_dimensions : length (emit a s).dimensions ≡ length s.dimensions
  unfolding emit
  emit_dimensions = length-sets s.dimensions s.tally.cones (map dimension a.cones)

  emit_costs : length (emit a s).cost ≡ length s.cost
  unfolding emit
  emit_costs = length-sets s.cost s.tally.columns.at a.cost

module _ {s s' : State} {x : Block} {b : ℕ} (p : Built s s' x b) where
  pub built_rows : length s'.rows ≡ length s.rows
  built_rows = ap (λ (u : State). length u.rows) p.says ∙ emit_rows _ s

  pub built_columns : length s'.columns ≡ length s.columns
  built_columns = ap (λ (u : State). length u.columns) p.says ∙ emit_columns _ s

  pub built_values : length s'.values ≡ length s.values
  built_values = ap (λ (u : State). length u.values) p.says ∙ emit_values _ s

  pub built_right : length s'.right ≡ length s.right
  built_right = ap (λ (u : State). length u.right) p.says ∙ emit_right _ s

  pub built_kinds : length s'.kinds ≡ length s.kinds
  built_kinds = ap (λ (u : State). length u.kinds) p.says ∙ emit_kinds _ s

  pub built_dimensions : length s'.dimensions ≡ length s.dimensions
  built_dimensions = ap (λ (u : State). length u.dimensions) p.says ∙ emit_dimensions _ s

  pub built_costs : length s'.cost ≡ length s.cost
  built_costs = ap (λ (u : State). length u.cost) p.says ∙ emit_costs _ s

module _ {t t' : Tally} {b b' : Buffers} {a : Chunk} (p : Lays t b t' b' a) where
  pub lays_rows : length b'.rows.now ≡ length b.rows.now
  lays_rows = ap (λ (u : State). length u.rows) p.says ∙ emit_rows a (state_of t b)

  pub lays_columns : length b'.columns.now ≡ length b.columns.now
  lays_columns = ap (λ (u : State). length u.columns) p.says ∙ emit_columns a (state_of t b)

  pub lays_values : length b'.values.now ≡ length b.values.now
  lays_values = ap (λ (u : State). length u.values) p.says ∙ emit_values a (state_of t b)

  pub lays_right : length b'.right.now ≡ length b.right.now
  lays_right = ap (λ (u : State). length u.right) p.says ∙ emit_right a (state_of t b)

  pub lays_kinds : length b'.kinds.now ≡ length b.kinds.now
  lays_kinds = ap (λ (u : State). length u.kinds) p.says ∙ emit_kinds a (state_of t b)

  pub lays_dimensions : length b'.dimensions.now ≡ length b.dimensions.now
  lays_dimensions = ap (λ (u : State). length u.dimensions) p.says ∙ emit_dimensions a (state_of t b)

  pub lays_costs : length b'.cost.now ≡ length b.cost.now
  lays_costs = ap (λ (u : State). length u.cost) p.says ∙ emit_costs a (state_of t b)

-- the same of the buffers that were lent
pub builds_skip : {t : Tally} {b : Buffers} {n : ℕ} → Builds t b t b nothing n
builds_skip {t} {b} = record { same = same_refl b; index = refl; built = built_skip }

pub builds_cost : {t : Tally} {b : Buffers} {t' : Tally} {b' : Buffers} {cs : List Cone} {xs zs : List Float} {ys : List Cell} {n : ℕ}
    → Builds t b t' b' (record { cones = cs; cost = xs; charges = ys }) n → xs ≡ zs → Builds t b t' b' (record { cones = cs; cost = zs; charges = ys }) n
builds_cost p e = record { same = p.same; index = p.index; built = built_cost p.built e }
