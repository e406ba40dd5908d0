-- What the seven buffers hold, what a writer lays over them, and what writers say of it. What is written is told by crate model's bands, cones and blocks.
use Rattle.std.specs.Prelude.{◌≡◌, List, [], ◌∷◌, ◌++◌, map, ℕ, ◌+◌, ◌*◌, ◌≤◌, Float, length}
use Rattle.std.proofs.lemmas.List.Edits.{sets}
use Rattle.model.specs.Lists.{list, over, joined}
use Rattle.model.specs.Program.{Cell, Band, Cone, Block, Entry, entry, dimension, entries_from, right_sides}
use Rattle.model.specs.Lent.{SameBuffers}
use Rattle.model.specs.declared.Buffers.{Buffers}
use Rattle.model.specs.declared.Tally.{Tally}

-- what is laid over the buffers: entries, right sides, cones with their dimensions, the cost of new columns
pub record Chunk : Type 0 where
  pub entries : List Entry
  pub right : List Float
  pub cones : List Cone
  pub cost : List Float

abbrev pub chunk : List Entry → List Float → List Cone → List Float → Chunk
chunk es hs cs qs = record { entries = es; right = hs; cones = cs; cost = qs }

abbrev pub none : Chunk
none = chunk [] [] [] []

-- one chunk after another
abbrev pub join : Chunk → Chunk → Chunk
join a b = chunk (a.entries ++ b.entries) (a.right ++ b.right) (a.cones ++ b.cones) (a.cost ++ b.cost)

abbrev pub bands_of : List Cone → List Band
bands_of = joined (λ c. c.bands)

-- bands, cones and a block whose first row is r
abbrev pub of_bands : ℕ → List Band → Chunk
of_bands r bs = chunk (entries_from r bs) (right_sides bs) [] []

abbrev pub of_cones : ℕ → List Cone → Chunk
of_cones r cs = chunk (entries_from r (bands_of cs)) (right_sides (bands_of cs)) cs []

abbrev pub of_block : ℕ → Block → Chunk
of_block r b = chunk (entries_from r (bands_of b.cones)) (right_sides (bands_of b.cones)) b.cones b.cost

-- a tally of plain numbers
abbrev pub tally_of : ℕ → ℕ → ℕ → ℕ → ℕ → Tally
tally_of e r c k o = record { entries = e; rows = record { at = r }; cones = c; columns = record { at = k }; owner = o }

-- the buffers and the running tally
pub record State : Type 0 where
  pub rows : List ℕ
  pub columns : List ℕ
  pub values : List Float
  pub right : List Float
  pub kinds : List ℕ
  pub dimensions : List ℕ
  pub cost : List Float
  pub tally : Tally

abbrev pub state : List ℕ → List ℕ → List Float → List Float → List ℕ → List ℕ → List Float → Tally → State
state r c v h k d q t = record { rows = r; columns = c; values = v; right = h; kinds = k; dimensions = d; cost = q; tally = t }

-- of the buffers that were lent
abbrev pub state_of : Tally → Buffers → State
state_of t b = state b.rows.now b.columns.now b.values.now b.right.now b.kinds.now b.dimensions.now b.cost.now t

abbrev pub moved : Chunk → Tally → Tally
moved a t =
    tally_of (t.entries + length a.entries) (t.rows.at + length a.right) (t.cones + length a.cones) (t.columns.at + length a.cost) t.owner

-- A chunk laid over the buffers at the tally's places. `sets xs i ys` is xs with ys stored from index i on; what is past the end is left out.
unfoldable pub emit : Chunk → State → State
emit a s =
    record {
      rows = sets s.rows s.tally.entries (map (λ e. e.row) a.entries);
      columns = sets s.columns s.tally.entries (map (λ e. e.column) a.entries);
      values = sets s.values s.tally.entries (map (λ e. e.value) a.entries);
      right = sets s.right s.tally.rows.at a.right;
      kinds = sets s.kinds s.tally.cones (map (λ c. c.kind) a.cones);
      dimensions = sets s.dimensions s.tally.cones (map dimension a.cones);
      cost = sets s.cost s.tally.columns.at a.cost;
      tally = moved a s.tally;
    }

-- What a writer says of the tally and the buffers, before and after. Each is a record, so that a proof's laws find their arguments.
-- How the tally moves follows from `says`, and is said for `omega` to find.

-- a chunk is laid over the buffers; the index, which no stage writes, stays as it is
pub record Lays (t : Tally) (b : Buffers) (t' : Tally) (b' : Buffers) (a : Chunk) : Type 0 where
  pub same : SameBuffers b b'
  pub index : b'.index.now ≡ b.index.now
  pub says : state_of t' b' ≡ emit a (state_of t b)

-- entries one below the other, from row n on: a column of a band
pub record Fills (t : Tally) (b : Buffers) (t' : Tally) (b' : Buffers) (n : ℕ) (f : ℕ → Cell) (m : ℕ) : Type 0 where
  pub lays : Lays t b t' b' (chunk (list (λ i. entry (n + i) (f i)) 0 m) [] [] [])
  pub entries : t'.entries ≡ t.entries + m
  pub rows : t'.rows.at ≡ t.rows.at
  pub cones : t'.cones ≡ t.cones
  pub columns : t'.columns.at ≡ t.columns.at

-- several columns of a band
pub record Columns (t : Tally) (b : Buffers) (t' : Tally) (b' : Buffers) (n : ℕ) (fs : List (ℕ → Cell)) (m : ℕ) : Type 0 where
  pub lays : Lays t b t' b' (chunk (joined (λ f. list (λ i. entry (n + i) (f i)) 0 m) fs) [] [] [])
  pub entries : t'.entries ≡ t.entries + length fs * m
  pub rows : t'.rows.at ≡ t.rows.at
  pub cones : t'.cones ≡ t.cones
  pub columns : t'.columns.at ≡ t.columns.at

-- one entry
pub record Puts (t : Tally) (b : Buffers) (t' : Tally) (b' : Buffers) (e : Entry) : Type 0 where
  pub lays : Lays t b t' b' (chunk (e ∷ []) [] [] [])
  pub entries : t'.entries ≡ t.entries + 1
  pub rows : t'.rows.at ≡ t.rows.at
  pub cones : t'.cones ≡ t.cones
  pub columns : t'.columns.at ≡ t.columns.at

-- right sides
pub record FillsRight (t : Tally) (b : Buffers) (t' : Tally) (b' : Buffers) (f : ℕ → Float) (m : ℕ) : Type 0 where
  pub lays : Lays t b t' b' (chunk [] (list f 0 m) [] [])
  pub entries : t'.entries ≡ t.entries
  pub rows : t'.rows.at ≡ t.rows.at + m
  pub cones : t'.cones ≡ t.cones
  pub columns : t'.columns.at ≡ t.columns.at

pub record PutsRight (t : Tally) (b : Buffers) (t' : Tally) (b' : Buffers) (x : Float) : Type 0 where
  pub lays : Lays t b t' b' (chunk [] (x ∷ []) [] [])
  pub entries : t'.entries ≡ t.entries
  pub rows : t'.rows.at ≡ t.rows.at + 1
  pub cones : t'.cones ≡ t.cones
  pub columns : t'.columns.at ≡ t.columns.at

-- how far the tally may move: at most b rows, and five entries for each
pub record Moves (t t' : Tally) (b : ℕ) : Type 0 where
  pub entries : t'.entries ≤ t.entries + 5 * b
  pub rows : t'.rows.at ≤ t.rows.at + b
  pub forth : t.rows.at ≤ t'.rows.at
  pub cones : t'.cones ≡ t.cones
  pub columns : t'.columns.at ≡ t.columns.at

-- bands, one below the other, from the tally's row on
pub record Wrote (t : Tally) (b : Buffers) (t' : Tally) (b' : Buffers) (bs : List Band) (most : ℕ) : Type 0 where
  pub lays : Lays t b t' b' (of_bands t.rows.at bs)
  pub moves : Moves t t' most

-- so many turns of a loop, each at most so many rows: f k, f (k + 1), ..
pub record Overs (t : Tally) (b : Buffers) (t' : Tally) (b' : Buffers) (f : ℕ → List Band) (k i most : ℕ) : Type 0 where
  pub wrote : Wrote t b t' b' (over f k i) (most * i)

pub record Lists (t : Tally) (b : Buffers) (t' : Tally) (b' : Buffers) (f : ℕ → Band) (k i most : ℕ) : Type 0 where
  pub wrote : Wrote t b t' b' (list f k i) (most * i)

-- a cone's kind and dimension
pub record PutsCone (t : Tally) (b : Buffers) (t' : Tally) (b' : Buffers) (kind dim : ℕ) : Type 0 where
  pub same : SameBuffers b b'
  pub index : b'.index.now ≡ b.index.now
  pub says : state_of t' b'
      ≡ state b.rows.now b.columns.now b.values.now b.right.now (sets b.kinds.now t.cones (kind ∷ [])) (sets b.dimensions.now t.cones (dim ∷ [])) b.cost.now
      (tally_of t.entries t.rows.at (t.cones + 1) t.columns.at t.owner)
  pub entries : t'.entries ≡ t.entries
  pub rows : t'.rows.at ≡ t.rows.at
  pub cones : t'.cones ≡ t.cones + 1
  pub columns : t'.columns.at ≡ t.columns.at
  pub owner : t'.owner ≡ t.owner

-- as Moves, with at most so many cones as rows
pub record Steps (t t' : Tally) (b : ℕ) : Type 0 where
  pub entries : t'.entries ≤ t.entries + 5 * b
  pub rows : t'.rows.at ≤ t.rows.at + b
  pub cones : t'.cones ≤ t.cones + b
  pub columns : t'.columns.at ≡ t.columns.at

-- cones with their bands
pub record Closed (t : Tally) (b : Buffers) (t' : Tally) (b' : Buffers) (cs : List Cone) (most : ℕ) : Type 0 where
  pub lays : Lays t b t' b' (of_cones t.rows.at cs)
  pub steps : Steps t t' most

pub record ClosedList (t : Tally) (b : Buffers) (t' : Tally) (b' : Buffers) (f : ℕ → Cone) (j i most : ℕ) : Type 0 where
  pub closed : Closed t b t' b' (list f j i) (most * i)

-- the cost of new columns
pub record Costs (t : Tally) (b : Buffers) (t' : Tally) (b' : Buffers) (xs : List Float) : Type 0 where
  pub lays : Lays t b t' b' (chunk [] [] [] xs)

pub record PutsCost (t : Tally) (b : Buffers) (t' : Tally) (b' : Buffers) (x : Float) : Type 0 where
  pub costs : Costs t b t' b' (x ∷ [])
  pub entries : t'.entries ≡ t.entries
  pub rows : t'.rows.at ≡ t.rows.at
  pub cones : t'.cones ≡ t.cones
  pub columns : t'.columns.at ≡ t.columns.at + 1

pub record FillsCost (t : Tally) (b : Buffers) (t' : Tally) (b' : Buffers) (f : ℕ → Float) (k m : ℕ) : Type 0 where
  pub costs : Costs t b t' b' (list f k m)
  pub entries : t'.entries ≡ t.entries
  pub rows : t'.rows.at ≡ t.rows.at
  pub cones : t'.cones ≡ t.cones
  pub columns : t'.columns.at ≡ t.columns.at + m

-- a block, but for its charges, which the cost of earlier columns holds from the start; moves all counts by at most so much, the entries by five times that
pub record Built (s s' : State) (x : Block) (most : ℕ) : Type 0 where
  pub says : s' ≡ emit (of_block s.tally.rows.at x) s
  pub entries : s'.tally.entries ≤ s.tally.entries + 5 * most
  pub rows : s'.tally.rows.at ≤ s.tally.rows.at + most
  pub cones : s'.tally.cones ≤ s.tally.cones + most
  pub columns : s'.tally.columns.at ≤ s.tally.columns.at + most

-- the same of the buffers that were lent
pub record Builds (t : Tally) (b : Buffers) (t' : Tally) (b' : Buffers) (x : Block) (most : ℕ) : Type 0 where
  pub same : SameBuffers b b'
  pub index : b'.index.now ≡ b.index.now
  pub built : Built (state_of t b) (state_of t' b') x most
