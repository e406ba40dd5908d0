-- What the buffers hold after a success: the definition's lists, then what they held before; and, index by index, a matrix and cones in order.
use Prim.Native.Nat.{ℕ, ◌^◌, ◌≤◌, ◌<◌}
use native.Mathlib.Omega.{arith}
use mathlib.Core.Path.{◌≡◌, sym, ap, ◌∙◌}
use mathlib.Core.List.{List, map}
use lib.Ieee.{nan}
use lib.ListN.{length, get_or, take, drop, length-append, length-drop, length-map, get_or-map}
use lib.Seq.{take_at, drop_at, get_or-take}
use Rattle.model.specs.Lists.{total}
use Rattle.model.specs.Problem.{Problem, objectives}
use Rattle.model.specs.Program.{Entry}
use Rattle.model.specs.Assembled.{entries, row_numbers, column_numbers, values, right_side, cone_kinds, cone_dimensions, cost}
use Rattle.model.specs.Counts.{counts}
use Rattle.model.specs.Owners.{index, index_places}
use Rattle.model.specs.Answers.{Buffers, onto, written}
use Rattle.model.specs.declared.FourCounts.{FourCounts}
use Rattle.model.proofs.All.{All, all_at}
use Rattle.model.proofs.Bound.{part_total}
use Rattle.model.proofs.Fits.{AtMost, most_counts}
use Rattle.model.proofs.InCone.{OneCone}
use Rattle.model.proofs.ConeKinds.{kinds_known}
use Rattle.model.proofs.Room.{Enough, HasIndex}
use Rattle.model.proofs.Owned.{index_length}
use Rattle.model.proofs.Program.{Program}

module _ {A : Type 0} where
  -- a buffer that was `old`: its first c places hold the list, and nothing else is changed
  pub record Onto (c : ℕ) (list old new : List A) : Type 0 where
    pub first : take c new ≡ list
    pub rest : drop c new ≡ drop c old
    pub long : length new ≡ length old

  onto_holds : (c : ℕ) (list old : List A) → length list ≡ c → c ≤ length old → Onto c list old (onto list old)
  onto_holds c list old e h =
      record {
        first = take_at list (drop (length list) old) c e;
        rest = drop_at list (drop (length list) old) c e ∙ ap (λ (k : ℕ). drop k old) e;
        long = simp (length-append, length-drop) (omega arith);
      }

  -- element i of the buffer is element i of the list
  pub onto_at : (c : ℕ) (list old new : List A) → Onto c list old new → (i : ℕ) (d : A) → i < c → get_or new i d ≡ get_or list i d
  onto_at c list old new o i d lt = sym (get_or-take c new i d lt) ∙ ap (λ (l : List A). get_or l i d) o.first

  -- what holds of each element of the list holds of the buffer's first c
  pub onto_all : (P : A → Type 0) {c : ℕ} {list old new : List A} → Onto c list old new → length list ≡ c → All P list → (i : ℕ) (d : A) → i < c → P (get_or new i d)
  onto_all P {c} {list} {old} {new} o e h i d lt = rw (onto_at c list old new o i d lt) (all_at P list i d h (omega arith))

-- buffers 0 to 6, and the index
pub record Writes (p : Problem) (old new : Buffers) : Type 0 where
  pub rows : Onto (counts p).entries (row_numbers p) old.rows new.rows
  pub columns : Onto (counts p).entries (column_numbers p) old.columns new.columns
  pub values : Onto (counts p).entries (values p) old.values new.values
  pub right : Onto (counts p).rows (right_side p) old.right new.right
  pub kinds : Onto (counts p).cones (cone_kinds p) old.kinds new.kinds
  pub dimensions : Onto (counts p).cones (cone_dimensions p) old.dimensions new.dimensions
  pub cost : Onto (counts p).columns (cost p) old.cost new.cost
  pub index : Onto (index_places (length (objectives p))) (index p) old.index new.index

-- Entry i is what buffers 0 to 2 hold at index i, and its position is its row with its column
pub record Formed (t : FourCounts) (b : Buffers) : Type 0 where
  pub inside : (i : ℕ) → i < t.entries → (get_or b.rows i 0 < t.rows) × (get_or b.columns i 0 < t.columns)
  pub once : (i j : ℕ) → i < t.entries → j < t.entries → get_or b.rows i 0 ≡ get_or b.rows j 0 → get_or b.columns i 0 ≡ get_or b.columns j 0 → i ≡ j
  pub dimensions : total (take t.cones b.dimensions) ≡ t.rows
  pub one_cone : (r : ℕ) → r < t.rows → OneCone (take t.cones b.dimensions) r
  -- "Cone kinds are 0 zero, 1 nonnegative, 2 second-order."
  pub kinds : (i : ℕ) → i < t.cones → get_or b.kinds i 0 < 3

-- "wherever they are stored": 64 bits hold each row number, column number and dimension
pub record Stored (t : FourCounts) (b : Buffers) : Type 0 where
  pub rows : (i : ℕ) → i < t.entries → get_or b.rows i 0 < 2 ^ 64
  pub columns : (i : ℕ) → i < t.entries → get_or b.columns i 0 < 2 ^ 64
  pub dimensions : (i : ℕ) → i < t.cones → get_or b.dimensions i 0 < 2 ^ 64

pub stored : (t : FourCounts) (b : Buffers) → AtMost most_counts t → Formed t b → Stored t b
stored t b most f =
    record {
      rows = λ i lt. let h = f.inside i lt in omega arith;
      columns = λ i lt. let h = f.inside i lt in omega arith;
      dimensions = λ i lt. omega (arith, part_total (take t.cones b.dimensions) i 1, f.dimensions, get_or-take t.cones b.dimensions i 0 lt);
    }

module _ (p : Problem) (f : Program p) where
  pub writes : (b : Buffers) → HasIndex p b → Enough (counts p) b → Writes p b (written p b)
  unfolding written row_numbers column_numbers values cone_kinds cone_dimensions
  writes b i h =
      record {
        rows = onto_holds (counts p).entries _ b.rows (simp length-map f.entries_counted) (h 0 (omega arith));
        columns = onto_holds (counts p).entries _ b.columns (simp length-map f.entries_counted) (h 1 (omega arith));
        values = onto_holds (counts p).entries _ b.values (simp length-map f.entries_counted) (h 2 (omega arith));
        right = onto_holds (counts p).rows _ b.right f.rows_counted (h 3 (omega arith));
        kinds = onto_holds (counts p).cones _ b.kinds (simp length-map f.cones_counted) (h 4 (omega arith));
        dimensions = onto_holds (counts p).cones _ b.dimensions (simp length-map f.cones_counted) (h 5 (omega arith));
        cost = onto_holds (counts p).columns _ b.cost f.columns_counted (h 6 (omega arith));
        index = onto_holds (index_places (length (objectives p))) _ b.index (index_length p) i;
      }

  module _ (old new : Buffers) (w : Writes p old new) where
    -- past the end `get_or` gives 0
    abbrev past : Entry
    past = record { row = 0; column = 0; value = nan }

    entry_at : (f : Entry → ℕ) {was is : List ℕ} → Onto (counts p).entries (map f (entries p)) was is
        → (i : ℕ) → i < (counts p).entries → get_or is i (f past) ≡ f (get_or (entries p) i past)
    entry_at f o i lt = onto_at _ _ _ _ o i (f past) lt ∙ get_or-map f (entries p) i past

    pub formed : Formed (counts p) new
    unfolding row_numbers column_numbers cone_kinds
    formed =
        let row_at = entry_at (λ e. e.row) w.rows in
        let column_at = entry_at (λ e. e.column) w.columns in
        record {
          inside = λ i lt. let h = f.inside i past (omega arith) in omega (arith, row_at i lt, column_at i lt);
          once = λ i j x y r c. f.once i j past (omega arith) (omega arith) (cc (row_at i x, row_at j y)) (cc (column_at i x, column_at j y));
          dimensions = rw w.dimensions.first (f.dimensions ∙ f.rows_counted);
          one_cone = λ r lt. rw w.dimensions.first (f.one_cone r (omega arith));
          kinds = λ i lt. onto_all (λ (k : ℕ). k < 3) w.kinds (simp length-map f.cones_counted) (kinds_known p) i 0 lt;
        }
