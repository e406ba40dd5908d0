-- Request 6: what stands in an owner's ranges is that owner's block.
use Prim.Native.Nat.{ℕ, zero, suc, ◌+◌, ◌*◌, ◌<◌}
use native.Mathlib.Nat.{zero-add, add-zero, not-suc-le-zero, le_of_suc-le-suc}
use native.Mathlib.Omega.{arith}
use mathlib.Core.Path.{◌≡◌, refl, sym, ap, subst, ◌∙◌}
use mathlib.Core.List.{List, [], ◌∷◌, ◌++◌, append_assoc}
use lib.Ieee.{Float}
use lib.ListN.{length, get_or, take, drop, length-append}
use lib.Seq.{drop_at, take_at}
use Rattle.model.specs.Lists.{joined, part}
use Rattle.model.specs.Problem.{Problem, n}
use Rattle.model.specs.Program.{Band, Block, nothing, entries_from, right_sides}
use Rattle.model.specs.Assembled.{blocks, cones, bands, entries, right_side, cost}
use Rattle.model.specs.Counts.{◌plus◌}
use Rattle.model.specs.Owners.{block_bands, size_of, Owner, owners_from, tally_start, owners}
use Rattle.model.specs.declared.FourCounts.{FourCounts}
use Rattle.model.proofs.Sizes.{Sizes}
use Rattle.model.proofs.Sums.{joined-append}
use Rattle.model.proofs.Shape.{entries_append, right_append}
use Rattle.model.proofs.Counted.{entries_length}
use Rattle.model.proofs.Costs.{station_columns, cost_parts, stations_long}
use Rattle.model.proofs.Owned.{none}

-- ---- a part of a list

-- `mine` stands in `all` from number `first` on, where the numbers of `all` begin at `start`
record Slice {A : Type 0} (start first : ℕ) (all mine : List A) : Type 0 where
  front : List A
  back : List A
  whole : all ≡ front ++ (mine ++ back)
  starts : start + length front ≡ first

slice_here : {A : Type 0} (start : ℕ) (mine rest : List A) → Slice start start (mine ++ rest) mine
slice_here start mine rest = record { front = []; back = rest; whole = refl; starts = add-zero start }

slice_later : {A : Type 0} (start first k : ℕ) (head all mine : List A) → length head ≡ k → Slice (start + k) first all mine → Slice start first (head ++ all) mine
slice_later start first k head all mine e h =
    record {
      front = head ++ h.front;
      back = h.back;
      whole = ap (λ (x : List _). head ++ x) h.whole ∙ sym (append_assoc head h.front (mine ++ h.back));
      starts = ap (λ (x : ℕ). start + x) (length-append head h.front) ∙ omega (arith, h.starts);
    }

slice_part : {A : Type 0} (first size : ℕ) (all mine : List A) → size ≡ length mine → Slice 0 first all mine → part all first size ≡ mine
slice_part first size all mine e h =
    ap (λ (x : List _). take size (drop first x)) h.whole
    ∙ ap (take size) (drop_at h.front (mine ++ h.back) first (omega (arith, h.starts))) ∙ take_at mine h.back size (sym e)

-- ---- the blocks in order

abbrev all_bands : List Block → List Band
all_bands bs = joined (λ c. c.bands) (joined (λ b. b.cones) bs)

more_bands : (b : Block) (bs : List Block) → all_bands (b ∷ bs) ≡ block_bands b ++ all_bands bs
more_bands b bs = joined-append (λ c. c.bands) b.cones (joined (λ b. b.cones) bs)

more_entries : (r : ℕ) (b : Block) (bs : List Block)
    → entries_from r (all_bands (b ∷ bs)) ≡ entries_from r (block_bands b) ++ entries_from (r + (size_of b).rows) (all_bands bs)
unfolding size_of
more_entries r b bs = ap (entries_from r) (more_bands b bs) ∙ entries_append r (block_bands b) (all_bands bs)

-- the lengths of what a block writes are its size; the first row changes none
pub record Sized (b : Block) : Type 0 where
  pub entries : (r : ℕ) → length (entries_from r (block_bands b)) ≡ (size_of b).entries
  pub rows : length (right_sides (block_bands b)) ≡ (size_of b).rows
  pub cones : length b.cones ≡ (size_of b).cones
  pub columns : length b.cost ≡ (size_of b).columns

pub sized : (b : Block) → Sized b
unfolding size_of
sized b = record { entries = λ r. entries_length r (block_bands b) ∙ sym (entries_length 0 (block_bands b)); rows = refl; cones = refl; columns = refl }

record Places (t : FourCounts) (bs : List Block) (o : Owner) (b : Block) : Type 0 where
  entries : Slice t.entries o.first.entries (entries_from t.rows (all_bands bs)) (entries_from o.first.rows (block_bands b))
  right : Slice t.rows o.first.rows (right_sides (all_bands bs)) (right_sides (block_bands b))
  cones : Slice t.cones o.first.cones (joined (λ b. b.cones) bs) b.cones
  cost : Slice t.columns o.first.columns (joined (λ b. b.cost) bs) b.cost
  size : o.size ≡ size_of b

places : (t : FourCounts) (bs : List Block) (i : ℕ) → i < length bs → Places t bs (get_or (owners_from t bs) i none) (get_or bs i nothing)
places t [] i h = absurd (not-suc-le-zero h)
places t (b ∷ bs) zero h =
    record {
      entries = rw (more_entries t.rows b bs) (slice_here t.entries _ _);
      right = rw (more_bands b bs, right_append (block_bands b) (all_bands bs)) (slice_here t.rows _ _);
      cones = slice_here t.cones b.cones _;
      cost = slice_here t.columns b.cost _;
      size = refl;
    }
places t (b ∷ bs) (suc i) h =
    let k = places (t plus size_of b) bs i (le_of_suc-le-suc h) in
    let s = sized b in
    record {
      entries = rw (more_entries t.rows b bs) (slice_later _ _ (size_of b).entries (entries_from t.rows (block_bands b)) _ _ (s.entries t.rows) k.entries);
      right = rw (more_bands b bs, right_append (block_bands b) (all_bands bs)) (slice_later _ _ (size_of b).rows (right_sides (block_bands b)) _ _ s.rows k.right);
      cones = slice_later _ _ (size_of b).cones b.cones _ _ s.cones k.cones;
      cost = slice_later _ _ (size_of b).columns b.cost _ _ s.columns k.cost;
      size = k.size;
    }

-- ---- for every problem and owner i

pub record Sliced (p : Problem) (o : Owner) (b : Block) : Type 0 where
  pub entries : part (entries p) o.first.entries o.size.entries ≡ entries_from o.first.rows (block_bands b)
  pub right : part (right_side p) o.first.rows o.size.rows ≡ right_sides (block_bands b)
  pub cones : part (cones p) o.first.cones o.size.cones ≡ b.cones
  pub cost : part (cost p) o.first.columns o.size.columns ≡ b.cost

-- of every problem that passes 4 and 14: Linear's charges stay on the a and b columns
module _ (p : Problem) (z : Sizes p.path) where
  cost_slice : (first : ℕ) (mine : List Float) → Slice (2 * n p.path + 2) first (joined (λ b. b.cost) (blocks p)) mine → Slice 0 first (cost p) mine
  cost_slice first mine h =
      let ab : 2 * (n p.path + 1) ≡ 2 * n p.path + 2 = omega arith in
      subst (λ (x : List Float). Slice 0 first x mine) (sym (cost_parts p z))
      (slice_later 0 first (2 * n p.path + 2) (station_columns p) (joined (λ b. b.cost) (blocks p)) mine (stations_long p ∙ ab) (simp zero-add h))

  pub sliced : (i : ℕ) → i < length (blocks p) → Sliced p (get_or (owners p) i none) (get_or (blocks p) i nothing)
  unfolding owners entries right_side cones bands
  sliced i h =
      let k = places (tally_start p) (blocks p) i h in
      let b = get_or (blocks p) i nothing in
      let o = get_or (owners_from (tally_start p) (blocks p)) i none in
      let s = sized b in
      record {
        entries = slice_part _ _ _ _ (ap (λ (t : FourCounts). t.entries) k.size ∙ sym (s.entries o.first.rows)) k.entries;
        right = slice_part _ _ _ _ (ap (λ (t : FourCounts). t.rows) k.size ∙ sym s.rows) k.right;
        cones = slice_part _ _ _ _ (ap (λ (t : FourCounts). t.cones) k.size ∙ sym s.cones) k.cones;
        cost = slice_part _ _ _ _ (ap (λ (t : FourCounts). t.columns) k.size ∙ sym s.columns) (cost_slice _ _ k.cost);
      }
