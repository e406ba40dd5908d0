-- Request 6: "The ranges of the owners cover all rows, entries and cones, and all columns from 2n+2, without overlap."
use Prim.Native.Nat.{ℕ, zero, suc, ◌+◌, ◌*◌, ◌≤◌, ◌<◌}
use native.Mathlib.Nat.{not-suc-le-zero}
use native.Mathlib.Decide.{dec_lt}
use native.Mathlib.Omega.{arith}
use mathlib.Core.Path.{◌≡◌, refl, sym, ap, ap₂, ◌∙◌}
use mathlib.Core.List.{List, [], ◌∷◌}
use lib.ListN.{length, get_or, replicate, length-append, length-replicate}
use Rattle.model.specs.Numbers.{+0}
use Rattle.model.specs.Lists.{joined, sum}
use Rattle.model.specs.Problem.{Problem, objectives, n}
use Rattle.model.specs.Program.{Block}
use Rattle.model.specs.Standard.{root}
use Rattle.model.specs.Objectives.{objective_block}
use Rattle.model.specs.Assembled.{width, blocks, objective_blocks, cones, bands, entries, right_side, cost}
use Rattle.model.specs.Counts.{four_counts, ◌plus◌}
use Rattle.model.specs.Owners.{block_bands, size_of, Owner, owners_from, tally_start, owners, eight, index, index_places}
use Rattle.model.specs.declared.FourCounts.{FourCounts}
use Rattle.model.specs.declared.Objective.{Objective}
use Rattle.model.proofs.Sums.{sum_joined, length_joined}
use Rattle.model.proofs.CountStandard.{measure}
use Rattle.model.proofs.Counted.{one, same, block_measure, all_measure, entries_length, right_length, cost_length}

-- what `get_or` gives past the last owner
abbrev pub none : Owner
none = record { first = four_counts 0 0 0 0; size = four_counts 0 0 0 0 }

-- range f of owner i holds r
pub record In (f : FourCounts → ℕ) (os : List Owner) (r i : ℕ) : Type 0 where
  pub known : i < length os
  pub above : f (get_or os i none).first ≤ r
  pub below : r < f (get_or os i none).first + f (get_or os i none).size

-- one owner and no other
pub record OneOwner (f : FourCounts → ℕ) (os : List Owner) (r : ℕ) : Type 0 where
  pub who : ℕ
  pub holds : In f os r who
  pub only : (i : ℕ) → In f os r i → i ≡ who

-- ---- for any blocks, and a count f that adds up

module _ (f : FourCounts → ℕ) (adds : (a b : FourCounts) → f (a plus b) ≡ f a + f b) where
  -- owner i + 1 is owner i of the later blocks
  next : (t : FourCounts) (b : Block) (bs : List Block) (r i : ℕ) → In f (owners_from t (b ∷ bs)) r (suc i) → In f (owners_from (t plus size_of b) bs) r i
  next t b bs r i h = record { known = omega (arith, h.known); above = h.above; below = h.below }

  -- no owner holds anything outside
  pub held_inside : (t : FourCounts) (bs : List Block) (r i : ℕ) → In f (owners_from t bs) r i → (f t ≤ r) × (r < f t + sum (λ b. f (size_of b)) bs)
  held_inside t [] r i h = absurd (not-suc-le-zero h.known)
  held_inside t (b ∷ bs) r zero h = omega (arith, h.above, h.below)
  held_inside t (b ∷ bs) r (suc i) h = let k = held_inside (t plus size_of b) bs r i (next t b bs r i h) in omega (arith, adds t (size_of b), k)

  pub one_owner : (t : FourCounts) (bs : List Block) (r : ℕ) → f t ≤ r → r < f t + sum (λ b. f (size_of b)) bs → OneOwner f (owners_from t bs) r
  one_owner t [] r h l = absurd (omega arith)
  one_owner t (b ∷ bs) r h l = go (λ a c. one_owner (t plus size_of b) bs r a c) (dec_lt r (f t + f (size_of b)))
    where
      here : r < f t + f (size_of b) → (i : ℕ) → In f (owners_from t (b ∷ bs)) r i → i ≡ 0
      here q zero i = refl
      here q (suc j) i = let k = held_inside (t plus size_of b) bs r j (next t b bs r j i) in absurd (omega (arith, adds t (size_of b), k))

      later : f t + f (size_of b) ≤ r → (o : OneOwner f (owners_from (t plus size_of b) bs) r) → (i : ℕ) → In f (owners_from t (b ∷ bs)) r i → i ≡ suc o.who
      later q o zero i = absurd (omega (arith, i.below))
      later q o (suc j) i = ap suc (o.only j (next t b bs r j i))

      go : (f (t plus size_of b) ≤ r → r < f (t plus size_of b) + sum (λ b. f (size_of b)) bs → OneOwner f (owners_from (t plus size_of b) bs) r)
          → Dec (r < f t + f (size_of b)) → OneOwner f (owners_from t (b ∷ bs)) r
      go rest (yes q) = record { who = 0; holds = record { known = omega arith; above = h; below = q }; only = here q }
      go rest (no q) =
          let o = rest (omega (arith, adds t (size_of b))) (omega (arith, adds t (size_of b))) in
          record {
            who = suc o.who;
            holds = record { known = omega (arith, o.holds.known); above = o.holds.above; below = o.holds.below };
            only = later (omega arith) o;
          }

-- ---- what the blocks have adds up to the output

sum_ext : {A : Type 0} (f g : A → ℕ) (xs : List A) → ((x : A) → f x ≡ g x) → sum f xs ≡ sum g xs
sum_ext f g [] h = refl
sum_ext f g (x ∷ xs) h = ap₂ ◌+◌ (h x) (sum_ext f g xs h)

module _ (p : Problem) where
  block_measure_lem : (g : ℕ → ℕ) (b : Block) → sum (measure g) (block_bands b) ≡ block_measure g b
  block_measure_lem g b = sum_joined (measure g) (λ c. c.bands) b.cones

  pub all_entries : sum (λ b. (size_of b).entries) (blocks p) ≡ length (entries p)
  unfolding entries size_of
  all_entries = sum_ext _ _ (blocks p) (λ b. entries_length 0 (block_bands b) ∙ block_measure_lem same b) ∙ sym (entries_length 0 (bands p) ∙ all_measure same p)

  pub all_rows : sum (λ b. (size_of b).rows) (blocks p) ≡ length (right_side p)
  unfolding right_side size_of
  all_rows = sum_ext _ _ (blocks p) (λ b. right_length (block_bands b) ∙ block_measure_lem one b) ∙ sym (right_length (bands p) ∙ all_measure one p)

  pub all_cones : sum (λ b. (size_of b).cones) (blocks p) ≡ length (cones p)
  unfolding cones size_of
  all_cones = sym (length_joined (λ b. b.cones) (blocks p))

  pub all_columns : (2 * n p.path + 2) + sum (λ b. (size_of b).columns) (blocks p) ≡ length (cost p)
  unfolding cost size_of
  all_columns = omega (arith, cost_length (replicate (2 * (n p.path + 1)) +0) (blocks p), length-replicate (2 * (n p.path + 1)) +0)

  pub objectives_blocks : (c : ℕ) (os : List Objective) → length (objective_blocks p c os) ≡ length os
  unfolding objective_blocks
  objectives_blocks c [] = refl
  objectives_blocks c (o ∷ os) = ap suc (objectives_blocks (c + width (objective_block p c o)) os)

  -- "there are two owners more than objectives"
  pub blocks_number : length (blocks p) ≡ 2 + length (objectives p)
  unfolding blocks
  blocks_number = omega (arith, objectives_blocks (2 * (n p.path + 1) + width (root p)) (objectives p))

pub owners_length : (t : FourCounts) (bs : List Block) → length (owners_from t bs) ≡ length bs
owners_length t [] = refl
owners_length t (b ∷ bs) = ap suc (owners_length (t plus size_of b) bs)

-- For every problem: one owner for each entry, row, cone, and column from 2n+2; and no owner holds anything else
pub record Owned (p : Problem) : Type 0 where
  pub number : length (owners p) ≡ 2 + length (objectives p)
  pub entry : (r : ℕ) → r < length (entries p) → OneOwner (λ t. t.entries) (owners p) r
  pub row : (r : ℕ) → r < length (right_side p) → OneOwner (λ t. t.rows) (owners p) r
  pub cone : (r : ℕ) → r < length (cones p) → OneOwner (λ t. t.cones) (owners p) r
  pub column : (r : ℕ) → 2 * n p.path + 2 ≤ r → r < length (cost p) → OneOwner (λ t. t.columns) (owners p) r
  pub no_entry : (r i : ℕ) → In (λ t. t.entries) (owners p) r i → r < length (entries p)
  pub no_row : (r i : ℕ) → In (λ t. t.rows) (owners p) r i → r < length (right_side p)
  pub no_cone : (r i : ℕ) → In (λ t. t.cones) (owners p) r i → r < length (cones p)
  pub no_column : (r i : ℕ) → In (λ t. t.columns) (owners p) r i → (2 * n p.path + 2 ≤ r) × (r < length (cost p))

pub owned : (p : Problem) → Owned p
unfolding owners
owned p =
    let t = tally_start p in
    record {
      number = owners_length t (blocks p) ∙ blocks_number p;
      entry = λ r l. one_owner (λ t. t.entries) (λ a b. refl) t (blocks p) r (omega arith) (omega (arith, all_entries p));
      row = λ r l. one_owner (λ t. t.rows) (λ a b. refl) t (blocks p) r (omega arith) (omega (arith, all_rows p));
      cone = λ r l. one_owner (λ t. t.cones) (λ a b. refl) t (blocks p) r (omega arith) (omega (arith, all_cones p));
      column = λ r h l. one_owner (λ t. t.columns) (λ a b. refl) t (blocks p) r h (omega (arith, all_columns p));
      no_entry = λ r i h. omega (arith, held_inside (λ t. t.entries) (λ a b. refl) t (blocks p) r i h, all_entries p);
      no_row = λ r i h. omega (arith, held_inside (λ t. t.rows) (λ a b. refl) t (blocks p) r i h, all_rows p);
      no_cone = λ r i h. omega (arith, held_inside (λ t. t.cones) (λ a b. refl) t (blocks p) r i h, all_cones p);
      no_column = λ r i h. omega (arith, held_inside (λ t. t.columns) (λ a b. refl) t (blocks p) r i h, all_columns p);
    }

-- ---- the index

pub eights_length : (os : List Owner) → length (joined eight os) ≡ 8 * length os
eights_length [] = refl
eights_length (o ∷ os) = length-append (eight o) (joined eight os) ∙ omega (arith, eights_length os)

-- "The index takes eight places for each owner, and there are two owners more than objectives"
pub index_length : (p : Problem) → length (index p) ≡ index_places (length (objectives p))
unfolding index
index_length p = omega (arith, eights_length (owners p), (owned p).number)
