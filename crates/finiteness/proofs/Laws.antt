-- Laws of tests over a range, and of bands. Assumes nothing.
use mathlib.Core.Path.{◌≡◌, refl, sym, ap, ap₂, ◌∙◌}
use mathlib.Core.Bool.{Bool, true, false, ◌&&◌}
use mathlib.Core.List.{List, [], ◌∷◌, ◌++◌, map, map-append}
use Prim.Native.Nat.{ℕ, zero, suc, ◌+◌, ◌-◌, ◌≤◌, ◌<◌}
use native.Mathlib.Nat.{add-zero, zero-add, add-suc, suc-add}
use native.Mathlib.Numerals.{add-one}
use native.Mathlib.Omega.{arith}
use lib.Ieee.{Float, nan, neg, of_bits}
use lib.ListN.{length, replicate, take}
use Rattle.std.proofs.lemmas.List.{take_more}
use Rattle.model.specs.Numbers.{finite, at, +0}
use Rattle.model.specs.Lists.{list, over, given, joined}
use Rattle.model.specs.Program.{Cell, Band, Cone, Block, entry, positive_row, band_entries, entries_from, right_sides}
use Rattle.model.specs.Assembled.{all_finite}
use Rattle.model.proofs.Sums.{joined-append}
use Rattle.buffers.proofs.Laws.{and_assoc, all_append}
use Rattle.finiteness.specs.Finite.{finite_each, each, Each, if_test, finite_columns, finite_band, finite_bands, finite_cones, finite_block, finite_blocks}

-- ---- flags

pub and_true : (b : Bool) → (b && true) ≡ b
and_true true = refl
and_true false = refl

pub and_swap : (a b c d : Bool) → ((a && b) && (c && d)) ≡ ((a && c) && (b && d))
and_swap false b c d = refl
and_swap true false false d = refl
and_swap true false true d = refl
and_swap true true c d = refl

-- ---- ranges

pub each_snoc : (f : ℕ → Bool) (k c : ℕ) → each f k (suc c) ≡ (each f k c && f (k + c))
each_snoc f k zero = simp (add-zero, and_true)
each_snoc f k (suc c) = ap (λ (b : Bool). f k && b) (each_snoc f (suc k) c) ∙ simp (suc-add, add-suc) (sym (and_assoc (f k) (each f (suc k) c) (f (suc (k + c)))))

pub each_same : (f g : ℕ → Bool) (k c : ℕ) → ((i : ℕ) → f i ≡ g i) → each f k c ≡ each g k c
each_same f g k zero h = refl
each_same f g k (suc c) h = ap₂ (λ (a b : Bool). a && b) (h k) (each_same f g (suc k) c h)

pub each_and : (f g : ℕ → Bool) (k c : ℕ) → each (λ i. f i && g i) k c ≡ (each f k c && each g k c)
each_and f g k zero = refl
each_and f g k (suc c) = ap (λ (b : Bool). (f k && g k) && b) (each_and f g (suc k) c) ∙ and_swap (f k) (g k) (each f (suc k) c) (each g (suc k) c)

pub each_append : (f : ℕ → Bool) (k a b : ℕ) → each f k (a + b) ≡ (each f k a && each f (k + a) b)
each_append f k zero b = simp (zero-add, add-zero)
each_append f k (suc a) b = simp suc-add (ap (λ (x : Bool). f k && x) (each_append f (suc k) a b) ∙ simp (suc-add, add-suc) (sym (and_assoc (f k) (each f (suc k) a) (each f (suc (k + a)) b))))

pub each_from : (f : ℕ → Bool) (o k c : ℕ) → each (λ i. f (o + i)) k c ≡ each f (o + k) c
each_from f o k zero = refl
each_from f o k (suc c) = ap (λ (b : Bool). f (o + k) && b) (each_from f o (suc k) c ∙ simp add-suc)

-- a test of number i, in a loop that starts at 0
pub each_zero : (f : ℕ → Bool) (i : ℕ) {v : Bool} → v ≡ f i → v ≡ f (0 + i)
each_zero f i e = e ∙ ap f (sym (zero-add i))

-- ---- loops

module _ {f : ℕ → Bool} {k : ℕ} where
  pub each_none : Each true f k 0
  each_none = record { says = refl }

  pub each_more : {u v w : Bool} {i : ℕ} → Each u f k i → v ≡ f (k + i) → w ≡ (u && v) → Each w f k (i + 1)
  each_more {i} p e g = record { says = g ∙ ap₂ (λ (a b : Bool). a && b) p.says e ∙ sym (each_snoc f k i) ∙ ap (each f k) (sym (add-one i)) }

  pub each_all : {u : Bool} {i c : ℕ} → Each u f k i → i ≤ c → c ≤ i → Each u f k c
  each_all {u} {i} {c} p a b = let e : c ≡ i = omega arith in record { says = p.says ∙ ap (each f k) (sym e) }

  -- of a loop over the places themselves
  pub each_start : Each true f k (k - k)
  each_start = let e : k - k ≡ 0 = omega arith in rw e each_none

  pub each_next : {u v w : Bool} {i : ℕ} → k ≤ i → Each u f k (i - k) → v ≡ f i → w ≡ (u && v) → Each w f k (i + 1 - k)
  each_next {i} h p e g =
      let more : i + 1 - k ≡ i - k + 1 = omega arith in
      let here : i ≡ k + (i - k) = omega arith in
      rw more (each_more p (e ∙ ap f here) g)

-- ---- numbers in a row

-- one number more
pub row_more : (xs : List Float) (i : ℕ) → i < length xs → {u v w : Bool} → u ≡ all_finite (take i xs) → v ≡ finite (at xs i) → w ≡ (u && v) → w ≡ all_finite (take (i + 1) xs)
row_more xs i l p q g =
    rw (take_more xs i nan l, all_append, and_true) (g ∙ ap₂ (λ (a b : Bool). a && b) p q)

pub row_finite : (xs : List Float) → all_finite xs ≡ finite_each xs
row_finite [] = refl
row_finite (x ∷ []) = and_true (finite x)
row_finite (x ∷ y ∷ ys) = ap (λ (b : Bool). finite x && b) (row_finite (y ∷ ys))

-- ---- bands

pub finite_append : (xs ys : List Band) → finite_bands (xs ++ ys) ≡ (finite_bands xs && finite_bands ys)
finite_append [] ys = refl
finite_append (b ∷ xs) ys = ap (λ (x : Bool). finite_band b && x) (finite_append xs ys) ∙ sym (and_assoc (finite_band b) (finite_bands xs) (finite_bands ys))

pub finite_list : (f : ℕ → Band) (k c : ℕ) → finite_bands (list f k c) ≡ each (λ i. finite_band (f i)) k c
finite_list f k zero = refl
finite_list f k (suc c) = ap (λ (x : Bool). finite_band (f k) && x) (finite_list f (suc k) c)

pub finite_over : (f : ℕ → List Band) (k c : ℕ) → finite_bands (over f k c) ≡ each (λ i. finite_bands (f i)) k c
finite_over f k zero = refl
finite_over f k (suc c) = finite_append (f k) (over f (suc k) c) ∙ ap (λ (x : Bool). finite_bands (f k) && x) (finite_over f (suc k) c)

pub cones_append : (xs ys : List Cone) → finite_cones (xs ++ ys) ≡ (finite_cones xs && finite_cones ys)
cones_append xs ys = ap finite_bands (joined-append (λ c. c.bands) xs ys) ∙ finite_append (joined (λ c. c.bands) xs) (joined (λ c. c.bands) ys)

pub finite_given : (b : Bool) (xs : List Band) → finite_bands (given b xs) ≡ if_test b (finite_bands xs)
finite_given true xs = refl
finite_given false xs = refl

pub list_cones : (f : ℕ → Cone) (k c : ℕ) → finite_cones (list f k c) ≡ each (λ j. finite_bands (f j).bands) k c
list_cones f k zero = refl
list_cones f k (suc c) = finite_append (f k).bands (joined (λ c. c.bands) (list f (suc k) c)) ∙ ap (λ (b : Bool). finite_bands (f k).bands && b) (list_cones f (suc k) c)

-- ---- the lists of the definition

pub list_finite : (f : ℕ → Float) (k c : ℕ) → all_finite (list f k c) ≡ each (λ i. finite (f i)) k c
list_finite f k zero = refl
list_finite f k (suc c) = ap (λ (x : Bool). finite (f k) && x) (list_finite f (suc k) c)

cells_finite : (r : ℕ) (f : ℕ → Cell) (k c : ℕ) → all_finite (map (λ e. e.value) (list (λ i. entry (r + i) (f i)) k c)) ≡ each (λ i. finite (f i).value) k c
cells_finite r f k zero = refl
cells_finite r f k (suc c) = ap (λ (x : Bool). finite (f k).value && x) (cells_finite r f (suc k) c)

columns_finite : (r : ℕ) (fs : List (ℕ → Cell)) (h : ℕ) → all_finite (map (λ e. e.value) (joined (λ f. list (λ i. entry (r + i) (f i)) 0 h) fs)) ≡ finite_columns fs h
columns_finite r [] h = refl
columns_finite r (f ∷ fs) h =
    rw (map-append, all_append) (ap₂ (λ (a b : Bool). a && b) (cells_finite r f 0 h) (columns_finite r fs h))

-- the numbers of bands, as the buffers hold them
pub bands_finite : (r : ℕ) (bs : List Band) → (all_finite (map (λ e. e.value) (entries_from r bs)) && all_finite (right_sides bs)) ≡ finite_bands bs
bands_finite r [] = refl
bands_finite r (b ∷ bs) =
    rw (map-append, all_append, all_append)
    (and_swap (all_finite (map (λ e. e.value) (band_entries r b))) (all_finite (map (λ e. e.value) (entries_from (r + b.height) bs))) (all_finite (list b.right 0 b.height)) (all_finite (right_sides bs))
    ∙ ap₂ (λ (x y : Bool). x && y)
    (ap₂ (λ (x y : Bool). x && y) (columns_finite r b.columns b.height) (list_finite b.right 0 b.height)) (bands_finite (r + b.height) bs))

-- of blocks
pub blocks_finite : (bs : List Block) → (finite_cones (joined (λ b. b.cones) bs) && all_finite (joined (λ b. b.cost) bs)) ≡ finite_blocks bs
blocks_finite [] = refl
blocks_finite (b ∷ bs) =
    rw (cones_append, all_append)
    (and_swap (finite_cones b.cones) (finite_cones (joined (λ b. b.cones) bs)) (all_finite b.cost) (all_finite (joined (λ b. b.cost) bs))
    ∙ ap (λ (x : Bool). finite_block b && x) (blocks_finite bs))

-- ---- constants

pub each_true : (f : ℕ → Bool) (k c : ℕ) → ((i : ℕ) → f i ≡ true) → each f k c ≡ true
each_true f k zero h = refl
each_true f k (suc c) h = ap₂ (λ (a b : Bool). a && b) (h k) (each_true f (suc k) c h)

positive : (c : ℕ) → finite_band (positive_row c) ≡ true
unfolding positive_row of_bits neg
positive c = refl

pub positives : (f : ℕ → ℕ) (k c : ℕ) → finite_bands (list (λ j. positive_row (f j)) k c) ≡ true
positives f k c = finite_list (λ j. positive_row (f j)) k c ∙ each_true (λ j. finite_band (positive_row (f j))) k c (λ j. positive (f j))

-- rows that are not negative, then cones of constants
pub constants : (bs : List Band) (f : ℕ → Cone) (c : ℕ) → finite_bands bs ≡ true → ((j : ℕ) → finite_bands (f j).bands ≡ true) → finite_bands (bs ++ joined (λ c. c.bands) (list f 0 c)) ≡ true
constants bs f c a b =
    finite_append bs (joined (λ c. c.bands) (list f 0 c))
    ∙ ap₂ (λ (x y : Bool). x && y) a (list_cones f 0 c ∙ each_true (λ j. finite_bands (f j).bands) 0 c b)

pub zeros : (c : ℕ) → all_finite (replicate c +0) ≡ true
unfolding of_bits
zeros zero = refl
zeros (suc c) = zeros c
