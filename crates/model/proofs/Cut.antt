-- A band's functions say more than its rows: past the height nothing reads them. Cut off there, two bands are equal if their rows are, and a program's lists depend on its blocks
-- only through the cut ones.
use Prim.Native.Nat.{ℕ, zero, suc, ◌+◌, ◌≤◌, ◌<◌}
use native.Mathlib.Omega.{arith}
use mathlib.Core.Path.{◌≡◌, refl, sym, ap, ap₂, fun_ext, ◌∙◌}
use mathlib.Core.Bool.{Bool, true, false, cond}
use mathlib.Core.List.{List, [], ◌∷◌, ◌++◌, map, map-id, map-append, map-map}
use lib.ListN.{length, length-map}
use lib.Dec.{ltb}
use lib.Ieee.{Float, nan}
use borrow.Author.Tests.{ltb-true, lt-ltb}
use Rattle.model.specs.Lists.{list, over, given, joined, sum}
use Rattle.model.specs.Program.{Cell, cell, Band, band, Cone, cone, dimension, Block, entry, entries_from, right_sides, charged}
use Rattle.model.specs.Assembled.{cost_after}
use Rattle.model.specs.Counts.{◌plus◌}
use Rattle.model.specs.Owners.{block_bands, size_of, owners_from}
use Rattle.model.specs.declared.FourCounts.{FourCounts}
use Rattle.model.proofs.Counted.{same_counts}

-- ---- lists that a map makes equal

-- below the map cuts bands, cones or blocks, or leaves its elements alone
pub record Alike {A B : Type 0} (h : A → B) (xs ys : List A) : Type 0 where
  pub same : map h xs ≡ map h ys

module _ {A B : Type 0} {h : A → B} where
  pub equal_alike : {xs ys : List A} → xs ≡ ys → Alike h xs ys
  equal_alike e = record { same = ap (map h) e }

  pub single_alike : {x y : A} → h x ≡ h y → Alike h (x ∷ []) (y ∷ [])
  single_alike e = record { same = ap (λ z. z ∷ []) e }

  -- one after another
  infixl 60 ◌⧺◌
  pub ◌⧺◌ : {xs xs' ys ys' : List A} → Alike h xs xs' → Alike h ys ys' → Alike h (xs ++ ys) (xs' ++ ys')
  ◌⧺◌ {xs} {xs'} {ys} {ys'} a b = record { same = map-append h xs ys ∙ ap₂ ◌++◌ a.same b.same ∙ sym (map-append h xs' ys') }

  pub given_alike : (t : Bool) {xs ys : List A} → (t ≡ true → Alike h xs ys) → Alike h (given t xs) (given t ys)
  given_alike true e = e refl
  given_alike false e = equal_alike refl

  pub list_alike : (f g : ℕ → A) (k c : ℕ) → ((i : ℕ) → k ≤ i → i < k + c → h (f i) ≡ h (g i)) → Alike h (list f k c) (list g k c)
  list_alike f g k zero e = equal_alike refl
  list_alike f g k (suc c) e =
      record { same = ap₂ ◌∷◌ (e k (omega arith) (omega arith)) (list_alike f g (suc k) c (λ i a b. e i (omega arith) (omega arith))).same }

  pub over_alike : (f g : ℕ → List A) (k c : ℕ) → ((i : ℕ) → k ≤ i → i < k + c → Alike h (f i) (g i)) → Alike h (over f k c) (over g k c)
  over_alike f g k zero e = equal_alike refl
  over_alike f g k (suc c) e = e k (omega arith) (omega arith) ⧺ over_alike f g (suc k) c (λ i a b. e i (omega arith) (omega arith))

-- a function that does not see the map
pub through : {A C : Type 0} (h : A → A) (F : List A → C) → ((xs : List A) → F (map h xs) ≡ F xs) → {xs ys : List A} → Alike h xs ys → F xs ≡ F ys
through h F e {xs} {ys} q = sym (e xs) ∙ ap F q.same ∙ e ys

pub alike_equal : {A : Type 0} {xs ys : List A} → Alike (λ x. x) xs ys → xs ≡ ys
alike_equal = through (λ x. x) (λ xs. xs) map-id

-- a map under `joined`
joined_map : {A B : Type 0} (F : B → List A) (g : B → B) (h : A → A) → ((b : B) → F (g b) ≡ map h (F b)) → (bs : List B) → joined F (map g bs) ≡ map h (joined F bs)
joined_map F g h e [] = refl
joined_map F g h e (b ∷ bs) = ap₂ ◌++◌ (e b) (joined_map F g h e bs) ∙ sym (map-append h (F b) (joined F bs))

-- ---- cut bands, cones and blocks

module _ {A : Type 0} (h : ℕ) (z : A) where
  abbrev pub cut : (ℕ → A) → ℕ → A
  cut f i = cond (ltb i h) (f i) z

  pub cut_ext : {f g : ℕ → A} → ((i : ℕ) → i < h → f i ≡ g i) → cut f ≡ cut g
  cut_ext {f} {g} e = fun_ext (λ i. go i (ltb i h) refl)
    where
      go : (i : ℕ) (t : Bool) → ltb i h ≡ t → cond t (f i) z ≡ cond t (g i) z
      go i true q = e i (ltb-true i h q)
      go i false q = refl

  -- a list that reads below the height reads the same
  list_cut : {B : Type 0} (F : ℕ → A → B) (f : ℕ → A) → list (λ i. F i (cut f i)) 0 h ≡ list (λ i. F i (f i)) 0 h
  list_cut F f = alike_equal (list_alike _ _ 0 h (λ i a b. simp (lt-ltb i h (omega arith))))

abbrev pub none : Cell
none = cell 0 nan

unfoldable pub cut_band : Band → Band
cut_band b = band b.height (cut b.height nan b.right) (map (cut b.height none) b.columns)

unfoldable pub cut_cone : Cone → Cone
cut_cone c = cone c.kind (map cut_band c.bands)

unfoldable pub cut_block : Block → Block
cut_block b = record { cones = map cut_cone b.cones; cost = b.cost; charges = b.charges }

columns_cut : (r h : ℕ) (fs : List (ℕ → Cell)) → joined (λ f. list (λ i. entry (r + i) (f i)) 0 h) (map (cut h none) fs) ≡ joined (λ f. list (λ i. entry (r + i) (f i)) 0 h) fs
columns_cut r h [] = refl
columns_cut r h (f ∷ fs) = ap₂ ◌++◌ (list_cut h none (λ i. entry (r + i)) f) (columns_cut r h fs)

pub entries_cut : (r : ℕ) (bs : List Band) → entries_from r (map cut_band bs) ≡ entries_from r bs
unfolding cut_band
entries_cut r [] = refl
entries_cut r (b ∷ bs) = ap₂ ◌++◌ (columns_cut r b.height b.columns) (entries_cut (r + b.height) bs)

pub right_cut : (bs : List Band) → right_sides (map cut_band bs) ≡ right_sides bs
unfolding cut_band
right_cut [] = refl
right_cut (b ∷ bs) = ap₂ ◌++◌ (list_cut b.height nan (λ i x. x) b.right) (right_cut bs)

heights_cut : (bs : List Band) → sum (λ b. b.height) (map cut_band bs) ≡ sum (λ b. b.height) bs
unfolding cut_band
heights_cut [] = refl
heights_cut (b ∷ bs) = ap (λ (x : ℕ). b.height + x) (heights_cut bs)

pub kinds_cut : (cs : List Cone) → map (λ c. c.kind) (map cut_cone cs) ≡ map (λ c. c.kind) cs
unfolding cut_cone
kinds_cut cs = map-map _ _ cs

pub dimensions_cut : (cs : List Cone) → map dimension (map cut_cone cs) ≡ map dimension cs
unfolding cut_cone
dimensions_cut [] = refl
dimensions_cut (c ∷ cs) = ap₂ ◌∷◌ (heights_cut c.bands) (dimensions_cut cs)

bands_cut : (cs : List Cone) → joined (λ c. c.bands) (map cut_cone cs) ≡ map cut_band (joined (λ c. c.bands) cs)
unfolding cut_cone
bands_cut = joined_map (λ c. c.bands) cut_cone cut_band (λ c. refl)

cones_cut : (bs : List Block) → joined (λ b. b.cones) (map cut_block bs) ≡ map cut_cone (joined (λ b. b.cones) bs)
unfolding cut_block
cones_cut = joined_map (λ b. b.cones) cut_block cut_cone (λ b. refl)

pub cost_cut : (q : List Float) (bs : List Block) → cost_after q (map cut_block bs) ≡ cost_after q bs
unfolding cut_block
cost_cut q [] = refl
cost_cut q (b ∷ bs) = cost_cut (charged q b.charges ++ b.cost) bs

size_cut : (b : Block) → size_of (cut_block b) ≡ size_of b
unfolding size_of cut_block
size_cut b =
    let e = bands_cut b.cones in
    same_counts (ap (λ bs. length (entries_from 0 bs)) e ∙ ap length (entries_cut 0 (block_bands b))) (ap (λ bs. length (right_sides bs)) e ∙ ap length (right_cut (block_bands b)))
    (length-map b.cones cut_cone) refl

pub owners_cut : (t : FourCounts) (bs : List Block) → owners_from t (map cut_block bs) ≡ owners_from t bs
owners_cut t [] = refl
owners_cut t (b ∷ bs) = rw size_cut (ap (λ os. record { first = t; size = size_of b } ∷ os) (owners_cut (t plus size_of b) bs))

-- ---- so what is assembled of cut blocks is assembled of the blocks

abbrev cones_of : List Block → List Cone
cones_of = joined (λ b. b.cones)

pub cones_alike : {bs bs' : List Block} → Alike cut_block bs bs' → Alike cut_cone (cones_of bs) (cones_of bs')
cones_alike {bs} {bs'} e = record { same = sym (cones_cut bs) ∙ ap cones_of e.same ∙ cones_cut bs' }

pub bands_alike : {cs cs' : List Cone} → Alike cut_cone cs cs' → Alike cut_band (joined (λ c. c.bands) cs) (joined (λ c. c.bands) cs')
bands_alike {cs} {cs'} e = record { same = sym (bands_cut cs) ∙ ap (joined (λ c. c.bands)) e.same ∙ bands_cut cs' }
