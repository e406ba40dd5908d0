-- What feasibility of the assembled program says, cone by cone: the slacks of a cone's own rows lie in it. Rows of different bands do not meet.
use Prim.Native.Nat.{ℕ, zero, suc, ◌+◌, ◌-◌, ◌≤◌, ◌<◌}
use native.Mathlib.Nat.{add-zero, not-suc-le-zero}
use native.Mathlib.Decide.{dec_lt, ℕ_discrete}
use native.Mathlib.Omega.{arith}
use mathlib.Core.Path.{◌≡◌, refl, sym, ap, ap₂, ◌∙◌, subst, fun_ext}
use mathlib.Core.Logic.{◌↔◌, ◌≢◌}
use mathlib.Core.Bool.{Bool, true, false, cond, ◌&&◌}
use mathlib.Core.List.{List, [], ◌∷◌, ◌++◌, map, append_assoc}
use lib.ListN.{length, get_or, length-append, get_or-append}
use lib.Seq.{get_or-append-add, ext_get_or}
use lib.Dec.{eqb}
use lib.IntN.{ℤ, pos, ◌+ℤ◌, ◌-ℤ◌, ◌*ℤ◌, +ℤ_idl, +ℤ_idr, +ℤ_assoc, zero-*ℤ}
use lib.Ieee.{Float}
use borrow.Author.Tests.{eq-eqb, ne_eqb}
use Rattle.model.specs.Numbers.{at}
use Rattle.model.specs.Lists.{list, joined, sum}
use Rattle.model.specs.Problem.{Problem}
use Rattle.model.specs.Program.{Cell, Band, Cone, Entry, entry, dimension, band_entries, entries_from, right_sides}
use Rattle.model.specs.Assembled.{cones, bands, entries, right_side, cost, cone_kinds, cone_dimensions}
use Rattle.model.specs.Conic.{units, sum_to, coefficient, times, slack, InCone, InProduct, Feasible}
use Rattle.model.proofs.All.{All, all_append, all_list, all_imp}
use Rattle.model.proofs.Sums.{length_list, sum_joined}
use Rattle.model.proofs.Shape.{heights, Inside, entries_inside}
use Rattle.model.proofs.Integers.{as_diff, add_mul, add_sub}
use Rattle.model.proofs.SumTo.{sum_to_plus, sum_to_none, sum_to_one}
use Rattle.model.proofs.Sizes.{Sizes}
use Rattle.model.proofs.Whole.{bands_sound}

-- row i of a band times z, and its slack
abbrev pub row_times : (ℕ → ℤ) → List (ℕ → Cell) → ℕ → ℤ
row_times z [] i = pos 0
row_times z (f ∷ fs) i = units (f i).value *ℤ z (f i).column +ℤ row_times z fs i

unfoldable pub row_slack : ℕ → (ℕ → ℤ) → Band → ℕ → ℤ
row_slack D z b i = units (b.right i) *ℤ pos D -ℤ row_times z b.columns i

-- the slacks of bands one below the other, and a cone that holds its own
abbrev pub slacks : ℕ → (ℕ → ℤ) → List Band → List ℤ
slacks D z = joined (λ b. list (row_slack D z b) 0 b.height)

abbrev pub Holds : ℕ → (ℕ → ℤ) → Cone → Type 0
Holds D z c = InCone c.kind (slacks D z c.bands)

module _ (z : ℕ → ℤ) where
  times_append : (es fs : List Entry) (r : ℕ) → times z (es ++ fs) r ≡ times z es r +ℤ times z fs r
  times_append [] fs r = sym (+ℤ_idl (times z fs r))
  times_append (e ∷ es) fs r =
      let x = cond (eqb e.row r) (units e.value *ℤ z e.column) (pos 0) in
      ap (λ (y : ℤ). x +ℤ y) (times_append es fs r) ∙ sym (+ℤ_assoc x (times z es r) (times z fs r))

  -- entries of other rows do not count
  times_none : (es : List Entry) (r : ℕ) → All (λ e. e.row ≢ r) es → times z es r ≡ pos 0
  times_none [] r h = refl
  times_none (e ∷ es) r h = simp (ne_eqb e.row r h.0, times_none es r h.1)

  -- one column of a band, from row k on
  times_column : (f : ℕ → Cell) (r k c i : ℕ) → k ≤ i → i < k + c
      → times z (list (λ j. entry (r + j) (f j)) k c) (r + i) ≡ units (f i).value *ℤ z (f i).column
  times_column f r k zero i a b = absurd (omega arith)
  times_column f r k (suc c) i a b = go (λ x. times_column f r (suc k) c i x (omega arith)) (ℕ_discrete k i)
    where
      go : (suc k ≤ i → times z (list (λ j. entry (r + j) (f j)) (suc k) c) (r + i) ≡ units (f i).value *ℤ z (f i).column) → Dec (k ≡ i)
          → times z (list (λ j. entry (r + j) (f j)) k (suc c)) (r + i) ≡ units (f i).value *ℤ z (f i).column
      go t (yes e) =
          simp (eq-eqb (r + k) (r + i) (omega arith), times_none (list (λ j. entry (r + j) (f j)) (suc k) c) (r + i) ((all_list (λ e. e.row ≢ r + i) _ (suc k) c).1 (λ j x y. omega arith)), +ℤ_idr)
          (ap (λ (j : ℕ). units (f j).value *ℤ z (f j).column) e)
      go t (no e) = simp (ne_eqb (r + k) (r + i) (omega arith), +ℤ_idl) (t (omega arith))

  times_columns : (fs : List (ℕ → Cell)) (h r i : ℕ) → i < h → times z (joined (λ f. list (λ j. entry (r + j) (f j)) 0 h) fs) (r + i) ≡ row_times z fs i
  times_columns [] h r i a = refl
  times_columns (f ∷ fs) h r i a =
      times_append (list (λ j. entry (r + j) (f j)) 0 h) (joined (λ f. list (λ j. entry (r + j) (f j)) 0 h) fs) (r + i)
      ∙ ap₂ ◌+ℤ◌ (times_column f r 0 h i (omega arith) (omega arith)) (times_columns fs h r i a)

-- the rows that bands name
columns_rows : (fs : List (ℕ → Cell)) (h r : ℕ) → All (λ (e : Entry). (r ≤ e.row) × (e.row < r + h)) (joined (λ f. list (λ j. entry (r + j) (f j)) 0 h) fs)
columns_rows [] h r = tt
columns_rows (f ∷ fs) h r =
    simp (all_append (λ (e : Entry). (r ≤ e.row) × (e.row < r + h)), all_list (λ (e : Entry). (r ≤ e.row) × (e.row < r + h))) ((λ j x y. omega arith), columns_rows fs h r)

entries_rows : (bs : List Band) (r : ℕ) → All (λ e. r ≤ e.row) (entries_from r bs)
entries_rows [] r = tt
entries_rows (b ∷ bs) r =
    simp (all_append (λ (e : Entry). r ≤ e.row)) (
      all_imp (λ e. (r ≤ e.row) × (e.row < r + b.height)) (λ e. r ≤ e.row) (band_entries r b) (λ e h. h.0) (columns_rows b.columns b.height r),
      all_imp (λ e. r + b.height ≤ e.row) (λ e. r ≤ e.row) (entries_from (r + b.height) bs) (λ e h. omega arith) (entries_rows bs (r + b.height)),
    )

pub get_d_list : {A : Type 0} (f : ℕ → A) (k c i : ℕ) (d : A) → i < c → get_or (list f k c) i d ≡ f (k + i)
get_d_list f k zero i d h = absurd (not-suc-le-zero h)
get_d_list f k (suc c) zero d h = ap f (sym (add-zero k))
get_d_list f k (suc c) (suc i) d h = get_d_list f (suc k) c i d (omega arith) ∙ ap f (omega arith)

-- an element of two lists, the first of them made by `list`
get_d_first : {A : Type 0} (f : ℕ → A) (c i : ℕ) (ys : List A) (d : A) → i < c → get_or (list f 0 c ++ ys) i d ≡ f i
get_d_first f c i ys d h = get_or-append (list f 0 c) ys d i (omega (arith, length_list f 0 c)) ∙ get_d_list f 0 c i d h ∙ ap f (omega arith)

get_d_second : {A : Type 0} (f : ℕ → A) (c j : ℕ) (ys : List A) (d : A) → get_or (list f 0 c ++ ys) (c + j) d ≡ get_or ys j d
get_d_second f c j ys d = ap (λ (k : ℕ). get_or (list f 0 c ++ ys) (k + j) d) (sym (length_list f 0 c)) ∙ get_or-append-add (list f 0 c) ys j d

module _ (D : ℕ) (z : ℕ → ℤ) where
  -- the slack of row r + i of the entries of some bands
  abbrev slack_from : ℕ → List Band → ℕ → ℤ
  slack_from r bs i = units (at (right_sides bs) i) *ℤ pos D -ℤ times z (entries_from r bs) (r + i)

  slack_first : (b : Band) (bs : List Band) (r i : ℕ) → i < b.height → slack_from r (b ∷ bs) i ≡ row_slack D z b i
  unfolding row_slack
  slack_first b bs r i h =
      let others = all_imp (λ e. r + b.height ≤ e.row) (λ e. e.row ≢ r + i) (entries_from (r + b.height) bs) (λ e x. omega arith) (entries_rows bs (r + b.height)) in
      ap₂ (λ (x : Float) (y : ℤ). units x *ℤ pos D -ℤ y) (get_d_first b.right b.height i (right_sides bs) _ h)
      (times_append z (band_entries r b) (entries_from (r + b.height) bs) (r + i)
      ∙ ap₂ ◌+ℤ◌ (times_columns z b.columns b.height r i h) (times_none z (entries_from (r + b.height) bs) (r + i) others) ∙ +ℤ_idr (row_times z b.columns i))

  slack_later : (b : Band) (bs : List Band) (r j : ℕ) → slack_from r (b ∷ bs) (b.height + j) ≡ slack_from (r + b.height) bs j
  slack_later b bs r j =
      let others = all_imp (λ e. (r ≤ e.row) × (e.row < r + b.height)) (λ e. e.row ≢ r + (b.height + j)) (band_entries r b) (λ e x. omega arith) (columns_rows b.columns b.height r) in
      let move : times z (entries_from (r + b.height) bs) (r + (b.height + j)) ≡ times z (entries_from (r + b.height) bs) (r + b.height + j) = ap (times z (entries_from (r + b.height) bs)) (omega arith) in
      ap₂ (λ (x : Float) (y : ℤ). units x *ℤ pos D -ℤ y) (get_d_second b.right b.height j (right_sides bs) _)
      (times_append z (band_entries r b) (entries_from (r + b.height) bs) (r + (b.height + j))
      ∙ ap₂ ◌+ℤ◌ (times_none z (band_entries r b) (r + (b.height + j)) others) move ∙ +ℤ_idl (times z (entries_from (r + b.height) bs) (r + b.height + j)))

  pub slack_at : (bs : List Band) (r i : ℕ) → i < heights bs → slack_from r bs i ≡ get_or (slacks D z bs) i (pos 0)
  slack_at [] r i h = absurd (not-suc-le-zero h)
  slack_at (b ∷ bs) r i h = go (slack_at bs (r + b.height) (i - b.height)) (dec_lt i b.height)
    where
      go : (i - b.height < heights bs → slack_from (r + b.height) bs (i - b.height) ≡ get_or (slacks D z bs) (i - b.height) (pos 0)) → Dec (i < b.height)
          → slack_from r (b ∷ bs) i ≡ get_or (slacks D z (b ∷ bs)) i (pos 0)
      go f (yes y) = slack_first b bs r i y ∙ sym (get_d_first (row_slack D z b) b.height i (slacks D z bs) _ y)
      go f (no y) =
          ap (slack_from r (b ∷ bs)) (omega arith) ∙ slack_later b bs r (i - b.height) ∙ f (omega arith)
          ∙ sym (get_d_second (row_slack D z b) b.height (i - b.height) (slacks D z bs) _) ∙ ap (λ (k : ℕ). get_or (slacks D z (b ∷ bs)) k (pos 0)) (omega arith)

  slacks_length : (bs : List Band) → length (slacks D z bs) ≡ heights bs
  slacks_length [] = refl
  slacks_length (b ∷ bs) = length-append (list (row_slack D z b) 0 b.height) (slacks D z bs) ∙ ap₂ ◌+◌ (length_list (row_slack D z b) 0 b.height) (slacks_length bs)

  pub slacks_append : (bs cs : List Band) → slacks D z (bs ++ cs) ≡ slacks D z bs ++ slacks D z cs
  slacks_append [] cs = refl
  slacks_append (b ∷ bs) cs = ap (λ (l : List ℤ). list (row_slack D z b) 0 b.height ++ l) (slacks_append bs cs) ∙ sym (append_assoc (list (row_slack D z b) 0 b.height) (slacks D z bs) (slacks D z cs))

  -- slacks s from row r on that are those of the cones' bands lie in the product exactly if each cone holds
  product_holds : (s : ℕ → ℤ) (cs : List Cone) (r : ℕ) → ((i : ℕ) → i < sum dimension cs → s (r + i) ≡ get_or (slacks D z (joined (λ c. c.bands) cs)) i (pos 0))
      → InProduct (map (λ c. c.kind) cs) (map dimension cs) s r ↔ All (Holds D z) cs
  product_holds s [] r e = (λ h. h, λ h. h)
  product_holds s (c ∷ cs) r e =
      let d = dimension c in
      let bs = c.bands in
      let rest = joined (λ (k : Cone). k.bands) cs in
      let long : length (slacks D z bs) ≡ d = slacks_length bs in
      let here : list s r d ≡ slacks D z bs =
      ext_get_or (pos 0) (list s r d) (slacks D z bs) (length_list s r d ∙ sym long)
      (λ i h. get_d_list s r d i (pos 0) (omega (arith, length_list s r d)) ∙ e i (omega (arith, length_list s r d)) ∙ ap (λ (l : List ℤ). get_or l i (pos 0)) (slacks_append bs rest)
      ∙ get_or-append (slacks D z bs) (slacks D z rest) (pos 0) i (omega (arith, length_list s r d))) in
      let later = product_holds s cs (r + d) (λ i h. ap s (omega arith) ∙ e (d + i) (omega arith) ∙ ap (λ (l : List ℤ). get_or l (d + i) (pos 0)) (slacks_append bs rest)
      ∙ ap (λ (k : ℕ). get_or (slacks D z bs ++ slacks D z rest) (k + i) (pos 0)) (sym long) ∙ get_or-append-add (slacks D z bs) (slacks D z rest) i (pos 0)) in
      (λ h. (subst (InCone c.kind) here h.0, later.0 h.1), λ h. (subst (InCone c.kind) (sym here) h.0, later.1 h.1))

  -- "a point is feasible for what was assembled": each cone holds the slacks of its own rows
  pub feasible_cones : (p : Problem) → Feasible p D z ↔ ((0 < D) × All (Holds D z) (cones p))
  unfolding Feasible cone_kinds cone_dimensions entries right_side bands slack
  feasible_cones p =
      let product =
      product_holds (slack D z (entries p) (right_side p)) (cones p) 0
      (λ i h. ap (λ (k : ℕ). slack D z (entries p) (right_side p) k) (omega arith) ∙ ap (λ (k : ℕ). units (at (right_side p) i) *ℤ pos D -ℤ times z (entries p) k) (omega arith)
      ∙ slack_at (bands p) 0 i (omega (arith, sum_joined (λ b. b.height) (λ c. c.bands) (cones p)))) in
      ((λ h. (h.0, product.0 h.1)), λ h. (h.0, product.1 h.1))

-- ---- the slack by the matrix's coefficients: A's row r times z

module _ (z : ℕ → ℤ) where
  -- one entry
  entry_matrix : (v : ℤ) (k C : ℕ) (b : Bool) → k < C → sum_to (λ c. cond (b && eqb k c) v (pos 0) *ℤ z c) C ≡ cond b (v *ℤ z k) (pos 0)
  entry_matrix v k C false h = sum_to_none (λ c. pos 0 *ℤ z c) C (λ c a. zero-*ℤ (z c))
  entry_matrix v k C true h =
      sum_to_one (λ c. cond (eqb k c) v (pos 0) *ℤ z c) k C h (λ c e. simp (ne_eqb k c e, zero-*ℤ)) ∙ simp (eq-eqb k k refl)

  pub by_matrix : (es : List Entry) (r C : ℕ) → All (λ e. e.column < C) es → sum_to (λ c. coefficient es r c *ℤ z c) C ≡ times z es r
  by_matrix [] r C h = sum_to_none (λ c. pos 0 *ℤ z c) C (λ c a. zero-*ℤ (z c))
  by_matrix (e ∷ es) r C h =
      let here : ℕ → ℤ = λ c. cond (eqb e.row r && eqb e.column c) (units e.value) (pos 0) in
      ap (λ (f : ℕ → ℤ). sum_to f C) (fun_ext (λ c. add_mul (as_diff (here c)) (as_diff (coefficient es r c)) (as_diff (z c))))
      ∙ sum_to_plus (λ c. here c *ℤ z c) (λ c. coefficient es r c *ℤ z c) C
      ∙ ap₂ ◌+ℤ◌ (entry_matrix (units e.value) e.column C (eqb e.row r) h.0) (by_matrix es r C h.1)

  -- of an accepted problem: A z + slack = right side
  pub matrix_form : (D : ℕ) (p : Problem) → Sizes p.path → (r : ℕ)
      → sum_to (λ c. coefficient (entries p) r c *ℤ z c) (length (cost p)) +ℤ slack D z (entries p) (right_side p) r ≡ units (at (right_side p) r) *ℤ pos D
  unfolding slack
  matrix_form D p l r =
      ap (λ (x : ℤ). x +ℤ (units (at (right_side p) r) *ℤ pos D -ℤ times z (entries p) r)) (by_matrix (entries p) r (length (cost p)) columns)
      ∙ add_sub (as_diff (times z (entries p) r)) (as_diff (units (at (right_side p) r) *ℤ pos D))
    where
      columns : All (λ e. e.column < length (cost p)) (entries p)
      columns = all_imp (Inside 0 (0 + heights (bands p)) (length (cost p))) (λ e. e.column < length (cost p)) (entries p) (λ e i. i.column) (unfold entries in entries_inside 0 (length (cost p)) (bands p) (bands_sound p l))
