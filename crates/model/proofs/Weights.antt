-- The Time weight of one station, worked out from the grid, is the element of module 1's list.
use Prim.Native.Nat.{ℕ, zero, suc, ◌+◌, ◌-◌, ◌≤◌, ◌<◌}
use native.Mathlib.Decide.{ℕ_discrete, dec_lt}
use native.Mathlib.Omega.{arith}
use mathlib.Core.Path.{◌≡◌, refl, sym, ap, ◌∙◌, subst}
use mathlib.Core.Logic.{◌≢◌}
use mathlib.Core.Bool.{Bool, true, false, cond, ◌&&◌, and-true, and-false}
use mathlib.Core.List.{List, [], ◌∷◌}
use lib.ListN.{length, get_or, set, replicate, length-set, length-replicate, get_or-replicate}
use lib.Seq.{sets, length-sets, get_or-set_same, get_or-set_other}
use lib.Dec.{ltb, eqb}
use lib.Ieee.{Float, nan}
use borrow.Author.Tests.{lt-ltb, le-ltb, eq-eqb, ne_eqb}
use Rattle.model.specs.Numbers.{at, ◌⊕◌, ◌⊖◌, ◌⊗◌, +0, +5, +6, half}
use Rattle.model.specs.Lists.{list}
use Rattle.model.specs.Problem.{Path, n, m, s, stop}
use Rattle.model.specs.Objectives.{time_weights}
use Rattle.model.proofs.Sizes.{Sizes}

module _ {A : Type 0} (d : A) where
  -- after one store, made or not
  get_d_maybe : (b : Bool) (l : List A) (i k : ℕ) (v : A) → i < length l → get_or (cond b (set l i v) l) k d ≡ cond (b && eqb k i) v (get_or l k d)
  get_d_maybe false l i k v h = refl
  get_d_maybe true l i k v h = go (ℕ_discrete k i)
    where
      go : Dec (k ≡ i) → get_or (set l i v) k d ≡ cond (eqb k i) v (get_or l k d)
      go (yes e) = simp (eq-eqb k i e) (ap (λ (j : ℕ). get_or (set l i v) j d) e ∙ get_or-set_same l i v d h)
      go (no e) = simp (ne_eqb k i e) (get_or-set_other l i k v d e)

  -- after stores from i on: an element before them, behind them, and among them
  before_sets : (vs l : List A) (i k : ℕ) → k < i → get_or (sets l i vs) k d ≡ get_or l k d
  before_sets [] l i k h = refl
  before_sets (v ∷ vs) l i k h = before_sets vs (set l i v) (suc i) k (omega arith) ∙ get_or-set_other l i k v d (omega arith)

  behind_sets : (f : ℕ → A) (l : List A) (i c k : ℕ) → i + c ≤ k → get_or (sets l i (list f i c)) k d ≡ get_or l k d
  behind_sets f l i zero k h = refl
  behind_sets f l i (suc c) k h = behind_sets f (set l i (f i)) (suc i) c k (omega arith) ∙ get_or-set_other l i k (f i) d (omega arith)

  among_sets : (f : ℕ → A) (l : List A) (i c k : ℕ) → i ≤ k → k < i + c → i + c ≤ length l → get_or (sets l i (list f i c)) k d ≡ f k
  among_sets f l i zero k a b h = absurd (omega arith)
  among_sets f l i (suc c) k a b h = go (λ x. among_sets f (set l i (f i)) (suc i) c k x (omega arith) (omega (arith, length-set l i (f i)))) (ℕ_discrete i k)
    where
      go : (suc i ≤ k → get_or (sets (set l i (f i)) (suc i) (list f (suc i) c)) k d ≡ f k) → Dec (i ≡ k) → get_or (sets (set l i (f i)) (suc i) (list f (suc i) c)) k d ≡ f k
      go t (yes e) =
          before_sets (list f (suc i) c) (set l i (f i)) (suc i) k (omega arith)
          ∙ ap (λ (j : ℕ). get_or (set l i (f i)) j d) (sym e) ∙ get_or-set_same l i (f i) d (omega arith) ∙ ap f e
      go t (no e) = t (omega arith)

  length_maybe : (b : Bool) (l : List A) (i : ℕ) (v : A) → length (cond b (set l i v) l) ≡ length l
  length_maybe false l i v = refl
  length_maybe true l i v = length-set l i v

module _ (q : Path) where
  -- how the code works out the weight of station k
  unfoldable pub time_weight : ℕ → Float
  time_weight k =
      cond (ltb 0 q.N0 && eqb k q.N0) (half ⊗ (+5 ⊗ s q k ⊕ s q (k + 1) ⊖ +6 ⊗ s q 0))
      (cond (ltb 0 q.N1 && eqb k (stop q)) (half ⊗ (+6 ⊗ s q (n q) ⊖ +5 ⊗ s q k ⊖ s q (k - 1)))
      (cond (ltb q.N0 k && ltb k (stop q)) (half ⊗ (s q (k + 1) ⊖ s q (k - 1))) +0))

  -- the list before the moving stations' stores
  abbrev at_start : Float
  at_start = half ⊗ (+5 ⊗ s q q.N0 ⊕ s q (q.N0 + 1) ⊖ +6 ⊗ s q 0)

  abbrev at_end : Float
  at_end = half ⊗ (+6 ⊗ s q (n q) ⊖ +5 ⊗ s q (stop q) ⊖ s q (stop q - 1))

  abbrev start : List Float
  start = cond (ltb 0 q.N0) (set (replicate (n q + 1) +0) q.N0 at_start) (replicate (n q + 1) +0)

  abbrev both : List Float
  both = cond (ltb 0 q.N1) (set start (stop q) at_end) start

module _ (q : Path) (l : Sizes q) where
  start_length : length (start q) ≡ n q + 1
  start_length = length_maybe nan (ltb 0 q.N0) (replicate (n q + 1) +0) q.N0 (at_start q) ∙ length-replicate (n q + 1) +0

  both_length : length (both q) ≡ n q + 1
  both_length = length_maybe nan (ltb 0 q.N1) (start q) (stop q) (at_end q) ∙ start_length

  both_at : (k : ℕ) → k ≤ n q → at (both q) k ≡ cond (ltb 0 q.N1 && eqb k (stop q)) (at_end q) (cond (ltb 0 q.N0 && eqb k q.N0) (at_start q) +0)
  both_at k h =
      get_d_maybe nan (ltb 0 q.N1) (start q) (stop q) k (at_end q) (omega (arith, start_length))
      ∙ ap (λ (x : Float). cond (ltb 0 q.N1 && eqb k (stop q)) (at_end q) x)
      (get_d_maybe nan (ltb 0 q.N0) (replicate (n q + 1) +0) q.N0 k (at_start q) (omega (arith, length-replicate (n q + 1) +0))
      ∙ ap (λ (x : Float). cond (ltb 0 q.N0 && eqb k q.N0) (at_start q) x) (get_or-replicate (n q + 1) k +0 nan (omega arith)))

  pub weights_long : length (time_weights q) ≡ n q + 1
  unfolding time_weights
  weights_long = length-sets (both q) (q.N0 + 1) (list _ (q.N0 + 1) (m q - 1)) ∙ both_length

  -- a station that does not move within: module 1's list holds what the ends' stores left
  outside_at : (k : ℕ) → k ≤ n q → (q.N0 < k → stop q ≤ k) → at (time_weights q) k ≡ at (both q) k
  unfolding time_weights
  outside_at k h o = go (dec_lt q.N0 k)
    where
      go : Dec (q.N0 < k) → at (time_weights q) k ≡ at (both q) k
      go (yes y) = behind_sets nan _ (both q) (q.N0 + 1) (m q - 1) k (let x = o y in omega arith)
      go (no y) = before_sets nan (list _ (q.N0 + 1) (m q - 1)) (both q) (q.N0 + 1) k (omega arith)

  at_start_lem : at (time_weights q) q.N0 ≡ time_weight q q.N0
  unfolding time_weight
  at_start_lem =
      outside_at q.N0 (omega arith) (λ x. absurd (omega arith)) ∙ both_at q.N0 (omega arith)
      ∙ simp (eq-eqb q.N0 q.N0 refl, ne_eqb q.N0 (stop q) (omega arith), le-ltb q.N0 q.N0 (omega arith), and-true, and-false)

  at_end_lem : at (time_weights q) (stop q) ≡ time_weight q (stop q)
  unfolding time_weight
  at_end_lem =
      outside_at (stop q) (omega arith) (λ x. omega arith) ∙ both_at (stop q) (omega arith)
      ∙ simp (eq-eqb (stop q) (stop q) refl, ne_eqb (stop q) q.N0 (omega arith), le-ltb (stop q) (stop q) (omega arith), and-true, and-false)

  between : (k : ℕ) → q.N0 < k → k < stop q → at (time_weights q) k ≡ time_weight q k
  unfolding time_weight time_weights
  between k a b =
      among_sets nan _ (both q) (q.N0 + 1) (m q - 1) k (omega arith) (omega arith) (omega (arith, both_length))
      ∙ sym (simp (ne_eqb k q.N0 (omega arith), ne_eqb k (stop q) (omega arith), lt-ltb q.N0 k a, lt-ltb k (stop q) b, and-false))

  resting : (k : ℕ) → k ≤ n q → k ≢ q.N0 → k ≢ stop q → (q.N0 < k → stop q ≤ k) → at (time_weights q) k ≡ time_weight q k
  unfolding time_weight
  resting k h a b o = outside_at k h o ∙ both_at k h ∙ simp (ne_eqb k q.N0 a, ne_eqb k (stop q) b, and-false) (sym (go (dec_lt q.N0 k)))
    where
      go : Dec (q.N0 < k) → cond (ltb q.N0 k && ltb k (stop q)) (half ⊗ (s q (k + 1) ⊖ s q (k - 1))) +0 ≡ +0
      go (yes y) = simp (le-ltb k (stop q) (o y), and-false)
      go (no y) = simp (le-ltb q.N0 k (omega arith))

  -- at every station
  pub weight_at : (k : ℕ) → k ≤ n q → at (time_weights q) k ≡ time_weight q k
  weight_at k h = go (ℕ_discrete q.N0 k) (ℕ_discrete (stop q) k) (dec_lt q.N0 k) (dec_lt k (stop q))
    where
      go : Dec (q.N0 ≡ k) → Dec (stop q ≡ k) → Dec (q.N0 < k) → Dec (k < stop q) → at (time_weights q) k ≡ time_weight q k
      go (yes e) f a b = subst (λ (j : ℕ). at (time_weights q) j ≡ time_weight q j) e at_start_lem
      go (no e) (yes f) a b = subst (λ (j : ℕ). at (time_weights q) j ≡ time_weight q j) f at_end_lem
      go (no e) (no f) (yes a) (yes b) = between k a b
      go (no e) (no f) (yes a) (no b) = resting k h (omega arith) (omega arith) (λ _. omega arith)
      go (no e) (no f) (no a) b = resting k h (omega arith) (omega arith) (λ x. absurd (a x))
