-- What a Time objective's cost bounds: eta is at least 1/xi, so the cost is at least the sum of its weights over xi, the travel time over the grid.
-- With a common multiple k of the X, k = M j·X j, 1/xi number j is D·M j/k, and the bound is one inequality of whole numbers.
use Prim.Native.Nat.{ℕ, zero, suc, ◌+◌, ◌-◌, ◌*◌, ◌≤◌, ◌<◌}
use native.Mathlib.Nat.{mul-le-mul_left, mul-pos, not-suc-le-zero}
use native.Mathlib.Decide.{dec_lt}
use native.Mathlib.Omega.{arith}
use mathlib.Core.Path.{◌≡◌, sym, ap, ◌∙◌, subst, subst₂}
use mathlib.Core.Bool.{cond}
use lib.Dec.{ltb}
use borrow.Author.Tests.{lt-ltb, le-ltb}
use lib.IntN.{ℤ, pos, ◌+ℤ◌, ◌*ℤ◌, *ℤ_comm, *ℤ-zero, nat_abs}
use lib.Signed.{yes_non_neg, pos-nat_abs}
use lib.Ieee.{Float}
use Rattle.model.specs.Numbers.{at, ◌⊗◌}
use Rattle.model.specs.Problem.{Problem, Path, L, skip}
use Rattle.model.specs.Objectives.{time_weights}
use Rattle.model.specs.Conic.{units, sum_to}
use Rattle.model.specs.declared.Objective.TheVariants.{Time}
use Rattle.model.proofs.Integers.{AsDiff, is, as_diff, natural, differences, times_past, times_assoc}
use Rattle.model.specs.Meaning.{◌≼◌, ◌·◌, xi, TimeMeaning, objective_cost}
use Rattle.model.proofs.SumTo.{sum_to_ext, sum_to_le, sum_to_times}

-- ---- laws of whole numbers

mono : (u : ℕ) {x y : ℤ} → AsDiff x → AsDiff y → x ≼ y → pos u *ℤ x ≼ pos u *ℤ y
mono u (is a b) (is c d) = simp differences (λ e. omega (arith, mul-le-mul_left {m = a + d} {n = c + b} u e))

mono_of : (c x y : ℤ) → pos 0 ≼ c → x ≼ y → c *ℤ x ≼ c *ℤ y
mono_of c x y h e = subst (λ (v : ℤ). v *ℤ x ≼ v *ℤ y) (pos-nat_abs c (yes_non_neg h)) (mono (nat_abs c) (as_diff x) (as_diff y) e)

-- a product that is not below D², of two numbers whose sum is not negative: both are above zero
above : (D : ℕ) → 0 < D → {x e : ℤ} → AsDiff x → AsDiff e → pos 0 ≼ x +ℤ e → pos D *ℤ pos D ≼ x *ℤ e → pos 1 ≼ x
above D d (is a b) (is c f) = simp differences (λ s h. let r = go (dec_lt b a) (omega arith) (omega arith) in omega arith)
  where
    never : (a f u v : ℕ) → 0 < D * D → D * D + (a * f + (a + u) * (f + u + v)) ≤ a * (f + u + v) + (a + u) * f → ⊥
    never a f u v p h = omega arith

    go : Dec (b < a) → b + f ≤ a + c → D * D + (a * f + b * c) ≤ a * c + b * f → 1 + b ≤ a
    go (yes y) s h = omega arith
    go (no y) s h =
        let u : b ≡ a + (b - a) = omega arith in
        let v : c ≡ f + (b - a) + (c - f - (b - a)) = omega arith in
        absurd (never a f (b - a) (c - f - (b - a)) (mul-pos d d) (subst₂ (λ (x y : ℕ). D * D + (a * f + x * y) ≤ a * y + x * f) u v h))

one_least : {x : ℤ} → AsDiff x → pos 1 ≼ x → pos 0 ≼ x
one_least (is _ _) = simp differences (λ h. omega arith)

one_above_nat : (x : ℕ) → pos 1 ≼ pos x → 0 < x
one_above_nat x = simp differences (λ h. omega arith)

-- ---- a common multiple of X 0, X 1, .., c numbers

pub record Multiple (X : ℕ → ℤ) (c : ℕ) : Type 0 where
  pub k : ℕ
  pub M : ℕ → ℤ
  pub positive : 0 < k
  pub least : (j : ℕ) → j < c → pos 0 ≼ M j
  pub share : (j : ℕ) → j < c → M j *ℤ X j ≡ pos k

-- ---- the travel time

-- what a unit of eta number j costs
abbrev pub weight_of : Problem → Float → ℕ → Float
weight_of p w j = w ⊗ at (time_weights p.path) (skip p.path + j)

-- the travel time over the grid, in units of 2^−1074 over k·D: the sum of the weights, each times D²·M j
abbrev pub travel : Problem → ℕ → Float → (ℕ → ℤ) → ℤ
travel p D w M = sum_to (λ j. weight_of p w j · (pos D *ℤ pos D *ℤ M j)) (L p.path)

module _ (p : Problem) (D : ℕ) (z : ℕ → ℤ) (w : Float) (c : ℕ) (h : TimeMeaning p D z c) where
  abbrev q : Path
  q = p.path

  pub xi_above : 0 < D → (j : ℕ) → j < L q → pos 1 ≼ xi p D z j
  xi_above d j l = above D d (as_diff (xi p D z j)) (as_diff (z (c + j))) (h.sum j l) (h.product j l)

  module _ (m : Multiple (xi p D z) (L q)) where
    -- one eta
    eta_least : (j : ℕ) → j < L q → pos 0 ≼ units (weight_of p w j) → weight_of p w j · (pos D *ℤ pos D *ℤ m.M j) ≼ pos m.k *ℤ (weight_of p w j · z (c + j))
    eta_least j l v =
        let X = xi p D z j in
        let E = z (c + j) in
        let D² = pos D *ℤ pos D in
        let right : m.M j *ℤ (X *ℤ E) ≡ pos m.k *ℤ E = times_assoc (as_diff (m.M j)) (as_diff X) (as_diff E) ∙ ap (λ (y : ℤ). y *ℤ E) (m.share j l) in
        let one_side : D² *ℤ m.M j ≼ pos m.k *ℤ E = subst₂ ◌≼◌ (*ℤ_comm (m.M j) D²) right (mono_of (m.M j) D² (X *ℤ E) (m.least j l) (h.product j l)) in
        subst (λ (y : ℤ). units (weight_of p w j) *ℤ (D² *ℤ m.M j) ≼ y) (times_past (as_diff (pos m.k)) (as_diff (units (weight_of p w j))) (as_diff E))
        (mono_of (units (weight_of p w j)) (D² *ℤ m.M j) (pos m.k *ℤ E) v one_side)

    -- the objective costs at least the travel time at these xi, if no weight is negative
    pub travel_least : ((j : ℕ) → j < L q → pos 0 ≼ units (weight_of p w j)) → travel p D w m.M ≼ pos m.k *ℤ objective_cost p z c (Time w)
    travel_least v =
        subst (λ (y : ℤ). travel p D w m.M ≼ y) (sum_to_times (pos m.k) (λ j. weight_of p w j · z (c + j)) (L q))
        (sum_to_le (λ j. weight_of p w j · (pos D *ℤ pos D *ℤ m.M j)) (λ j. pos m.k *ℤ (weight_of p w j · z (c + j))) (L q) (λ j l. eta_least j l (v j l)))

    -- and just that where every product is D²
    pub travel_exactly : ((j : ℕ) → j < L q → xi p D z j *ℤ z (c + j) ≡ pos D *ℤ pos D) → travel p D w m.M ≡ pos m.k *ℤ objective_cost p z c (Time w)
    travel_exactly tight = sum_to_ext _ _ (L q) same ∙ sum_to_times (pos m.k) (λ j. weight_of p w j · z (c + j)) (L q)
      where
        same : (j : ℕ) → j < L q → weight_of p w j · (pos D *ℤ pos D *ℤ m.M j) ≡ pos m.k *ℤ (weight_of p w j · z (c + j))
        same j l =
            let E = z (c + j) in
            ap (λ (y : ℤ). weight_of p w j · y)
            (*ℤ_comm (pos D *ℤ pos D) (m.M j) ∙ ap (λ (y : ℤ). m.M j *ℤ y) (sym (tight j l)) ∙ times_assoc (as_diff (m.M j)) (as_diff (xi p D z j)) (as_diff E) ∙ ap (λ (y : ℤ). y *ℤ E) (m.share j l))
            ∙ times_past (as_diff (pos m.k)) (as_diff (units (weight_of p w j))) (as_diff E)

-- ---- numbers above zero have a common multiple: the product

-- one number more
module _ (X : ℕ → ℤ) (c x : ℕ) (last : X c ≡ pos x) (x-above : 0 < x) (r : Multiple X c) where
  abbrev share_of : ℕ → ℤ
  share_of j = cond (ltb j c) (r.M j *ℤ X c) (pos r.k)

  more_least : (j : ℕ) → Dec (j < c) → pos 0 ≼ share_of j
  more_least j (yes y) = simp (lt-ltb j c y, last) (subst (λ (v : ℤ). v ≼ r.M j *ℤ pos x) (*ℤ-zero (r.M j)) (mono_of (r.M j) (pos 0) (pos x) (r.least j y) (natural x)))
  more_least j (no y) = simp (le-ltb j c (omega arith)) (natural r.k)

  more_share : (j : ℕ) → j < suc c → Dec (j < c) → share_of j *ℤ X j ≡ pos (x * r.k)
  more_share j l (yes y) =
      simp (lt-ltb j c y, last) (sym (times_assoc (as_diff (r.M j)) (as_diff (pos x)) (as_diff (X j))) ∙ times_past (as_diff (pos x)) (as_diff (r.M j)) (as_diff (X j)) ∙ ap (λ (v : ℤ). pos x *ℤ v) (r.share j y))
  more_share j l (no y) = let e : j ≡ c = omega arith in simp (e, le-ltb c c (omega arith), last) (*ℤ_comm (pos r.k) (pos x))

  more : Multiple X (suc c)
  more =
      record {
        k = x * r.k;
        M = share_of;
        positive = mul-pos x-above r.positive;
        least = λ j l. more_least j (dec_lt j c);
        share = λ j l. more_share j l (dec_lt j c);
      }

pub multiple : (X : ℕ → ℤ) (c : ℕ) → ((j : ℕ) → j < c → pos 1 ≼ X j) → Multiple X c
multiple X zero h = record { k = 1; M = λ j. pos 0; positive = omega arith; least = λ j l. absurd (not-suc-le-zero l); share = λ j l. absurd (not-suc-le-zero l) }
multiple X (suc c) h =
    let e : X c ≡ pos (nat_abs (X c)) = sym (pos-nat_abs (X c) (yes_non_neg (one_least (as_diff (X c)) (h c (omega arith))))) in
    more X c (nat_abs (X c)) e (one_above_nat (nat_abs (X c)) (rw e at (h c (omega arith)))) (multiple X c (λ j l. h j (omega arith)))
