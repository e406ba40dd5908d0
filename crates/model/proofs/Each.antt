-- A property of every slack of some bands, taken apart over the lists that `++`, `given`, `list` and `over` make. Each law is an equivalence.
use Prim.Native.Nat.{ℕ, ◌+◌, ◌≤◌, ◌<◌}
use native.Mathlib.Omega.{arith}
use mathlib.Core.Path.{◌≡◌, subst}
use mathlib.Core.Logic.Iff
use mathlib.Core.Logic.{◌↔◌}
use mathlib.Core.Bool.{Bool, true}
use mathlib.Core.List.{List, [], ◌∷◌, ◌++◌}
use lib.IntN.{ℤ, pos}
use lib.Signed.{◌≤ℤ◌}
use Rattle.model.specs.Lists.{list, over, given}
use Rattle.model.specs.Program.{Band}
use Rattle.model.specs.Conic.{Zero, Nonnegative}
use Rattle.model.proofs.All.{All, given_says, all_append, all_list, all_over, all_joined}
use Rattle.model.proofs.Feasible.{row_slack, slacks, slacks_append}

abbrev pub IsZero : ℤ → Type 0
IsZero x = x ≡ pos 0

abbrev pub IsNonnegative : ℤ → Type 0
IsNonnegative x = pos 0 ≤ℤ x

pub zero_all : (l : List ℤ) → All IsZero l ↔ Zero l
zero_all [] = ((λ h. h), λ h. h)
zero_all (x ∷ l) = let r = zero_all l in ((λ h. (h.0, r.0 h.1)), λ h. (h.0, r.1 h.1))

pub nonnegative_all : (l : List ℤ) → All IsNonnegative l ↔ Nonnegative l
nonnegative_all [] = ((λ h. h), λ h. h)
nonnegative_all (x ∷ l) = let r = nonnegative_all l in ((λ h. (h.0, r.0 h.1)), λ h. (h.0, r.1 h.1))

module _ (D : ℕ) (z : ℕ → ℤ) (P : ℤ → Type 0) where
  pub Each : List Band → Type 0
  Each bs = All P (slacks D z bs)

  pub each_append : (bs cs : List Band) → Each (bs ++ cs) ↔ (Each bs × Each cs)
  unfolding Each
  each_append bs cs = simp (slacks_append D z) (all_append P (slacks D z bs) (slacks D z cs))

  pub each_given : (t : Bool) (bs : List Band) → Each (given t bs) ↔ (t ≡ true → Each bs)
  unfolding Each
  each_given = given_says Each tt

  -- band by band
  each_bands : (bs : List Band) → Each bs ↔ All (λ b. All P (list (row_slack D z b) 0 b.height)) bs
  unfolding Each
  each_bands bs = all_joined P (λ b. list (row_slack D z b) 0 b.height) bs

  pub each_over : (f : ℕ → List Band) (k c : ℕ) → Each (over f k c) ↔ ((i : ℕ) → k ≤ i → i < k + c → Each (f i))
  each_over f k c =
      Iff.trans (each_bands (over f k c))
      (Iff.trans (all_over (λ b. All P (list (row_slack D z b) 0 b.height)) f k c) ((λ h i a b. (each_bands (f i)).1 (h i a b)), λ h i a b. (each_bands (f i)).0 (h i a b)))

  pub each_row : (b : Band) → Each (b ∷ []) ↔ ((i : ℕ) → i < b.height → P (row_slack D z b i))
  each_row b =
      let e = all_list P (row_slack D z b) 0 b.height in
      Iff.trans (each_bands (b ∷ [])) ((λ h i a. e.0 h.0 i (omega arith) (omega arith)), λ h. (e.1 (λ i a c. h i (omega arith)), tt))

  -- a band of one row
  pub each_single : (b : Band) → b.height ≡ 1 → Each (b ∷ []) ↔ P (row_slack D z b 0)
  each_single b e =
      let r = each_row b in
      ((λ h. r.0 h 0 (omega arith)), λ h. r.1 (λ i a. subst (λ (j : ℕ). P (row_slack D z b j)) (omega arith) h))

  pub each_list : (f : ℕ → Band) (k c : ℕ) → Each (list f k c) ↔ ((i : ℕ) → k ≤ i → i < k + c → Each (f i ∷ []))
  each_list f k c =
      Iff.trans (each_bands (list f k c))
      (Iff.trans (all_list (λ b. All P (list (row_slack D z b) 0 b.height)) f k c) ((λ h i a b. (each_bands (f i ∷ [])).1 (h i a b, tt)), λ h i a b. ((each_bands (f i ∷ [])).0 (h i a b)).0))

-- all slacks are zero, or none is negative: what the zero cone and the nonnegative cone ask
module _ (D : ℕ) (z : ℕ → ℤ) where
  abbrev pub Zeros : List Band → Type 0
  Zeros = Each D z IsZero

  abbrev pub Nonnegatives : List Band → Type 0
  Nonnegatives = Each D z IsNonnegative

  pub zeros_cone : (bs : List Band) → Zeros bs ↔ Zero (slacks D z bs)
  unfolding Each
  zeros_cone bs = zero_all (slacks D z bs)

  pub nonnegatives_cone : (bs : List Band) → Nonnegatives bs ↔ Nonnegative (slacks D z bs)
  unfolding Each
  nonnegatives_cone bs = nonnegative_all (slacks D z bs)
