-- The dimensions of the cones add up to the rows, and every row lies in exactly one cone.
use Prim.Native.Nat.{ℕ, zero, suc, ◌+◌, ◌-◌, ◌≤◌, ◌<◌}
use native.Mathlib.Nat.{not-suc-le-zero}
use native.Mathlib.Decide.{dec_lt}
use native.Mathlib.Omega.{arith}
use mathlib.Core.Path.{◌≡◌, refl, sym, ap, ◌∙◌}
use mathlib.Core.List.{List, [], ◌∷◌, map}
use lib.ListN.{length, get_or, take}
use Rattle.model.specs.Lists.{sum, total}
use Rattle.model.specs.Problem.{Problem}
use Rattle.model.specs.Program.{dimension}
use Rattle.model.specs.Assembled.{cones, bands, right_side, cone_dimensions}
use Rattle.model.proofs.Sums.{sum_joined}
use Rattle.model.proofs.Shape.{right_heights}

-- row r lies in cone j
pub record In (dims : List ℕ) (r j : ℕ) : Type 0 where
  pub inside : j < length dims
  pub above : total (take j dims) ≤ r
  pub below : r < total (take j dims) + get_or dims j 0

pub record OneCone (dims : List ℕ) (r : ℕ) : Type 0 where
  pub cone : ℕ
  pub holds : In dims r cone
  pub only : (j : ℕ) → In dims r j → j ≡ cone

-- for any dimensions: r is in the first cone, or as much as r - d in the rest
first_cone : (d : ℕ) (ds : List ℕ) (r : ℕ) → r < d → OneCone (d ∷ ds) r
first_cone d ds r h = record { cone = 0; holds = record { inside = omega arith; above = omega arith; below = omega arith }; only = only }
  where
    only : (j : ℕ) → In (d ∷ ds) r j → j ≡ 0
    only zero i = refl
    only (suc j) i = let a = i.above in absurd (omega arith)

later_cone : (d : ℕ) (ds : List ℕ) (r : ℕ) → d ≤ r → OneCone ds (r - d) → OneCone (d ∷ ds) r
later_cone d ds r h o =
    record {
      cone = suc o.cone;
      holds = record { inside = omega (arith, o.holds.inside); above = omega (arith, o.holds.above); below = omega (arith, o.holds.below) };
      only = only;
    }
  where
    only : (j : ℕ) → In (d ∷ ds) r j → j ≡ suc o.cone
    only zero i = let b = i.below in absurd (omega arith)
    only (suc j) i = ap suc (o.only j (record { inside = omega (arith, i.inside); above = omega (arith, i.above); below = omega (arith, i.below) }))

pub one_cone : (dims : List ℕ) (r : ℕ) → r < total dims → OneCone dims r
one_cone [] r h = absurd (not-suc-le-zero h)
one_cone (d ∷ ds) r h = go (λ l. one_cone ds (r - d) l) (dec_lt r d)
  where
    go : (r - d < total ds → OneCone ds (r - d)) → Dec (r < d) → OneCone (d ∷ ds) r
    go f (yes q) = first_cone d ds r q
    go f (no q) = later_cone d ds r (omega arith) (f (omega arith))

total_map : {A : Type 0} (f : A → ℕ) (xs : List A) → total (map f xs) ≡ sum f xs
total_map f [] = refl
total_map f (x ∷ xs) = ap (λ (y : ℕ). f x + y) (total_map f xs)

pub dimensions_rows : (p : Problem) → total (cone_dimensions p) ≡ length (right_side p)
unfolding cone_dimensions right_side bands
dimensions_rows p = total_map dimension (cones p) ∙ sym (sum_joined (λ b. b.height) (λ c. c.bands) (cones p)) ∙ sym (right_heights (bands p))

pub row_cone : (p : Problem) (r : ℕ) → r < length (right_side p) → OneCone (cone_dimensions p) r
row_cone p r h = one_cone (cone_dimensions p) r (omega (arith, dimensions_rows p))
