-- What charges come to on one column: so each column's cost can be told, tested and written on its own.
use Rattle.std.specs.Prelude.{◌≡◌, cond, List, [], ◌∷◌, ℕ, ◌+◌, ◌-◌, ◌≤◌, max, eqb, Float, length}
use Rattle.model.specs.Numbers.{◌⊕◌, +0}
use Rattle.model.specs.Problem.{Roots}
use Rattle.model.specs.Lists.{list, part, joined}
use Rattle.model.specs.declared.Objective.{Objective}
use Rattle.model.specs.declared.Objective.TheVariants.{Time, ThermalEnergy, TotalVariationTorque, Linear}
use Rattle.model.specs.Program.{Cell, cell}
use Rattle.model.specs.Objectives.{linear_block}
use Rattle.model.specs.declared.Ends.{Ends}
use Rattle.buffers.specs.Inputs.{path, Sized}

-- the cost x of column c after charges
abbrev pub charged_at : Float → ℕ → List Cell → Float
charged_at x c [] = x
charged_at x c (k ∷ ks) = charged_at (cond (eqb k.column c) (x ⊕ k.value) x) c ks

abbrev pub roots_of : List Float → List Float → Roots
roots_of a b = record { start = a; end = b }

-- what refusals 4, 5, 12, 14 and 15 leave for a Linear objective with these lists
abbrev pub Given : List Float → Ends → List Float → List Float → List Float → List Float → Type 0
Given s e r0 r1 alpha beta =
    Sized s e × (length r0 ≡ max e.n0 1 - 1) × (length r1 ≡ max e.n1 1 - 1) × (length alpha ≡ length s) × (length beta ≡ length s)

abbrev pub linear_charges : List Float → Ends → List Float → List Float → Float → List Float → List Float → List Cell
linear_charges s e r0 r1 w alpha beta = (linear_block (path s e) (roots_of r0 r1) w alpha beta).charges

-- y is x after the charges f k, f (k + 1), .., i of them, all on column c
pub record Sums (y x : Float) (c : ℕ) (f : ℕ → Float) (k i : ℕ) : Type 0 where
  pub says : y ≡ charged_at x c (list (λ j. cell c (f j)) k i)

-- y is x after charges, on column c
pub record Charged (y x : Float) (c : ℕ) (ks : List Cell) : Type 0 where
  pub says : y ≡ charged_at x c ks

-- what an objective charges; its lists are parts of the pool
abbrev pub charges_of : List Float → Ends → List Float → List Float → List Float → Objective → List Cell
charges_of s e r0 r1 pool (Time w) = []
charges_of s e r0 r1 pool (ThermalEnergy w start len) = []
charges_of s e r0 r1 pool (TotalVariationTorque w start len) = []
charges_of s e r0 r1 pool (Linear w a al b bl) = linear_charges s e r0 r1 w (part pool a al) (part pool b bl)

-- the cost of the a or b column c with objectives
abbrev pub ab_cost : List Float → Ends → List Float → List Float → List Float → List Objective → ℕ → Float
ab_cost s e r0 r1 pool os c = charged_at +0 c (joined (charges_of s e r0 r1 pool) os)

-- what refusals 12 and 15 leave of an objective: tables 14 and 15 count with Linear alone
abbrev pub Fits : List Float → Ends → List Float → List Float → List Float → Objective → Type 0
Fits s e r0 r1 pool (Time w) = Unit {0}
Fits s e r0 r1 pool (ThermalEnergy w start len) = Unit {0}
Fits s e r0 r1 pool (TotalVariationTorque w start len) = Unit {0}
Fits s e r0 r1 pool (Linear w a al b bl) =
    (length r0 ≡ max e.n0 1 - 1) × (length r1 ≡ max e.n1 1 - 1) × (al ≡ length s) × (bl ≡ length s) × (a + al ≤ length pool) × (b + bl ≤ length pool)

-- the lists of an objective that is a Linear have length l
abbrev pub Long : ℕ → Objective → Type 0
Long l (Time w) = Unit {0}
Long l (ThermalEnergy w start len) = Unit {0}
Long l (TotalVariationTorque w start len) = Unit {0}
Long l (Linear w a al b bl) = (al ≡ l) × (bl ≡ l)
