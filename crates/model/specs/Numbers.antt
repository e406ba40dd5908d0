-- "Floats round once per operation, in the order the Rust writes them": binary64's operations under short names, the constants that the Rust writes, its tests.
use Rattle.std.specs.Prelude.{◌||◌}
use Rattle.model.specs.Base.{ℕ, Bool, true, false, not, List, get_or, Float, nan, inf, fin, binary64, add, sub, mul, div, neg, lt, eq, of_bits}

infixl 65 ◌⊕◌
infixl 65 ◌⊖◌
infixl 70 ◌⊗◌
infixl 70 ◌⊘◌
abbrev pub ◌⊕◌ : Float → Float → Float
◌⊕◌ x y = add binary64 x y

abbrev pub ◌⊖◌ : Float → Float → Float
◌⊖◌ x y = sub binary64 x y

abbrev pub ◌⊗◌ : Float → Float → Float
◌⊗◌ x y = mul binary64 x y

abbrev pub ◌⊘◌ : Float → Float → Float
◌⊘◌ x y = div binary64 x y

-- element i of a list of floats
abbrev pub at : List Float → ℕ → Float
at l i = get_or l i nan

-- the constants, as the code's literals read: the bits of 0, 1, 2, 4, 5, 6, 1/2, 3/2, 1/4
abbrev pub +0 : Float
+0 = of_bits binary64 0x0000000000000000

abbrev pub +1 : Float
+1 = of_bits binary64 0x3ff0000000000000

abbrev pub +2 : Float
+2 = of_bits binary64 0x4000000000000000

abbrev pub +3 : Float
+3 = of_bits binary64 0x4008000000000000

abbrev pub +4 : Float
+4 = of_bits binary64 0x4010000000000000

abbrev pub +5 : Float
+5 = of_bits binary64 0x4014000000000000

abbrev pub +6 : Float
+6 = of_bits binary64 0x4018000000000000

abbrev pub half : Float
half = of_bits binary64 0x3fe0000000000000

abbrev pub +1½ : Float
+1½ = of_bits binary64 0x3ff8000000000000

abbrev pub quarter : Float
quarter = of_bits binary64 0x3fd0000000000000

abbrev pub −1 : Float
−1 = neg +1

abbrev pub −2 : Float
−2 = neg +2

abbrev pub −1½ : Float
−1½ = neg +1½

abbrev pub −quarter : Float
−quarter = neg quarter

abbrev pub +∞ : Float
+∞ = inf false

-- neither NaN nor infinite
abbrev pub finite : Float → Bool
finite nan = false
finite (inf s) = false
finite (fin s m e) = true

-- "NaN or minus infinity": what an upper bound may not be
abbrev pub unusable : Float → Bool
unusable nan = true
unusable (inf s) = s
unusable (fin s m e) = false

-- below zero, and equal to zero: "Minus zero counts as zero here and in 2, 11 and 13."
abbrev pub negative : Float → Bool
negative x = lt x +0

abbrev pub is_zero : Float → Bool
is_zero x = eq x +0

-- "NaN, infinite or negative": what a weight or a scale may not be
abbrev pub unfit : Float → Bool
unfit x = not (finite x) || negative x
