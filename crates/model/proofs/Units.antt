-- The exact values of the constants that the rows hold, in units of 2^−1074.
use Prim.Native.Nat.{ℕ, ◌*◌, ◌<◌, ◌^◌}
use mathlib.Core.Path.{◌≡◌, refl, sym, ap, ◌∙◌}
use lib.Pow.{pow_pos}
use lib.IntN.{pos, neg_ℤ, ◌*ℤ◌}
use lib.Ieee.{Float, binary64, neg, of_bits}
use Rattle.model.specs.Numbers.{+0, +1, +2, quarter}
use Rattle.model.specs.Conic.{units}
use Rattle.model.specs.Meaning.{one}
use Rattle.model.proofs.Values.{neg_value, units_value}

pub one_above : 0 < one
unfolding one
one_above = pow_pos 1074

pub units_neg : (x : Float) → units (neg x) ≡ neg_ℤ (units x)
units_neg x = units_value (neg x) ∙ neg_value binary64 x ∙ ap neg_ℤ (sym (units_value x))

pub units_zero : units +0 ≡ pos 0
unfolding units of_bits
units_zero = refl

pub units_one : units +1 ≡ pos one
unfolding units of_bits one
units_one = refl

pub units_two : units +2 ≡ pos 2 *ℤ pos one
unfolding units of_bits one
units_two = refl

pub ruleset constants = (units_neg, units_zero, units_one, units_two)

-- 1/4
pub fourth : ℕ
fourth = 2 ^ 1072

pub units_quarter : units quarter ≡ pos fourth
unfolding units of_bits fourth
units_quarter = refl

pub fourth_above : 0 < fourth
unfolding fourth
fourth_above = pow_pos 1072

pub four_fourths : one ≡ 4 * fourth
unfolding one fourth
four_fourths = refl
