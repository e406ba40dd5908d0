-- std's test of a finite number is document 01's; a number less itself is a number exactly if it is finite.
use mathlib.Core.Path.{◌≡◌, refl, sym, ap}
use mathlib.Core.Bool.{Bool, true, false, not}
use Prim.Native.Nat.{ℕ, suc, ◌*◌, ◌<◌}
use native.Mathlib.Nat.{sub_self, le_refl, zero-mul, mul-pos}
use native.Mathlib.Omega.{arith}
use lib.Ieee.{Float, nan, inf, fin, binary64, sub, eq, is_nan, sum, round, up, down}
use lib.Ieee.Scale.{round_same}
use lib.Pow.{pow_pos}
use lib.IntN.{ℤ, pos, negsuc}
use borrow.Author.Tests.{le-ltb}
use Rattle.std.specs.Float.{float_is_finite}
use Rattle.model.specs.Numbers.{finite}

pub finite_lem : (x : Float) → float_is_finite x ≡ finite x
unfolding float_is_finite
finite_lem nan = refl
finite_lem (inf s) = refl
finite_lem (fin s m e) = refl

round_zero : (s : Bool) (c : ℕ) → 0 < c → round binary64 s 0 c ≡ round binary64 s 0 1
round_zero s c h = round_same binary64 s 0 c 0 1 h (omega arith) (sym (zero-mul c))

sum_self : (s : Bool) (a c : ℕ) → 0 < c → sum binary64 s a (not s) a c ≡ fin false 0 (pos 0)
unfolding sum round
sum_self true a c h = rw (le-ltb a a (le_refl a), sub_self) (round_zero false c h)
sum_self false a c h = rw (le-ltb a a (le_refl a), sub_self) (round_zero false c h)

down_pos : (e : ℤ) → 0 < down e
down_pos (pos k) = omega arith
down_pos (negsuc k) = pow_pos (suc k)

pub self_less : (x : Float) → eq (sub binary64 x x) (sub binary64 x x) ≡ finite x
unfolding eq sub
self_less nan = refl
self_less (inf true) = refl
self_less (inf false) = refl
self_less (fin s m e) = ap (λ y. eq y y) (sum_self s (m * up e * down e) (down e * down e) (mul-pos (down_pos e) (down_pos e)))

pub difference_told : (x : Float) → not (is_nan (sub binary64 x x)) ≡ finite x
unfolding is_nan sub
difference_told nan = refl
difference_told (inf true) = refl
difference_told (inf false) = refl
difference_told (fin s m e) = ap (λ y. not (is_nan y)) (sum_self s (m * up e * down e) (down e * down e) (mul-pos (down_pos e) (down_pos e)))
