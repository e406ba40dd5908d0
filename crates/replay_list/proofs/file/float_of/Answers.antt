use mathlib.Core.Path.{◌≡◌, refl, sym, ◌∙◌, subst}
use mathlib.Core.Bool.{Bool, true, not}
use lib.Dec.{T}
use lib.Ieee.{Float, nan, inf, fin, binary64, of_bits, is_nan}
use lib.Ieee.Bits.{nan_bits_above, nan_bits_is}
use borrow.Author.Tests.{lt-ltb, le-ltb}
use Rattle.replay_list.proofs.file.float_of.Goals as goal

-- `replay_list::file::float_of` meets its contract: the test is `nan_bits`, by `nan_bits_above`.
is-nan : (x : Float) → is_nan x ≡ true → x ≡ nan
unfolding is_nan
is-nan nan e = refl
is-nan (inf s) e = absurd (subst T (sym e) tt)
is-nan (fin s m e) t = absurd (subst T (sym t) tt)

named-nan : of_bits binary64 9221120237041090560 ≡ nan
unfolding of_bits
named-nan = refl

pub float_from_bits-result : goal.float_from_bits-result
float_from_bits-result c = subst (λ (t : Bool). T (not t)) (sym (nan_bits_above binary64 c.args.bits ∙ le-ltb _ _ c.if-bits-gt9218868437227405312.false)) tt

pub returns-then-bits-gt9218868437227405312 : goal.returns-then-bits-gt9218868437227405312
returns-then-bits-gt9218868437227405312 c =
    let bits = c.args.bits in
    named-nan ∙ sym (is-nan (of_bits binary64 bits) (sym (nan_bits_is binary64 bits) ∙ nan_bits_above binary64 bits ∙ lt-ltb _ _ c.if-bits-gt9218868437227405312.true))
