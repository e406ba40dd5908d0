-- A double as text. "Numbers that are whole multiples of 1/10,000 print in decimals, others as their 16 hex digits": a double prints in decimals if it is the one nearest to such a multiple.
use Rattle.std.specs.Prelude.{ℕ, ◌/◌, ◌%◌, ◌^◌, Bool, cond, ◌&&◌, List, [], ◌++◌, pos, Option, Some, None, ◌==◌, from_bits, nat_lt, to_bits, Float}
use Rattle.std.specs.Float.{nan, inf, fin, binary64}
use Rattle.std.specs.Float.Ieee.{add, mul, div, neg, lt, eq, of_int, to_unsigned}
use Rattle.text.specs.Text.{ascii}
use Rattle.text.specs.Digits.{digits, decimal}

-- below 0, or −0
abbrev pub minus : Float → Bool
minus x = lt (div binary64 (from_bits binary64 0x3ff0000000000000) x) (from_bits binary64 0)

unfoldable pub magnitude : Float → Float
magnitude x = cond (minus x) (neg x) x

-- ten thousand, a half
abbrev ten_thousand : Float
ten_thousand = from_bits binary64 0x40c3880000000000

abbrev half : Float
half = from_bits binary64 0x3fe0000000000000

-- ten thousand times x, and a half more, so that its whole part is the nearest multiple
abbrev pub scaled : Float → Float
scaled x = add binary64 (mul binary64 x ten_thousand) half

-- k ten-thousandths, as the nearest double
abbrev pub ten_thousandths : ℕ → Float
ten_thousandths k = div binary64 (of_int binary64 (pos k)) ten_thousand

-- of an x that is not negative: how many ten-thousandths it is the nearest double to. Below 2^51 the product rounds by less than the half
unfoldable pub nearest : Float → Option ℕ
nearest x =
    let k = to_unsigned 64 (scaled x) in
    cond (lt (fin Bool.true 1 (pos 0)) (scaled x) && (lt (scaled x) (fin Bool.false 1 (pos 64)) && (nat_lt k (2 ^ 51) && eq (ten_thousandths k) x))) (Some k) None

-- four digits after the point, without zeros at the end
unfoldable pub fraction : ℕ → List ℕ
fraction f =
    cond (f == 0) []
    (ascii "."
    ++ cond (f % 1000 == 0) (digits 10 1 (f / 1000))
    (cond (f % 100 == 0) (digits 10 2 (f / 100)) (cond (f % 10 == 0) (digits 10 3 (f / 10)) (digits 10 4 f))))

abbrev pub sign : Float → List ℕ
sign x = cond (minus x) (ascii "-") []

unfoldable pub shown : Option ℕ → Float → List ℕ
shown (Some k) x = sign x ++ decimal (k / 10000) ++ fraction (k % 10000)
shown None x = ascii "0x" ++ digits 16 16 (to_bits binary64 x)

unfoldable pub number : Float → List ℕ
number nan = ascii "NaN"
number (inf s) = shown (nearest (magnitude (inf s))) (inf s)
number (fin s m e) = shown (nearest (magnitude (fin s m e))) (fin s m e)
