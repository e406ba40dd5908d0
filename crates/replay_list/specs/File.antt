-- Numbers in a file of bytes, lowest byte first, and 0 where they would reach past its end.
use Rattle.std.specs.Prelude.{ℕ, ◌+◌, ◌*◌, ◌<◌, cond, List, leb, ltb, get_or, length, Float, ◌≡◌}
use Rattle.std.specs.Float.{binary64, nan}
use Rattle.std.specs.Float.Ieee.{of_bits, to_bits}
use Rattle.model.specs.Verdicts.{itself}

-- the place after n items of so many bytes; a length or a place that no file has ends at a place that no file reaches
unfoldable pub place_after : ℕ → ℕ → ℕ → ℕ
place_after at n width = cond (ltb 16777216 at) 16777216 (cond (ltb 65536 n) 16777216 (cond (ltb 64 width) 16777216 (at + n * width)))

-- the number that four bytes stand for
abbrev pub four_bytes : List ℕ → ℕ → ℕ
four_bytes s at = get_or s at 0 + 256 * get_or s (at + 1) 0 + 65536 * get_or s (at + 2) 0 + 16777216 * get_or s (at + 3) 0

unfoldable pub short_at : List ℕ → ℕ → ℕ
short_at s at = cond (leb (at + 4) (length s)) (four_bytes s at) 0

unfoldable pub long_at : List ℕ → ℕ → ℕ
long_at s at = cond (leb (at + 8) (length s)) (four_bytes s at + 4294967296 * four_bytes s (at + 4)) 0

-- the float of eight bytes
abbrev pub float_at : List ℕ → ℕ → Float
float_at s at = of_bits binary64 (long_at s at)

-- number i of those of four bytes from a place on
abbrev pub item_at : List ℕ → ℕ → ℕ → ℕ
item_at s at i = short_at s (place_after at i 4)

-- What a buffer of n written places holds at place i: the file's number below n, and past that what it held before.
unfoldable pub expected : (List ℕ → ℕ → ℕ) → ℕ → ℕ → List ℕ → ℕ → ℕ → ℕ → ℕ
expected read width before s at n i = cond (ltb i n) (read s (place_after at i width)) before

abbrev pub byte_at : List ℕ → ℕ → ℕ
byte_at s at = get_or s at 0

-- a whole number of eight bytes, or a float's bits
abbrev pub expected_bits : List ℕ → ℕ → ℕ → ℕ → ℕ
expected_bits = expected long_at 8 13876516240719085568

abbrev pub expected_byte : List ℕ → ℕ → ℕ → ℕ → ℕ
expected_byte = expected byte_at 1 165

-- The first m places of a buffer hold each what is expected: the number, or a float's bits.
abbrev pub Holds : {A : Type 0} → (A → ℕ) → A → (ℕ → ℕ) → ℕ → List A → Type 0
Holds number d e m l = (i : ℕ) → i < m → number (get_or l i d) ≡ e i

abbrev pub NumbersHold : List ℕ → ℕ → ℕ → ℕ → List ℕ → Type 0
NumbersHold s at n = Holds itself 0 (expected_bits s at n)

abbrev pub FloatsHold : List ℕ → ℕ → ℕ → ℕ → List Float → Type 0
FloatsHold s at n = Holds (to_bits binary64) nan (expected_bits s at n)

abbrev pub BytesHold : List ℕ → ℕ → ℕ → ℕ → List ℕ → Type 0
BytesHold s at n = Holds itself 0 (expected_byte s at n)
