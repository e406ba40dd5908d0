-- Whole numbers as digits.
use Rattle.std.specs.Prelude.{ℕ, zero, suc, ◌+◌, ◌/◌, ◌%◌, cond, List, [], ◌∷◌, ◌++◌, nat_lt}

-- a digit below 16 in ASCII: 0 to 9, then a to f
abbrev pub digit : ℕ → ℕ
digit d = cond (nat_lt d 10) (48 + d) (87 + d)

-- the last k digits of n in base b, the highest first
unfoldable pub digits : ℕ → ℕ → ℕ → List ℕ
digits b zero n = []
digits b (suc k) n = digits b k (n / b) ++ digit (n % b) ∷ []

-- how many decimal digits n has, counted to at most k + 1
unfoldable pub places : ℕ → ℕ → ℕ
places zero n = 1
places (suc k) n = cond (nat_lt n 10) 1 (places k (n / 10) + 1)

-- a number below 10^20 without zeros in front
abbrev pub decimal : ℕ → List ℕ
decimal n = digits 10 (places 19 n) n
