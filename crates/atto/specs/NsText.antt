-- The text of a number of units as nanoseconds with nine digits after the point.
use Rattle.std.specs.Prelude.{ℕ, zero, suc, ◌+◌, ◌/◌, ◌%◌, List, [], ◌∷◌, ◌++◌, ℤ, pos, negsuc}
use Rattle.atto.specs.Decimal.{decimal_of}

-- the last k digits of n
abbrev pub last_digits : ℕ → ℕ → List ℕ
last_digits zero n = []
last_digits (suc k) n = last_digits k (n / 10) ++ (48 + n % 10) ∷ []

-- the text of n units: the decimal of the whole ns, a point, and nine digits
abbrev pub unsigned_ns_text : ℕ → List ℕ
unsigned_ns_text n = decimal_of (n / 1000000000) ++ 46 ∷ last_digits 9 (n % 1000000000)

-- the only spelling of z units, with a minus sign below 0
abbrev pub ns_text : ℤ → List ℕ
ns_text (pos n) = unsigned_ns_text n
ns_text (negsuc n) = 45 ∷ unsigned_ns_text (suc n)
