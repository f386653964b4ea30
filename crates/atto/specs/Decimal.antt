-- The decimal of a number, without leading zeros.
use Rattle.std.specs.Prelude.{ℕ, zero, suc, ◌+◌, List, [], ◌∷◌, map}
use Rattle.std.specs.Int.Digits.{digits_of}

-- the only spelling of n: `0`, or digits that do not begin with 0
abbrev pub decimal_of : ℕ → List ℕ
decimal_of zero = 48 ∷ []
decimal_of (suc n) = map (λ d. 48 + d) (digits_of 10 (suc n))
