-- The clocks inside a cut, as they are met among readings whose clocks do not fall.
use Rattle.std.specs.Prelude.{ℕ, ◌==◌, Bool, true, false, not, List, [], ◌∷◌, Option, Some, None}

-- the clock is another one than the last, if there is a last one
abbrev pub is_another : Option ℕ → ℕ → Bool
is_another None clock = true
is_another (Some last) clock = not (last == clock)

-- the reading is the first of its clock that is known, or for the lower end the first that is not; the clock of the last such
-- reading is given
abbrev pub is_first : Bool → Bool → Option ℕ → ℕ → Bool
is_first true true last clock = is_another last clock
is_first true false last clock = false
is_first false true last clock = false
is_first false false last clock = is_another last clock

-- the clock, if it is to be written
abbrev pub clock_if : Bool → ℕ → List ℕ
clock_if true clock = clock ∷ []
clock_if false clock = []

-- the last clock that was written
abbrev pub last_behind : Bool → Option ℕ → ℕ → Option ℕ
last_behind true last clock = Some clock
last_behind false last clock = last
