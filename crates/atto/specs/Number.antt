-- What reading a number answers.
use Rattle.std.specs.Prelude.{◌≡◌, ◌≤◌, ◌<◌, ◌^◌, ℕ, ℤ, List, Result, Ok, Err, Option, Some, None, unsigned_abs}
use Rattle.atto.specs.declared.text.NumFault.{NumFault}
use Rattle.atto.specs.declared.text.NumFault.TheVariants.{Spelling, Range}

-- why a text is no value: it spells none, or one out of range
abbrev pub IsFault : {V : Type 0} → (V → List ℕ) → (V → Type 0) → List ℕ → NumFault → Type 0
IsFault {V} spelling Fits text Spelling = (v : V) → text ≡ spelling v → ⊥
IsFault {V} spelling Fits text Range = (v : V) × (text ≡ spelling v) × (Fits v → ⊥)

-- the value that the text spells, or the fault
abbrev pub Reads : {V : Type 0} → (V → List ℕ) → (V → Type 0) → List ℕ → Result V NumFault → Type 0
Reads spelling Fits text (Ok v) = (text ≡ spelling v) × Fits v
Reads spelling Fits text (Err e) = IsFault spelling Fits text e

-- at most 2 ^ 120 in absolute value
abbrev pub FitsUnits : ℤ → Type 0
FitsUnits z = unsigned_abs z ≤ 2 ^ 120

-- what is held of a number m below a limit: m itself, or None where m is the limit or more
abbrev pub Counts : ℕ → ℕ → Option ℕ → Type 0
Counts limit m (Some n) = (n ≡ m) × (m < limit)
Counts limit m None = limit ≤ m
