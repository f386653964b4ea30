-- Lines, of which one is exchanged.
use Rattle.std.specs.Prelude.{ℕ, zero, suc, List, set}

-- lines with another text in the place of the one of this number, counted from 1; one that no line has exchanges none
abbrev pub lines_with : ℕ → List ℕ → List (List ℕ) → List (List ℕ)
lines_with zero text lines = lines
lines_with (suc place) text lines = set lines place text
