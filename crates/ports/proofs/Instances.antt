-- Lines of a few bytes.
use Rattle.std.proofs.Common.{◌≡◌, [], ◌∷◌, refl}
use Rattle.ports.specs.Lines.{lines_of, whole_lines}

no_lines : lines_of [] ≡ []
no_lines = refl

-- an empty line is a line
empty_line : lines_of (10 ∷ []) ≡ [] ∷ []
empty_line = refl

-- a carriage return is a byte of its line, and a last line needs no line feed
three_lines : lines_of (97 ∷ 13 ∷ 10 ∷ 10 ∷ 98 ∷ []) ≡ (97 ∷ 13 ∷ []) ∷ [] ∷ (98 ∷ []) ∷ []
three_lines = refl

two_whole_lines : whole_lines (97 ∷ 13 ∷ 10 ∷ 10 ∷ 98 ∷ []) ≡ (97 ∷ 13 ∷ []) ∷ [] ∷ []
two_whole_lines = refl
