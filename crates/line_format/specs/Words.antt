-- Words and lines.
use Rattle.std.specs.Prelude.{ℕ, List, [], ◌∷◌, ◌++◌}

-- words between single spaces
abbrev pub words : List (List ℕ) → List ℕ
words [] = []
words (w ∷ []) = w
words (w ∷ v ∷ more) = w ++ 32 ∷ words (v ∷ more)

-- the words and a line feed
abbrev pub line_of : List (List ℕ) → List ℕ
line_of ws = words ws ++ 10 ∷ []
