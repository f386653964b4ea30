-- The lines of some bytes.
use Rattle.std.specs.Prelude.{◌^◌, ◌≢◌, ℕ, List, [], ◌∷◌, ◌==◌}
use Rattle.std.specs.List.{slice_split}

-- the most bytes of a line that is given: 4,096
abbrev pub most_line : ℕ
most_line = 4096

-- the most bytes that a reader takes: 2^30
abbrev pub most_taken : ℕ
most_taken = 2 ^ 30

-- no byte is a line feed
abbrev pub NoFeed : List ℕ → Type 0
NoFeed [] = Unit {0}
NoFeed (b ∷ bs) = (b ≢ 10) × NoFeed bs

-- the parts between line feeds
abbrev pub parts : List ℕ → List (List ℕ)
parts bytes = slice_split (λ b. b == 10) bytes

-- all but the part behind the last line feed
abbrev pub before_last : List (List ℕ) → List (List ℕ)
before_last [] = []
before_last (last ∷ []) = []
before_last (line ∷ next ∷ more) = line ∷ before_last (next ∷ more)

-- a part that is a line only where it has bytes
abbrev pub last_line : List ℕ → List (List ℕ)
last_line [] = []
last_line (b ∷ bs) = (b ∷ bs) ∷ []

-- all parts, the last one only where it has bytes
abbrev pub with_last : List (List ℕ) → List (List ℕ)
with_last [] = []
with_last (last ∷ []) = last_line last
with_last (line ∷ next ∷ more) = line ∷ with_last (next ∷ more)

-- the lines that end with a line feed: of `a`, LF, LF, `b` these are `a` and the empty one
abbrev pub whole_lines : List ℕ → List (List ℕ)
whole_lines bytes = before_last (parts bytes)

-- these, and a last one that has bytes and no line feed, here `b`
abbrev pub lines_of : List ℕ → List (List ℕ)
lines_of bytes = with_last (parts bytes)
