-- Numbers at places, with the sums of pairs of them in levels.
use Rattle.std.specs.Prelude.{◌≡◌, ℕ, ◌+◌, ◌≤◌, List, [], ◌∷◌, length}

-- the sums of every two numbers that stand beside each other; a last one without a partner stands for itself
abbrev pub pair_sums : List ℕ → List ℕ
pair_sums [] = []
pair_sums (a ∷ []) = a ∷ []
pair_sums (a ∷ b ∷ numbers) = (a + b) ∷ pair_sums numbers

-- each level has the sums of the pairs of the level before, and the last one has no more numbers than this
abbrev pub AreLevelsTo : ℕ → List (List ℕ) → Type 0
AreLevelsTo most [] = ⊥
AreLevelsTo most (level ∷ []) = length level ≤ most
AreLevelsTo most (level ∷ above ∷ levels) = (above ≡ pair_sums level) × AreLevelsTo most (above ∷ levels)

-- the level that the others stand over
abbrev pub first_of : List (List ℕ) → List ℕ
first_of [] = []
first_of (level ∷ levels) = level
