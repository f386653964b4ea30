-- Lines with another text, worked.
use Rattle.std.proofs.Common.{◌≡◌, ℕ, List, [], ◌∷◌, refl}
use Rattle.shared_fixtures.specs.LinesWith.{lines_with}

-- the first of two lines, the last of them, and numbers that neither has
first : lines_with 1 (7 ∷ []) ((3 ∷ []) ∷ (4 ∷ 5 ∷ []) ∷ []) ≡ (7 ∷ []) ∷ (4 ∷ 5 ∷ []) ∷ []
first = refl

last : lines_with 2 (7 ∷ []) ((3 ∷ []) ∷ (4 ∷ 5 ∷ []) ∷ []) ≡ (3 ∷ []) ∷ (7 ∷ []) ∷ []
last = refl

neither : lines_with 0 (7 ∷ []) ((3 ∷ []) ∷ (4 ∷ 5 ∷ []) ∷ []) ≡ (3 ∷ []) ∷ (4 ∷ 5 ∷ []) ∷ []
neither = refl

behind : lines_with 3 (7 ∷ []) ((3 ∷ []) ∷ (4 ∷ 5 ∷ []) ∷ []) ≡ (3 ∷ []) ∷ (4 ∷ 5 ∷ []) ∷ []
behind = refl
