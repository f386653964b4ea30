-- A number for each clock, by its chain.
use Rattle.std.specs.Prelude.{◌≡◌, ℕ, ◌<◌, ◌⊎◌, ◌↔◌, [], ◌∷◌, ◌++◌, length}
use Rattle.problem_model.specs.declared.items.Follow.{Follow}
use Rattle.problem_model.specs.Problem.{ProblemLists}
use Rattle.problem_model.specs.Bounds.{ComesAfter}

-- of two clocks the one that stands behind the other comes after it exactly where both have one number
abbrev pub AreChainNumbers : ProblemLists → (ℕ → ℕ) → Type 0
AreChainNumbers p number = (c d : ℕ) → c < d → d < length p.clocks → (number c ≡ number d) ↔ ComesAfter p c d

-- the problem with one follow more, at the end of its list
abbrev pub with_follow : ProblemLists → Follow → ProblemLists
with_follow p f = record p { follows = p.follows ++ f ∷ [] }

-- clock k is clock l or comes after it
abbrev pub IsFrom : ProblemLists → ℕ → ℕ → Type 0
IsFrom p l k = (l ≡ k) ⊎ ComesAfter p l k

-- the clocks from the later one of the follow on take the number of the earlier one, and all others keep theirs
abbrev pub JoinsChains : ProblemLists → Follow → (ℕ → ℕ) → (ℕ → ℕ) → Type 0
JoinsChains p f old new = (k : ℕ) → k < length p.clocks → (IsFrom p f.later k × (new k ≡ old f.earlier)) ⊎ ((IsFrom p f.later k → ⊥) × (new k ≡ old k))
