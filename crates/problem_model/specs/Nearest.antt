-- The nearest clocks before a clock, and the ends of a clock.
use Rattle.std.specs.Prelude.{◌≡◌, ℕ, ◌≤◌, ◌⊎◌}
use Rattle.problem_model.specs.Problem.{ProblemLists}
use Rattle.problem_model.specs.Bounds.{IsReading, ComesAfter}

-- s is the last reading of clock c
abbrev pub IsLastOn : ProblemLists → ℕ → ℕ → Type 0
IsLastOn p c s = IsReading p c s × ((u : ℕ) → IsReading p c u → u ≤ s)

-- t is the first reading of clock d
abbrev pub IsFirstOn : ProblemLists → ℕ → ℕ → Type 0
IsFirstOn p d t = IsReading p d t × ((u : ℕ) → IsReading p d u → t ≤ u)

-- d comes after c, and each other clock with a reading that d comes after has c after it
abbrev pub IsNearestBefore : ProblemLists → ℕ → ℕ → Type 0
IsNearestBefore p c d = ComesAfter p c d × ((b u : ℕ) → ComesAfter p b d → IsReading p b u → (b ≡ c) ⊎ ComesAfter p b c)
