-- The earliest execution of those with no value below 0.
use Rattle.std.specs.Prelude.{ℕ, ℤ, pos, neg_ℤ, ◌≤ℤ◌, List, All}
use Rattle.problem_model.specs.Executions.{Arc, at, IsExecution}

-- no value is below 0
abbrev pub IsNonNegative : (ℕ → ℤ) → Type 0
IsNonNegative x = (k : ℕ) → pos 0 ≤ℤ x k

-- an execution with no value below 0, each of whose values is the least that such an execution has there
pub record IsEarliest (nodes : ℕ) (arcs : List Arc) (xs : List ℤ) : Type 0 where
  pub execution : IsExecution nodes arcs xs
  pub non_negative : IsNonNegative (at xs)
  pub least : (ys : List ℤ) → IsExecution nodes arcs ys → IsNonNegative (at ys) → (k : ℕ) → at xs k ≤ℤ at ys k

-- each weight is at most the height in absolute value
abbrev pub AreUpTo : ℕ → List Arc → Type 0
AreUpTo height arcs = All (λ a. (neg_ℤ (pos height) ≤ℤ a.weight) × (a.weight ≤ℤ pos height)) arcs
