-- The greatest and least difference of two nodes over all executions, and their order.
use Rattle.std.specs.Prelude.{◌≡◌, ℕ, ℤ, neg_ℤ, ◌≤ℤ◌, ◌<ℤ◌, List}
use Rattle.problem_model.specs.Executions.{Arc, at, difference, IsExecution}

-- h is the maximum of x_q - x_p, and an execution has it
pub record IsGreatest (nodes : ℕ) (arcs : List Arc) (p q : ℕ) (h : ℤ) : Type 0 where
  pub attained : (xs : List ℤ) × IsExecution nodes arcs xs × (difference (at xs) p q ≡ h)
  pub most : (xs : List ℤ) → IsExecution nodes arcs xs → difference (at xs) p q ≤ℤ h

-- x_q - x_p has no upper limit over the executions
abbrev pub IsUnbounded : ℕ → List Arc → ℕ → ℕ → Type 0
IsUnbounded nodes arcs p q = (h : ℤ) → (xs : List ℤ) × IsExecution nodes arcs xs × (h <ℤ difference (at xs) p q)

-- the least x_q - x_p is the negative of the greatest x_p - x_q
abbrev pub IsLeast : ℕ → List Arc → ℕ → ℕ → ℤ → Type 0
IsLeast nodes arcs p q h = IsGreatest nodes arcs q p (neg_ℤ h)

-- p comes before q in every execution
abbrev pub IsAlwaysBefore : ℕ → List Arc → ℕ → ℕ → Type 0
IsAlwaysBefore nodes arcs p q = (xs : List ℤ) → IsExecution nodes arcs xs → at xs p <ℤ at xs q

-- p comes after q in every execution
abbrev pub IsAfter : ℕ → List Arc → ℕ → ℕ → Type 0
IsAfter nodes arcs p q = IsAlwaysBefore nodes arcs q p

-- p and q come at the same time in every execution
abbrev pub IsSimultaneous : ℕ → List Arc → ℕ → ℕ → Type 0
IsSimultaneous nodes arcs p q = (xs : List ℤ) → IsExecution nodes arcs xs → at xs p ≡ at xs q

-- none of these three is so
abbrev pub IsOpen : ℕ → List Arc → ℕ → ℕ → Type 0
IsOpen nodes arcs p q = (IsAlwaysBefore nodes arcs p q → ⊥) × (IsAfter nodes arcs p q → ⊥) × (IsSimultaneous nodes arcs p q → ⊥)
