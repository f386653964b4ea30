-- Paths along arcs, their sums, and negative cycles.
use Rattle.std.specs.Prelude.{◌≡◌, ℕ, ◌<◌, ℤ, pos, ◌+ℤ◌, ◌<ℤ◌, List, [], ◌∷◌, length, slice_index_or, All, Contains}
use Rattle.problem_model.specs.Executions.{Arc}

-- each step begins where the one before it ended, from p to q
abbrev pub Joins : ℕ → List Arc → ℕ → Type 0
Joins p [] q = p ≡ q
Joins p (a ∷ steps) q = (a.from ≡ p) × Joins a.to steps q

-- the sum of the weights
abbrev pub sum_of : List Arc → ℤ
sum_of [] = pos 0
sum_of (a ∷ steps) = a.weight +ℤ sum_of steps

-- the steps are arcs of the list, and lead from p to q
pub record IsPath (arcs : List Arc) (p q : ℕ) (steps : List Arc) : Type 0 where
  pub within : All (Contains arcs) steps
  pub joined : Joins p steps q

-- a closed chain of arcs whose weights have a negative sum (so it has one or more arcs)
pub record IsContradiction (arcs : List Arc) (steps : List Arc) : Type 0 where
  pub closed : (p : ℕ) × IsPath arcs p p steps
  pub negative : sum_of steps <ℤ pos 0

-- the nodes along a chain that begins at p
abbrev pub stops : ℕ → List Arc → List ℕ
stops p [] = p ∷ []
stops p (a ∷ steps) = p ∷ stops a.to steps

-- no node comes twice along the chain
abbrev pub IsSimple : ℕ → List Arc → Type 0
IsSimple p steps = (i j : ℕ) → i < length (stops p steps) → j < length (stops p steps) → slice_index_or (stops p steps) i 0 ≡ slice_index_or (stops p steps) j 0 → i ≡ j
