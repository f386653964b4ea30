-- Cuts: sets of nodes that no arc leaves.
use Rattle.std.specs.Prelude.{◌≡◌, ℕ, Bool, true, if◌then◌else◌, ℤ, pos, ◌+ℤ◌, List, All}
use Rattle.problem_model.specs.Executions.{Arc, at}

-- no arc goes from a node inside to a node outside
abbrev pub IsCut : List Arc → (ℕ → Bool) → Type 0
IsCut arcs inside = All (λ a. inside a.from ≡ true → inside a.to ≡ true) arcs

-- the values, with so much added to every node outside: of an execution and a cut an execution again, for any number
abbrev pub raised_outside : (ℕ → Bool) → ℕ → List ℤ → ℕ → ℤ
raised_outside inside by xs k = if inside k then at xs k else (at xs k +ℤ pos by)
