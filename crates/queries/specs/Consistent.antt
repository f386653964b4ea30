-- Whether a problem has an execution.
use Rattle.std.specs.Prelude.{Bool, true, false}
use Rattle.problem_model.specs.Problem.{ProblemLists}
use Rattle.problem_model.specs.Bounds.{Times, IsExecution}

-- whether some execution obeys the bounds
abbrev pub IsConsistent : ProblemLists → Bool → Type 0
IsConsistent p true = (x : Times) × IsExecution p x
IsConsistent p false = (x : Times) → IsExecution p x → ⊥
