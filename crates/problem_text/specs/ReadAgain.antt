-- What a text that is written is read as.
use Rattle.std.specs.Prelude.{◌≡◌, ℕ, List, Result, Ok, Err}
use Rattle.problem_model.specs.Problem.{ProblemLists}
use Rattle.problem.specs.Reading.{Reads}
use Rattle.problem.specs.declared.errors.ProblemError.{ProblemError}
use Rattle.problem.specs.declared.errors.ProblemError.TheVariants.{Memory}

-- this problem, or a refusal for want of memory
abbrev pub IsOrMemory : ProblemLists → Result ProblemLists ProblemError → Type 0
IsOrMemory p (Ok q) = q ≡ p
IsOrMemory p (Err e) = e ≡ Memory

-- whatever reading the text answers is this problem, or a refusal for want of memory
abbrev pub IsReadAs : List ℕ → ProblemLists → Type 0
IsReadAs text p = (result : Result ProblemLists ProblemError) → Reads text result → IsOrMemory p result
