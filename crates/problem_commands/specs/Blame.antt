-- What `blame` prints and answers.
use Rattle.std.specs.Prelude.{◌≡◌, ℕ, List}
use Rattle.ports.specs.Files.{FilesTold}
use Rattle.problem_model.specs.Problem.{ProblemLists}
use Rattle.widen.specs.Blame.{IsBlameText}
use Rattle.problem_commands.specs.ForProblem.{ForProblem}
use Rattle.problem_commands.specs.declared.status.Status.{Status}
use Rattle.problem_commands.specs.declared.status.Status.TheVariants.{Done}

-- what is printed of a problem
abbrev pub TellsBlame : ProblemLists → Status → List ℕ → Type 0
TellsBlame p status text = (status ≡ Done) × IsBlameText p text

-- what `blame` prints, with which status, and when
abbrev pub Blamed : List ℕ → FilesTold → FilesTold → Status → List ℕ → Type 0
Blamed = ForProblem TellsBlame
