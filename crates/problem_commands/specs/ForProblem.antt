-- What a command prints of the problem in a file, and answers.
use Rattle.std.specs.Prelude.{◌≡◌, ◌⊎◌, ℕ, List, codes}
use Rattle.ports.specs.Files.{FilesTold, HasBytes}
use Rattle.problem_model.specs.Problem.{ProblemLists}
use Rattle.problem_commands.specs.Texts.{SpellsProblem, IsMissed, IsBadProblem}
use Rattle.problem_commands.specs.declared.status.Status.{Status}
use Rattle.problem_commands.specs.declared.status.Status.TheVariants.{BadProblem, ReadFault}

-- the text tells this of the problem in the file, with its status; or why that is no problem text, or that the file was not read
abbrev pub ForProblem : (ProblemLists → Status → List ℕ → Type 0) → List ℕ → FilesTold → FilesTold → Status → List ℕ → Type 0
ForProblem Tells problem old new status text = ((p : ProblemLists) × HasBytes old.content problem (SpellsProblem p) × Tells p status text)
    ⊎ ((status ≡ BadProblem) × IsBadProblem problem old.content text)
    ⊎ ((status ≡ ReadFault) × IsMissed problem old new × (text ≡ codes "read fault\n"))
