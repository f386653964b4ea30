-- What `thin` prints and answers.
use Rattle.std.specs.Prelude.{◌≡◌, ◌⊎◌, ℕ, List, All, Any, codes}
use Rattle.ports.specs.Files.{FilesTold}
use Rattle.problem_model.specs.Problem.{ProblemLists}
use Rattle.problem.specs.Line.{IsUnknown}
use Rattle.thinning.specs.Named.{IsKnown, IsThinText}
use Rattle.problem_commands.specs.Printing.{IsOnlyText}
use Rattle.problem_commands.specs.ForProblem.{ForProblem}
use Rattle.problem_commands.specs.declared.status.Status.{Status}
use Rattle.problem_commands.specs.declared.status.Status.TheVariants.{Done, UnknownName}

-- what is printed of a problem: such a text, or that a name is no event's
abbrev pub TellsThin : ProblemLists → List (List ℕ) → Status → List ℕ → Type 0
TellsThin p names status text = (All (IsKnown p) names × (status ≡ Done) × IsThinText p names text)
    ⊎ (Any (IsUnknown p) names × IsOnlyText (codes "unknown event\n") UnknownName status text)

-- what `thin` prints, with which status, and when
abbrev pub ProblemThinned : List ℕ → List (List ℕ) → FilesTold → FilesTold → Status → List ℕ → Type 0
ProblemThinned problem names = ForProblem (λ p. TellsThin p names) problem
