-- What `ends` prints and answers.
use Rattle.std.specs.Prelude.{◌≡◌, ◌⊎◌, ℕ, List, [], ◌∷◌, codes}
use Rattle.ports.specs.Files.{FilesTold}
use Rattle.line_format.specs.Words.{line_of}
use Rattle.problem_model.specs.declared.items.Node.TheVariants as nodes
use Rattle.problem_model.specs.Problem.{ProblemLists}
use Rattle.problem.specs.Line.{HasEvent, IsUnknown}
use Rattle.intervals.specs.declared.ends.Ends.{Ends}
use Rattle.intervals.specs.declared.order.Order.{Order}
use Rattle.intervals.specs.Executions.{time_difference, AreEndsOf, IsOrderOf}
use Rattle.queries.specs.Words.{end_word, order_word}
use Rattle.queries.specs.Replies.{IsContradictionText}
use Rattle.problem_commands.specs.Printing.{IsOnlyText}
use Rattle.problem_commands.specs.ForProblem.{ForProblem}
use Rattle.problem_commands.specs.declared.status.Status.{Status}
use Rattle.problem_commands.specs.declared.status.Status.TheVariants.{Done, UnknownName}

-- ---- the text
-- the line of an interval and an order
abbrev pub interval_line : Ends → Order → List ℕ
interval_line e order = line_of (end_word (codes "-inf") e.least ∷ end_word (codes "+inf") e.greatest ∷ order_word order ∷ [])

-- the line has the least and the greatest difference from one event to another over all executions, and their order
abbrev pub IsIntervalAndOrderLine : ProblemLists → ℕ → ℕ → List ℕ → Type 0
IsIntervalAndOrderLine p from to line = (e : Ends) × (order : Order) × AreEndsOf p (time_difference (nodes.Event from) (nodes.Event to)) e
    × IsOrderOf p (nodes.Event from) (nodes.Event to) order × (line ≡ interval_line e order)

-- the interval and the order where there is an execution, else a contradiction
abbrev pub IsIntervalAndOrderText : ProblemLists → ℕ → ℕ → List ℕ → Type 0
IsIntervalAndOrderText p from to text = IsIntervalAndOrderLine p from to text ⊎ IsContradictionText p text

-- ---- ends
-- what is printed of two events
abbrev pub TellsInterval : ProblemLists → ℕ → ℕ → Status → List ℕ → Type 0
TellsInterval p from to status text = (status ≡ Done) × IsIntervalAndOrderText p from to text

-- what is printed of the events of two names: their interval, or that a name is no event's
abbrev pub TellsNamed : ProblemLists → List ℕ → List ℕ → Status → List ℕ → Type 0
TellsNamed p first second status text = ((from : ℕ) × (to : ℕ) × HasEvent p from first × HasEvent p to second × TellsInterval p from to status text)
    ⊎ ((IsUnknown p first ⊎ IsUnknown p second) × IsOnlyText (codes "unknown event\n") UnknownName status text)

-- what `ends` prints, with which status, and when
abbrev pub IntervalAnswered : List ℕ → List ℕ → List ℕ → FilesTold → FilesTold → Status → List ℕ → Type 0
IntervalAnswered problem first second = ForProblem (λ p. TellsNamed p first second) problem
