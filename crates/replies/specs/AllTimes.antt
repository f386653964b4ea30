-- The ends of one quantity of every event, line by line.
use Rattle.std.specs.Prelude.{◌≡◌, ℕ, List, [], ◌∷◌, ◌++◌, length, slice_get, Some, codes}
use Rattle.atto.specs.Decimal.{decimal_of}
use Rattle.line_format.specs.Words.{line_of}
use Rattle.problem_model.specs.declared.items.Event.{Event}
use Rattle.problem_model.specs.declared.items.Node.TheVariants as nodes
use Rattle.problem_model.specs.Problem.{ProblemLists}
use Rattle.problem_model.specs.Bounds.{IsReading}
use Rattle.intervals.specs.declared.ends.Ends.{Ends}
use Rattle.intervals.specs.Executions.{time_difference, time_by, AreEndsOf}
use Rattle.queries.specs.Words.{end_word}

-- the least and the greatest time of an event by a clock, over all executions: the same by each of its readings
abbrev pub AreTimesBy : ProblemLists → ℕ → ℕ → Ends → Type 0
AreTimesBy p clock event ends = (stamp : ℕ) → IsReading p clock stamp → AreEndsOf p (time_by clock stamp (nodes.Event event)) ends

-- the least and the greatest difference from one event to another over all executions
abbrev pub AreEndsSince : ProblemLists → ℕ → ℕ → Ends → Type 0
AreEndsSince p first event ends = AreEndsOf p (time_difference (nodes.Event first) (nodes.Event event)) ends

-- a name with ends
abbrev pub ends_line : List ℕ → Ends → List ℕ
ends_line name ends = line_of (name ∷ end_word (codes "-inf") ends.least ∷ end_word (codes "+inf") ends.greatest ∷ [])

-- each event with its own
abbrev pub ends_lines : List Event → List Ends → List ℕ
ends_lines [] all = []
ends_lines (v ∷ events) [] = []
ends_lines (v ∷ events) (ends ∷ all) = ends_line v.name ends ++ ends_lines events all

-- the text has the number of all events, and then the line of each, by label and number, with such ends
pub record IsTimesText (p : ProblemLists) (AreEnds : ℕ → Ends → Type 0) (text : List ℕ) : Type 0 where
  pub all : List Ends
  pub each : length all ≡ length p.events
  pub are : (event : ℕ) (ends : Ends) → slice_get all event ≡ Some ends → AreEnds event ends
  pub is : text ≡ line_of (codes "times" ∷ decimal_of (length p.events) ∷ []) ++ ends_lines p.events all
