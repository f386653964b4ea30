-- The lines of an execution's text, and when one may stand behind the values so far.
use Rattle.std.specs.Prelude.{◌≡◌, ℕ, ◌+◌, ◌≤◌, List, [], ◌∷◌, ◌++◌, length, codes, slice_get, Some, All, ℤ}
use Rattle.atto.specs.Decimal.{decimal_of}
use Rattle.atto.specs.NsText.{ns_text}
use Rattle.atto.specs.Number.{FitsUnits}
use Rattle.line_format.specs.Words.{line_of}
use Rattle.line_format.specs.Format.{Format}
use Rattle.problem_model.specs.declared.items.Node.{Node}
use Rattle.problem_model.specs.declared.items.Node.TheVariants as nodes
use Rattle.problem_model.specs.Name.{IsEventName, IsClockName}
use Rattle.problem_model.specs.Problem.{ProblemLists}
use Rattle.problem_model.specs.Nodes.{Reading, nodes_of}
use Rattle.problem_model.specs.ProblemText.{clock_name, event_name}
use Rattle.problem_model.specs.ExecutionText.{execution_head, value_lines}

-- a line of an execution's text; numbers are as large as they are written
pub data ExecutionLine : Type 0 where
  EventLine : List ℕ → ℤ → ExecutionLine
  ReadingLine : List ℕ → ℕ → ℤ → ExecutionLine
  EndLine : ExecutionLine

-- the words of a line
abbrev pub line_words : ExecutionLine → List (List ℕ)
line_words (EventLine name value) = codes "event" ∷ name ∷ ns_text value ∷ []
line_words (ReadingLine clock stamp value) = codes "reading" ∷ clock ∷ decimal_of stamp ∷ ns_text value ∷ []
line_words EndLine = codes "end" ∷ []

-- each name is spelled as one of its kind
abbrev pub IsSpelled : ExecutionLine → Type 0
IsSpelled (EventLine name value) = IsEventName name
IsSpelled (ReadingLine clock stamp value) = IsClockName clock
IsSpelled EndLine = Unit {0}

-- the real time is in its range
abbrev pub NumbersFit : ExecutionLine → Type 0
NumbersFit (EventLine name value) = FitsUnits value
NumbersFit (ReadingLine clock stamp value) = FitsUnits value
NumbersFit EndLine = Unit {0}

-- at most so many values, each in range
pub record AreValues (limit : ℕ) (values : List ℤ) : Type 0 where
  pub fit : All FitsUnits values
  pub few : length values ≤ limit

module _ (p : ProblemLists) (readings : List Reading) where
  -- the node that the next value is for
  abbrev pub IsNext : List ℤ → Node → Type 0
  IsNext values node = slice_get (nodes_of p readings) (length values) ≡ Some node

  -- the line may follow: its form is fixed by the place
  abbrev pub MayStand : List ℤ → ExecutionLine → Type 0
  MayStand values (EventLine name value) = (event : ℕ) × IsNext values (nodes.Event event)
  MayStand values (ReadingLine clock stamp value) = (place : ℕ) × (at : ℕ) × IsNext values (nodes.Reading place at)
  MayStand values EndLine = length values ≡ length (nodes_of p readings)

  -- the line names the node whose turn it is
  abbrev pub NamesFit : List ℤ → ExecutionLine → Type 0
  NamesFit values (EventLine name value) = (event : ℕ) × IsNext values (nodes.Event event) × (name ≡ event_name p.events event)
  NamesFit values (ReadingLine clock stamp value) = (place : ℕ) × IsNext values (nodes.Reading place stamp) × (clock ≡ clock_name p.clocks place)
  NamesFit values EndLine = Unit {0}

  -- all of these as a `Format`, whose state is the list of the values so far
  abbrev pub execution_format : Format (List ℤ) ExecutionLine
  execution_format = record {
    head = execution_head;
    end = EndLine;
    line_words = line_words;
    IsSpelled = IsSpelled;
    MayStand = MayStand;
    NamesFit = NamesFit;
    NumbersFit = NumbersFit;
    HasRoom = λ values line. Unit {0};
    IsSound = AreValues (length (nodes_of p readings));
    text_of = λ values. line_of execution_head ++ value_lines p (nodes_of p readings) values;
    lines_of = λ values. length values + 1;
  }
