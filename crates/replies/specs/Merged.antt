-- The events of all labels, merged by their times in the earliest execution.
use Rattle.std.specs.Prelude.{◌≡◌, ℕ, ◌+◌, List, [], ◌∷◌, ◌++◌, length, slice_get, Option, Some, None, codes}
use Rattle.std.specs.List.{flat_map}
use Rattle.atto.specs.Decimal.{decimal_of}
use Rattle.line_format.specs.Words.{line_of}
use Rattle.problem_model.specs.declared.items.Node.TheVariants as nodes
use Rattle.problem_model.specs.Bounds.{Times}
use Rattle.problem_model.specs.Solutions.{IsEarliestExecution}
use Rattle.decl.specs.Declaration.{Declaration}
use Rattle.traces.specs.Seen.{Seen}
use Rattle.traces.specs.Traces.{Placed, events_of, name_of}
use Rattle.traces.specs.Messages.{problem_of_seen}
use Rattle.report.specs.declared.merge.MergeKey.{MergeKey}
use Rattle.report.specs.Merging.{IsMergeOrder, merge_line}

-- what events are merged by, in their order: the time of the event at each place, which counts from k on, its label and its
-- number there
abbrev pub keys_from : Times → ℕ → List Placed → List MergeKey
keys_from x k [] = []
keys_from x k (e ∷ more) = (record { value = x (nodes.Event k); place = e.id.label; n = e.id.number }) ∷ keys_from x (k + 1) more

-- the line of an event, if there is one, at this place
abbrev pub line_if : Declaration → Times → ℕ → Option Placed → List ℕ
line_if d x k None = []
line_if d x k (Some e) = merge_line (x (nodes.Event k)) (name_of d e.id) e.seen.text

-- the line of the event at a place
abbrev pub line_at : Declaration → Times → List Placed → ℕ → List ℕ
line_at d x events k = line_if d x k (slice_get events k)

-- the text has the number of all events, and then the line of each, sorted by their times in the earliest execution, then by
-- the places of their labels, then by number
pub record IsMergeText (d : Declaration) (seen : List (List Seen)) (text : List ℕ) : Type 0 where
  pub times : Times
  pub earliest : IsEarliestExecution (problem_of_seen d seen) times
  pub order : List ℕ
  pub sorted : IsMergeOrder (keys_from times 0 (events_of seen)) order
  pub is : text ≡ line_of (codes "merge" ∷ decimal_of (length (events_of seen)) ∷ []) ++ flat_map (line_at d times (events_of seen)) order
