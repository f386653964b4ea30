-- What the parts of a merge promise each other.
use Rattle.std.specs.Prelude.{◌≡◌, ◌<◌, ℕ, List, [], ◌∷◌, ◌++◌, length, slice_index_or, codes, ℤ, pos}
use Rattle.std.specs.List.{flat_map}
use Rattle.atto.specs.Decimal.{decimal_of}
use Rattle.line_format.specs.Words.{line_of}
use Rattle.problem_model.specs.declared.items.Node.TheVariants as nodes
use Rattle.problem_model.specs.Bounds.{Times}
use Rattle.problem.specs.Listing.{Listed}
use Rattle.problem_model.specs.Executions.{at}
use Rattle.decl.specs.Declaration.{Declaration}
use Rattle.traces.specs.Traces.{Placed}
use Rattle.report.specs.Merging.{IsMergeOrder}
use Rattle.replies.specs.Merged.{keys_from, line_at}

-- the node that a listing gives for the event at a place
abbrev pub listed_node : Listed → ℕ → ℕ
listed_node l place = (slice_index_or l.events place (0, 0)).1

-- the events' real times by the values of their nodes
abbrev pub times_by : Listed → List ℤ → Times
times_by l values (nodes.Event k) = at values (listed_node l k)
times_by l values (nodes.Reading clock stamp) = pos 0

-- so many events are listed, and the node of each has a value
pub record AreValued (l : Listed) (count : ℕ) (values : List ℤ) : Type 0 where
  pub as_many : length l.events ≡ count
  pub valued : (place : ℕ) → place < count → listed_node l place < length values

-- the line of how many events there are
abbrev pub count_line : ℕ → List ℕ
count_line count = line_of (codes "merge" ∷ decimal_of count ∷ [])

-- the lines of these events, by their places
abbrev pub lines_merged : Declaration → Times → List Placed → List ℕ → List ℕ
lines_merged d x events order = flat_map (line_at d x events) order

-- the text has the number of these events, and then their lines in the order of their times
abbrev pub IsTextBy : Declaration → Times → List Placed → List ℕ → Type 0
IsTextBy d x events text = (order : List ℕ) × IsMergeOrder (keys_from x 0 events) order × (text ≡ count_line (length events) ++ lines_merged d x events order)
