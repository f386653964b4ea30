-- What was accepted under each label, and the events of it.
use Rattle.std.specs.Prelude.{ℕ, ◌+◌, List, [], ◌∷◌, ◌++◌, length, map, sum_by, slice_get, Option, Some, None, Bool, ◌==◌, ◌&&◌}
use Rattle.atto.specs.Decimal.{decimal_of}
use Rattle.event_log.specs.declared.row.Row.{Row}
use Rattle.decl.specs.declared.items.Label.{Label}
use Rattle.decl.specs.declared.items.TraceKind.{TraceKind}
use Rattle.decl.specs.declared.items.TraceKind.TheVariants.{Capture, Log}
use Rattle.decl.specs.Declaration.{Declaration}
use Rattle.captures.specs.Capture as captures
use Rattle.captures.specs.Capture.{Dropped, Passed, Reads, none_dropped, none_passed, nothing}
use Rattle.traces.specs.Seen.{Seen, seen_row, event_of_packet}
use Rattle.traces.specs.declared.event_id.EventId.{EventId}

-- ---- what was accepted
-- under one label: the bytes of a capture, and what they stand for; the rows of a log, and how many bytes they came in
pub data Trace : Type 0 where
  Captured : List ℕ → captures.Capture → Trace
  Logged : List Row → ℕ → Trace

-- under each label, by its place
abbrev pub Traces : Type 0
Traces = List Trace

-- how many bytes were accepted under a label
abbrev pub bytes_accepted : Trace → ℕ
bytes_accepted (Captured bytes capture) = length bytes
bytes_accepted (Logged rows size) = size

-- how many packets under a label were passed over; of a log none are
abbrev pub passed_of : Trace → Passed
passed_of (Captured bytes capture) = capture.passed
passed_of (Logged rows size) = none_passed

-- how many packets under a label were dropped before they were captured; a log tells of none
abbrev pub dropped_of : Trace → Dropped
dropped_of (Captured bytes capture) = capture.dropped
dropped_of (Logged rows size) = none_dropped

-- the packets under a label that have no event: those that were passed over, and those that were dropped before
pub record Missed : Type 0 where
  pub passed : Passed
  pub dropped : Dropped

-- how many they are
abbrev pub missed_of : Trace → Missed
missed_of t = record { passed = passed_of t; dropped = dropped_of t }

-- nothing was accepted yet
abbrev pub nothing_for : TraceKind → Trace
nothing_for Capture = Captured [] nothing
nothing_for Log = Logged [] 0

-- what was accepted is of the label's kind, and the bytes of a capture stand for this
abbrev pub IsOfKind : TraceKind → Trace → Type 0
IsOfKind Capture (Captured bytes capture) = Reads bytes capture
IsOfKind Capture (Logged rows size) = ⊥
IsOfKind Log (Captured bytes capture) = ⊥
IsOfKind Log (Logged rows size) = Unit {0}

-- ---- what it says
-- the events of what was accepted under this label, in its order
abbrev pub seen_of : Declaration → Label → Trace → List Seen
seen_of d l (Captured bytes capture) = map (event_of_packet d l) capture.packets
seen_of d l (Logged rows size) = map (seen_row d l) rows

-- the events of each label, by what was accepted under it
abbrev pub seen_under : Declaration → List Label → Traces → List (List Seen)
seen_under d [] traces = []
seen_under d (label ∷ labels) [] = []
seen_under d (label ∷ labels) (trace ∷ traces) = seen_of d label trace ∷ seen_under d labels traces

-- the events of each label of a declaration
abbrev pub seen_by : Declaration → Traces → List (List Seen)
seen_by d traces = seen_under d d.labels traces

-- ---- all events
-- an event, by the place of its label and its number there
pub record Placed : Type 0 where
  pub id : EventId
  pub seen : Seen

-- the events of one label, numbered from n on
abbrev pub numbered : ℕ → ℕ → List Seen → List Placed
numbered label n [] = []
numbered label n (s ∷ more) = (record { id = record { label = label; number = n }; seen = s }) ∷ numbered label (n + 1) more

-- those of the labels from a place on
abbrev pub events_from : ℕ → List (List Seen) → List Placed
events_from label [] = []
events_from label (seen ∷ more) = numbered label 1 seen ++ events_from (label + 1) more

-- all events, by the place of their label and then by number, which counts from 1
abbrev pub events_of : List (List Seen) → List Placed
events_of seen = events_from 0 seen

-- how many there are
abbrev pub event_count : List (List Seen) → ℕ
event_count seen = sum_by length seen

-- two names of one event
abbrev pub is_same : EventId → EventId → Bool
is_same a b = (a.label == b.label) && (a.number == b.number)

-- a label's name, `#` and a number
abbrev pub numbered_name : Option Label → ℕ → List ℕ
numbered_name None n = []
numbered_name (Some label) n = label.name ++ 35 ∷ decimal_of n

-- the name of an event
abbrev pub name_of : Declaration → EventId → List ℕ
name_of d id = numbered_name (slice_get d.labels id.label) id.number

-- the host of a label
abbrev pub host_by : Option Label → ℕ
host_by None = 0
host_by (Some label) = label.host

-- the host that an event happened at
abbrev pub host_of : Declaration → EventId → ℕ
host_of d id = host_by (slice_get d.labels id.label)

-- the clock of a label
abbrev pub clock_by : Option Label → ℕ
clock_by None = 0
clock_by (Some label) = label.clock

-- the clock that an event was stamped by
abbrev pub clock_of : Declaration → EventId → ℕ
clock_of d id = clock_by (slice_get d.labels id.label)
