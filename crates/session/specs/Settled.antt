-- Packets at the times of their events in the earliest execution.
use Rattle.std.specs.Prelude.{◌≡◌, ℕ, suc, ◌-◌, ◌<◌, List, length, map, slice_get, slice_index_or, Some, ℤ}
use Rattle.problem_model.specs.declared.items.Node.TheVariants as nodes
use Rattle.problem_model.specs.Bounds.{Times}
use Rattle.problem_model.specs.Executions.{at}
use Rattle.problem_model.specs.Solutions.{IsEarliestExecution}
use Rattle.decl.specs.Declaration.{Declaration}
use Rattle.mergecap.specs.MergedCapture.{Timed}
use Rattle.traces.specs.Seen.{Seen}
use Rattle.traces.specs.declared.event_id.EventId.{EventId}
use Rattle.traces.specs.Traces.{events_of}
use Rattle.traces.specs.Messages.{place_of, problem_of_seen}
use Rattle.solver.specs.Solver.{SolverLists}
use Rattle.roster.specs.Groups.{group_at}
use Rattle.roster.specs.Roster.{RosterLists, event_at}

-- the event of a packet
abbrev pub event_of : Timed → EventId
event_of t = record { label = t.key.place; number = t.key.n }

-- the label at the place has an event of this number
abbrev pub HasEventOf : List (List Seen) → Timed → Type 0
HasEventOf seen t = (own : List Seen) × (k : ℕ) × (slice_get seen t.key.place ≡ Some own) × (t.key.n ≡ suc k) × (k < length own)

-- the packet at another time
abbrev pub at_time : ℤ → Timed → Timed
at_time value t = record { key = record { value = value; place = t.key.place; n = t.key.n }; packet = t.packet }

-- the packet at the time of its event
abbrev pub settled : List (List Seen) → Times → Timed → Timed
settled seen x t = at_time (x (nodes.Event (place_of (events_of seen) (event_of t)))) t

-- the same packets, each at the time of its event in the earliest execution
pub record AreSettled (d : Declaration) (seen : List (List Seen)) (old new : List Timed) : Type 0 where
  pub times : Times
  pub earliest : IsEarliestExecution (problem_of_seen d seen) times
  pub are : new ≡ map (settled seen times) old

-- ---- by what stands ready
-- the node of an event
abbrev pub node_of : RosterLists → EventId → ℕ
node_of r event = (event_at r.came (slice_index_or (group_at r.under event.label) (event.number - 1) 0)).node

-- the packet at the value of its event's node
abbrev pub valued : RosterLists → SolverLists → Timed → Timed
valued r s t = at_time (at s.earliest.values (node_of r (event_of t))) t
