-- Messages by the numbers of their ends, and the names of the events by number.
use Rattle.std.specs.Prelude.{◌+◌, ℕ, List, ◌++◌, length, map}
use Rattle.problem_model.specs.declared.items.Message.{Message}
use Rattle.decl.specs.Declaration.{link_bounds}
use Rattle.traces.specs.Seen.{Seen}
use Rattle.traces.specs.declared.event_id.EventId.{EventId}
use Rattle.traces.specs.Traces.{host_of}
use Rattle.msg_match.specs.declared.change.Couple.{Couple}
use Rattle.msg_match.specs.Ends.{ids_from}
use Rattle.roster.specs.Groups.{group_at}
use Rattle.roster.specs.Roster.{RosterLists, id_of, event_at}

-- ---- messages
-- the host of the event with this number
abbrev pub host_of_event : RosterLists → ℕ → ℕ
host_of_event r v = host_of r.declaration (id_of (event_at r.came v))

-- a message between two numbers, with the bounds of the link from its send's host to its receive's
abbrev pub message_by : RosterLists → Couple → Message
message_by r c =
    let bounds = link_bounds r.declaration (host_of_event r c.send) (host_of_event r c.receive) in
    record { send = c.send; receive = c.receive; least = bounds.0; most = bounds.1 }

-- ---- names
-- the names of all events, with those of more events of a label behind them
abbrev pub names_then : RosterLists → ℕ → List Seen → List EventId
names_then r label more = map id_of r.came ++ ids_from label (length (group_at r.under label) + 1) more
