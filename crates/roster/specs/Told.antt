-- The messages of what a roster holds, with their ends by number, as the roster tells of them.
use Rattle.std.specs.Prelude.{◌≡◌, ℕ, ◌-◌, List, map, slice_get, slice_index_or, Some, Contains}
use Rattle.problem_model.specs.declared.items.Message.{Message}
use Rattle.decl.specs.Declaration.{link_bounds}
use Rattle.traces.specs.Seen.{Seen}
use Rattle.traces.specs.declared.event_id.EventId.{EventId}
use Rattle.traces.specs.declared.event_id.Couple.{Couple}
use Rattle.traces.specs.Traces.{events_of, host_of}
use Rattle.traces.specs.Messages.{messages_of}
use Rattle.roster.specs.declared.came.Came.{Came}
use Rattle.roster.specs.declared.came.Partner.{Partner}
use Rattle.roster.specs.Groups.{group_at}
use Rattle.roster.specs.Roster.{RosterLists}
use Rattle.roster.specs.Withdrawing.{HasMessage}

-- the number of the event that its label numbers so
abbrev pub number_of : List (List ℕ) → EventId → ℕ
number_of under id = slice_index_or (group_at under id.label) (id.number - 1) 0

-- a message with its ends by number, with the bounds of the link from its send's host to its receive's
abbrev pub numbered_message : RosterLists → Couple → Message
numbered_message r m =
    let bounds = link_bounds r.declaration (host_of r.declaration m.send) (host_of r.declaration m.receive) in
    record { send = number_of r.under m.send; receive = number_of r.under m.receive; least = bounds.0; most = bounds.1 }

-- the messages among all events, by number
abbrev pub messages_by_number : RosterLists → List (List Seen) → List Message
messages_by_number r seen = map (numbered_message r) (messages_of (events_of seen))

-- the roster tells of each message at its send, and of no others
pub record TellsMessages (r : RosterLists) (messages : List Message) : Type 0 where
  pub each : (m : Message) → Contains messages m → (e : Came) × (p : Partner) × (slice_get r.came m.send ≡ Some e) × (e.partner ≡ Some p) × (p.event ≡ m.receive)
  pub only : (v : ℕ) (e : Came) (p : Partner) → slice_get r.came v ≡ Some e → e.partner ≡ Some p → HasMessage messages v p.event
