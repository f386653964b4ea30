-- Events with the moments at which their groups begin, as the plain search holds them.
use Rattle.std.specs.Prelude.{ℤ, int_lt, if◌then◌else◌, List, map, Option, Some, None, option_map}
use Rattle.traces.specs.Seen.{EventKey, SeenMark, Keyed, Unkeyed, SeenMoment, mark_of, message_of, seen_moment, text_of}
use Rattle.traces.specs.Traces.{Placed}
use Rattle.traces.specs.declared.event.MessageKey.{MessageKey}
use Rattle.traces.specs.declared.event.Moment.{Moment}
use Rattle.reference_traces.specs.declared.groups.GroupedEvent.{GroupedEvent}

-- the later one of a time and another one that may be there
abbrev pub later : Option ℤ → ℤ → ℤ
later None time = time
later (Some other) time = if int_lt other time then time else other

-- the key of a group
abbrev pub group_of : MessageKey → Option Moment → EventKey
group_of message moment = record { message = message_of message; moment = option_map seen_moment moment }

-- a mark with another moment
abbrev pub mark_at : Option SeenMoment → SeenMark → SeenMark
mark_at moment (Keyed key side) = Keyed (record { message = key.message; moment = moment }) side
mark_at moment (Unkeyed reason) = Unkeyed reason

-- an event by its group
abbrev pub grouped_event : GroupedEvent → Placed
grouped_event g = record { id = g.placed.id; seen = record { stamp = g.placed.event.now.stamp; mark = mark_at (option_map seen_moment g.moment) (mark_of g.placed.event.now.mark); text = text_of g.placed.event.now.text } }

-- events by their groups
abbrev pub grouped_events : List GroupedEvent → List Placed
grouped_events events = map grouped_event events
