-- Events of traces: what is seen of a row of a log, and of a packet.
use Rattle.std.specs.Prelude.{ℕ, ℤ, pos, ◌-ℤ◌, List, [], map, Option, Some, None, option_map, Result, Ok, Err, Bool, true, false, not, ◌==◌, ◌&&◌, if◌then◌else◌, nat_lt}
use Rattle.std.specs.Ordering.{int_eq}
use Rattle.std.specs.Str.{bytes_eq}
use Rattle.event_log.specs.declared.row.Kind.{Kind}
use Rattle.event_log.specs.declared.row.Kind.TheVariants as kinds
use Rattle.event_log.specs.declared.row.Row.{Row}
use Rattle.decl.specs.Declaration.{Declaration, offset_of, segment_of, whereabouts}
use Rattle.decl.specs.declared.items.Label.{Label}
use Rattle.decl.specs.declared.items.Whereabouts.{Whereabouts}
use Rattle.decl.specs.declared.items.Whereabouts.TheVariants.{Near, Unsaid, Beyond}
use Rattle.decl.specs.declared.items.IpVersion.TheVariants as versions
use Rattle.headers.specs.Decoding.{decoded}
use Rattle.headers.specs.Interfaces.{interface_of}
use Rattle.headers.specs.Keys.{is_same_packet}
use Rattle.headers.specs.declared.key.Network.{Network}
use Rattle.headers.specs.declared.key.Network.TheVariants.{V4, V6}
use Rattle.headers.specs.declared.key.PacketKey.{PacketKey}
use Rattle.headers.specs.declared.key.Reason.{Reason}
use Rattle.headers.specs.declared.key.Reason.TheVariants as reasons
use Rattle.headers.specs.declared.key.Wanted.{Wanted}
use Rattle.captures.specs.Capture as captured
use Rattle.traces.specs.declared.event.Side.{Side}
use Rattle.traces.specs.declared.event.Side.TheVariants.{Send, Receive}
use Rattle.traces.specs.declared.event.NoKey.{NoKey}
use Rattle.traces.specs.declared.event.NoKey.TheVariants as without
use Rattle.traces.specs.declared.event.Key.{Key}
use Rattle.traces.specs.declared.event.MessageKey.{MessageKey as MessageKeyOfCode}
use Rattle.traces.specs.declared.event.Content.{Content as ContentOfCode}
use Rattle.traces.specs.declared.event.Content.TheVariants as code
use Rattle.traces.specs.declared.event.Moment.{Moment}
use Rattle.traces.specs.declared.event.Mark.{Mark}
use Rattle.traces.specs.declared.event.Mark.TheVariants as marks
use Rattle.traces.specs.declared.event.Event.{Event}

-- ---- what is seen of an event
-- what stands in a message at both of its ends: the key of a packet, or a row's word
pub data Content : Type 0 where
  Packet : PacketKey → Content
  Word : List ℕ → Content

-- what a message is known by at both of its ends: the segment that its ends were seen on, by its number, and what stands in it
pub record MessageKey : Type 0 where
  pub segment : ℕ
  pub content : Content

-- when an event happened, and how far apart neighbouring events of one key may be, both in ns: the time is the event's
-- stamp less the offset of its clock
pub record SeenMoment : Type 0 where
  pub time : ℤ
  pub window : ℕ

-- what tells whether two events may belong together: what the message is known by, and where a window is declared, when the
-- event happened
pub record EventKey : Type 0 where
  pub message : MessageKey
  pub moment : Option SeenMoment

-- which end of which message an event is, or why it is none
pub data SeenMark : Type 0 where
  Keyed : EventKey → Side → SeenMark
  Unkeyed : NoKey → SeenMark

-- an event by itself: its stamp, its mark, and what a log says of it
pub record Seen : Type 0 where
  pub stamp : ℕ
  pub mark : SeenMark
  pub text : List ℕ

-- ---- one key
-- the same stands in two messages; those of different kinds never have the same
abbrev pub is_same_content : Content → Content → Bool
is_same_content (Packet a) (Packet b) = is_same_packet a b
is_same_content (Packet a) (Word b) = false
is_same_content (Word a) (Packet b) = false
is_same_content (Word a) (Word b) = bytes_eq a b

-- two messages are known by the same: the segment, and what stands in them
abbrev pub is_same_message : MessageKey → MessageKey → Bool
is_same_message a b = (a.segment == b.segment) && is_same_content a.content b.content

-- two times are one, and their windows too; or there is neither
abbrev pub is_same_moment : Option SeenMoment → Option SeenMoment → Bool
is_same_moment None None = true
is_same_moment None (Some b) = false
is_same_moment (Some a) None = false
is_same_moment (Some a) (Some b) = int_eq a.time b.time && (a.window == b.window)

-- two keys are one
abbrev pub is_same_key : EventKey → EventKey → Bool
is_same_key a b = is_same_message a.message b.message && is_same_moment a.moment b.moment

-- two ends are both sends, or both receives
abbrev pub is_same_side : Side → Side → Bool
is_same_side Send Send = true
is_same_side Send Receive = false
is_same_side Receive Send = false
is_same_side Receive Receive = true

-- whether a mark has this key and this side
abbrev pub is_mark : EventKey → Side → SeenMark → Bool
is_mark key side (Keyed other its_side) = is_same_key other key && is_same_side its_side side
is_mark key side (Unkeyed reason) = false

-- ---- times
-- when an event with this stamp of a clock happened, where a window is declared
abbrev pub moment_of : Declaration → ℕ → ℕ → Option SeenMoment
moment_of d clock stamp = option_map (λ window. record { time = pos stamp -ℤ offset_of d clock; window = window }) d.window

-- ---- rows of logs
-- the key of a message that was seen on this segment then
abbrev pub seen_key : ℕ → Option SeenMoment → Content → EventKey
seen_key segment moment content = record { message = record { segment = segment; content = content }; moment = moment }

-- the mark of a row that happened on this segment then: its kind says which end it is
abbrev pub mark_of_row : ℕ → Option SeenMoment → Kind → Option (List ℕ) → SeenMark
mark_of_row segment moment kinds.Send None = Unkeyed without.Local
mark_of_row segment moment kinds.Send (Some key) = Keyed (seen_key segment moment (Word key)) Send
mark_of_row segment moment kinds.Receive None = Unkeyed without.Local
mark_of_row segment moment kinds.Receive (Some key) = Keyed (seen_key segment moment (Word key)) Receive
mark_of_row segment moment kinds.Local key = Unkeyed without.Local

-- the event of a row of the trace of this label
abbrev pub seen_row : Declaration → Label → Row → Seen
seen_row d l row = record { stamp = row.stamp; mark = mark_of_row (segment_of d l) (moment_of d l.clock row.stamp) row.kind row.key; text = row.text }

-- ---- packets
-- why a packet has no key
abbrev pub no_key : Reason → NoKey
no_key reasons.Link = without.Link
no_key reasons.Other = without.Other
no_key reasons.Short = without.Short
no_key reasons.Header = without.Header
no_key reasons.Fragment = without.Fragment
no_key reasons.Length = without.Length

-- where a packet comes from and where it goes, as seen from where the trace of this label was taken
abbrev pub ends_of : Declaration → Label → Network → Whereabouts × Whereabouts
ends_of d l (V4 source target id) = (whereabouts d l versions.V4 source, whereabouts d l versions.V4 target)
ends_of d l (V6 source target) = (whereabouts d l versions.V6 source, whereabouts d l versions.V6 target)

-- how far out an address is: near, or it is not said, or beyond
abbrev pub depth : Whereabouts → ℕ
depth Near = 0
depth Unsaid = 1
depth Beyond = 2

-- a packet that goes outward was sent there, and one that comes inward was received; where it does neither, it has no side
abbrev pub mark_by : EventKey → Whereabouts → Whereabouts → SeenMark
mark_by key from to = if nat_lt (depth from) (depth to) then Keyed key Send else if nat_lt (depth to) (depth from) then Keyed key Receive else Unkeyed without.Side

-- the mark of a packet that was seen then, by what its headers say
abbrev pub mark_of_packet : Declaration → Label → Option SeenMoment → Result PacketKey Reason → SeenMark
mark_of_packet d l moment (Ok key) = let ends = ends_of d l key.network in mark_by (seen_key (segment_of d l) moment (Packet key)) ends.0 ends.1
mark_of_packet d l moment (Err reason) = Unkeyed (no_key reason)

-- a packet of this interface is none of the interface whose packets have keys, where a label names one
abbrev pub is_elsewhere : Option ℕ → Option ℕ → Bool
is_elsewhere None interface = false
is_elsewhere (Some own) None = true
is_elsewhere (Some own) (Some interface) = not (own == interface)

-- what belongs to the key of a packet
abbrev pub wanted_of : Declaration → Wanted
wanted_of d = record { payload_bytes = d.payload_bytes; tcp_options = d.tcp_options; fragments = d.fragments }

-- the mark of a packet in the trace of this label: it has no key where it was captured on another interface
abbrev pub mark_seen : Declaration → Label → captured.Seen → SeenMark
mark_seen d l p = if is_elsewhere l.interface (interface_of p.link p.interface p.bytes) then Unkeyed without.Interface
    else mark_of_packet d l (moment_of d l.clock p.stamp) (decoded p.link p.bytes (wanted_of d))

-- the event of a packet in the trace of this label
abbrev pub event_of_packet : Declaration → Label → captured.Seen → Seen
event_of_packet d l p = record { stamp = p.stamp; mark = mark_seen d l p; text = [] }

-- ---- events of the code
-- what stands in a message
abbrev pub content_of : ContentOfCode → Content
content_of (code.Packet key) = Packet key
content_of (code.Word key) = Word key

-- what a message is known by
abbrev pub message_of : MessageKeyOfCode → MessageKey
message_of m = record { segment = m.segment; content = content_of m.content }

-- when an event happened
abbrev pub seen_moment : Moment → SeenMoment
seen_moment m = record { time = m.time; window = m.window }

-- the key
abbrev pub key_of : Key → EventKey
key_of k = record { message = message_of k.message; moment = option_map seen_moment k.moment }

-- the mark
abbrev pub mark_of : Mark → SeenMark
mark_of (marks.Keyed key side) = Keyed (key_of key) side
mark_of (marks.Unkeyed reason) = Unkeyed reason

-- the text, where there is one
abbrev pub text_of : Option (List ℕ) → List ℕ
text_of None = []
text_of (Some text) = text

-- an event by itself
abbrev pub seen_event : Event → Seen
seen_event e = record { stamp = e.stamp; mark = mark_of e.mark; text = text_of e.text }

-- events, in their order
abbrev pub seen_events : List Event → List Seen
seen_events events = map seen_event events
