-- What a piece says, by what is kept of those before it.
use Rattle.std.specs.Prelude.{◌≡◌, ℕ, ◌+◌, ◌<◌, ◌≤◌, List, [], ◌++◌, length, map, ⊤}
use Rattle.event_log.specs.declared.row.Row.{Row}
use Rattle.event_log.specs.Log.{records_of, AreRows}
use Rattle.captures.specs.Capture as captures
use Rattle.captures.specs.Feeding as feeding
use Rattle.captures.specs.Feeding.{Tail, Grows, taken}
use Rattle.decl.specs.Declaration.{Declaration}
use Rattle.decl.specs.declared.items.Label.{Label}
use Rattle.traces.specs.Seen.{Seen, seen_row, seen_events, event_of_packet}
use Rattle.traces.specs.declared.accepted.Stream.{Stream}
use Rattle.traces.specs.declared.accepted.Stream.TheVariants as streams
use Rattle.replies.specs.declared.refusal.Refusal.{Refusal}
use Rattle.session.specs.declared.pieces.Piece.{Piece}
use Rattle.session.specs.declared.pieces.Piece.TheVariants as pieces
use Rattle.replies.specs.Reply.{IsLogRefusal, IsCaptureRefusal, most_of_label}

-- so many bytes more may be read
abbrev pub HasPlaceFor : Stream → ℕ → Type 0
HasPlaceFor streams.Log n = ⊤
HasPlaceFor (streams.Capture tail) n = taken tail + n ≤ most_of_label

-- what a tail becomes by a piece, and the packets that the piece completes, whatever the tail stood for
abbrev pub IsFed : Tail → List ℕ → Tail → List captures.Seen → Type 0
IsFed tail piece next packets = (s : List ℕ) (c : captures.Capture) → feeding.StandsFor tail s c → Grows next (s ++ piece) c [] packets

-- the rows of the piece as events of this label, and nothing is kept
pub record AreOfRows (d : Declaration) (l : Label) (piece : List ℕ) (events : List Seen) (next : Stream) : Type 0 where
  pub rows : List Row
  pub are : AreRows (records_of piece) rows
  pub seen : events ≡ map (seen_row d l) rows
  pub kept : next ≡ streams.Log

-- the packets that the piece completes as events of this label, and what is then kept
pub record AreOfPackets (d : Declaration) (l : Label) (tail : Tail) (piece : List ℕ) (events : List Seen) (next : Stream) : Type 0 where
  pub fed : Tail
  pub packets : List captures.Seen
  pub completes : IsFed tail piece fed packets
  pub seen : events ≡ map (event_of_packet d l) packets
  pub size : taken fed ≡ taken tail + length piece
  pub kept : next ≡ streams.Capture fed

-- the piece says these events, and this is then kept
abbrev pub SaysEvents : Declaration → Label → Stream → List ℕ → List Seen → Stream → Type 0
SaysEvents d l streams.Log piece events next = AreOfRows d l piece events next
SaysEvents d l (streams.Capture tail) piece events next = AreOfPackets d l tail piece events next

-- the piece is refused so, whatever was kept stood for
abbrev pub IsRefusedAs : Stream → List ℕ → Refusal → Type 0
IsRefusedAs streams.Log piece r = IsLogRefusal piece r
IsRefusedAs (streams.Capture tail) piece r = (s : List ℕ) (c : captures.Capture) → feeding.StandsFor tail s c → IsCaptureRefusal (s ++ piece) r

-- what the code reads of a piece where there is room for so many events more
abbrev pub IsRead : Declaration → Label → (room : ℕ) → Stream → List ℕ → Piece → Type 0
IsRead d l room kept piece (pieces.Read events next) = SaysEvents d l kept piece (seen_events events.items) next
IsRead d l room kept piece pieces.TooManyEvents = (events : List Seen) × (next : Stream) × SaysEvents d l kept piece events next × (room < length events)
IsRead d l room kept piece (pieces.Refused r) = IsRefusedAs kept piece r

-- there is room for the events that were read
abbrev pub HasRoomFor : ℕ → Piece → Type 0
HasRoomFor room (pieces.Read events next) = length events.items ≤ room
HasRoomFor room pieces.TooManyEvents = ⊤
HasRoomFor room (pieces.Refused r) = ⊤
