-- A stream that comes in pieces: what is kept of it, and what a piece adds.
use Rattle.std.specs.Prelude.{◌≡◌, ℕ, List}
use Rattle.packets.specs.Streams.{GrowsBy}
pub use Rattle.packets.specs.declared.packet.Packet.{Packet}
pub use Rattle.packets.specs.declared.first_packets.FirstPackets.{FirstPackets}
pub use Rattle.packets.specs.Packets.{seen_packet, seen_packets, KeepsFirst, Adds, IsSame}
pub use Rattle.captures.specs.Formats.{Tail, IsNew, taken, dropped_of, passed_of, waiting_of}
use Rattle.captures.specs.Formats.{Formatted, StandsIn}
use Rattle.captures.specs.Capture.{Capture, Seen, of_format}

-- the tail is that of this stream, which stands for this
pub record StandsFor (tail : Tail) (s : List ℕ) (c : Capture) : Type 0 where
  pub read : Formatted
  pub stands : StandsIn tail s read
  pub says : c ≡ of_format read

-- the packets
abbrev pub packets_of : Capture → List Seen
packets_of c = c.packets

-- the tail is that of this stream, which goes on from what stood for c, and the packets that were added are those that it has more
abbrev pub Grows : Tail → List ℕ → Capture → List Seen → List Seen → Type 0
Grows t s c old new = GrowsBy StandsFor packets_of t s c old new
