-- A stream that comes in pieces: what is kept of it, and what a piece adds.
use Rattle.std.specs.Prelude.{◌≡◌, ℕ, ◌+◌, ◌^◌, ◌<◌, ◌≤◌, List, [], length, Option, None}
use Rattle.packets.specs.Packets.{Seen}
use Rattle.packets.specs.Streams.{GrowsBy}
use Rattle.pcap_stream.specs.declared.header.Header.{Header}
use Rattle.pcap_stream.specs.Capture.{Capture, Reads, packets_of}

-- what is kept of a stream: its header, if that is whole, how many bytes come before the rest, and the rest
pub record Tail : Type 0 where
  pub header : Option Header
  pub offset : ℕ
  pub rest : List ℕ

-- the tail of a header, an offset and a rest
abbrev pub tail_of : Option Header → ℕ → List ℕ → Tail
tail_of header offset rest = record { header = header; offset = offset; rest = rest }

-- the rest is shorter than the longest record, and the stream has at most 2^30 bytes
pub record IsTail (t : Tail) : Type 0 where
  pub short : length t.rest < 262160
  pub early : t.offset + length t.rest ≤ 2 ^ 30

-- the tail is that of this stream, which stands for this
pub record StandsFor (t : Tail) (s : List ℕ) (c : Capture) : Type 0 where
  pub reads : Reads s c
  pub header : t.header ≡ c.header
  pub rest : t.rest ≡ c.rest
  pub offset : t.offset + length t.rest ≡ length s

-- the tail is that of nothing
pub record IsNew (t : Tail) : Type 0 where
  pub header : t.header ≡ None
  pub offset : t.offset ≡ 0
  pub rest : t.rest ≡ []

-- the tail is that of this stream, which goes on from what stood for c, and the packets that were added are those that it has more
abbrev pub Grows : Tail → List ℕ → Capture → List Seen → List Seen → Type 0
Grows t s c old new = GrowsBy StandsFor packets_of t s c old new
