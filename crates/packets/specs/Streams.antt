-- Streams of bytes that come in pieces, whatever format they are in.
use Rattle.std.specs.Prelude.{◌≡◌, ℕ, List, ◌++◌}
use Rattle.packets.specs.Packets.{Seen}

-- more bytes may follow these, so that they are those
abbrev pub IsFrontOf : List ℕ → List ℕ → Type 0
IsFrontOf front whole = (after : List ℕ) × (front ++ after ≡ whole)

-- in a format where this is kept of a stream that stands for what has these packets: the tail is that of this stream, which goes
-- on from what stood for c, and the packets that were added are those that it has more
pub record GrowsBy {Tail Capture : Type 0} (StandsFor : Tail → List ℕ → Capture → Type 0) (packets_of : Capture → List Seen) (t : Tail) (s : List ℕ) (c : Capture) (old new : List Seen) : Type 0 where
  pub then : Capture
  pub stands : StandsFor t s then
  pub added : List Seen
  pub grown : new ≡ old ++ added
  pub more : packets_of then ≡ packets_of c ++ added
