-- What a piece adds to what the code keeps of a stream.
use Rattle.std.specs.Prelude.{◌≡◌, ℕ, ◌+◌, List, ◌++◌, length}
use Rattle.packets.specs.Packets.{Seen}
use Rattle.packets.specs.Streams.{GrowsBy}
use Rattle.captures.specs.declared.errors.CaptureError.{CaptureError}
use Rattle.captures.specs.declared.kind.Kind.{Kind}
use Rattle.captures.specs.Formats.{Formatted, IsFault, IsKept, StandsIn, Tail, formatted_packets, kept_in, taken}

-- the tail is that of this stream, which goes on from what said c, and the packets that were added are those that it has more
abbrev pub GrowsIn : Tail → List ℕ → Formatted → List Seen → List Seen → Type 0
GrowsIn t s c old new = GrowsBy StandsIn formatted_packets t s c old new

-- what is kept of a stream that begins with this piece, and its packets were appended
pub record Begins (piece : List ℕ) (old new : List Seen) (kind : Kind) : Type 0 where
  pub kept : IsKept kind
  pub then : Formatted
  pub stands : StandsIn (kept_in kind) piece then
  pub grown : new ≡ old ++ formatted_packets then
  pub size : taken (kept_in kind) ≡ length piece

-- what is kept of each stream that this tail stands for, with the piece, and the packets more were appended
pub record GoesOn (t : Tail) (piece : List ℕ) (old new : List Seen) (kind : Kind) : Type 0 where
  pub kept : IsKept kind
  pub grows : (s : List ℕ) (c : Formatted) → StandsIn t s c → GrowsIn (kept_in kind) (s ++ piece) c old new
  pub size : taken (kept_in kind) ≡ taken t + length piece

-- each stream that this tail stands for is refused with the piece
abbrev pub IsRefused : Tail → List ℕ → CaptureError → Type 0
IsRefused t piece e = (s : List ℕ) (c : Formatted) → StandsIn t s c → IsFault (s ++ piece) e
