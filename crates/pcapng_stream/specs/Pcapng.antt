-- Captures in blocks as whole streams of bytes: what they say, and how they are refused.
use Rattle.std.specs.Prelude.{◌≡◌, ◌⊎◌, ℕ, ◌+◌, ◌≤◌, true, false, List, [], ◌∷◌, ◌++◌, length, take, Option, Some, None, ⊤}
use Rattle.std.specs.List.{flat_map}
use Rattle.packets.specs.Packets.{Seen}
use Rattle.packets.specs.Streams.{IsFrontOf}
use Rattle.pcapng_stream.specs.declared.order.Order.{Order}
use Rattle.pcapng_stream.specs.declared.errors.PcapngError.{PcapngError}
use Rattle.pcapng_stream.specs.declared.errors.PcapngError.TheVariants.{Magic, Version, Length, Memory}
use Rattle.pcapng_stream.specs.declared.errors.PcapngError.TheVariants as errors
use Rattle.pcapng_stream.specs.declared.flaw.Flaw.{Flaw}
use Rattle.pcapng_stream.specs.declared.flaw.Flaw.TheVariants.{Malformed, OtherVersion, TooLong}
use Rattle.pcapng_stream.specs.Blocks.{Section, Block, before, section_type, head_of, bytes_of, section_behind, packets_in}
use Rattle.pcapng_stream.specs.Flaws.{begins_wrong, flaw_in}

-- ---- blocks in a row
-- behind blocks of this order, the block is as long as it says, and has its type and both lengths
pub record IsWhole (order : Option Order) (b : Block) : Type 0 where
  pub said : head_of order b.bytes ≡ Some (record { order = b.order; size = length b.bytes })
  pub long : 12 ≤ length b.bytes

-- a whole block begins these bytes
abbrev pub HasBlock : Option Order → List ℕ → Type 0
HasBlock order bytes = (b : Block) × (after : List ℕ) × IsWhole order b × (bytes ≡ bytes_of b ++ after)

-- a whole block without a flaw
pub record IsBlock (s : Section) (b : Block) : Type 0 where
  pub whole : IsWhole s.order b
  pub sound : begins_wrong s.order b.bytes ≡ false
  pub flawless : flaw_in s b ≡ None

-- blocks without a flaw, each in the section that those before it give
abbrev pub AreBlocks : Section → List Block → Type 0
AreBlocks s [] = ⊤
AreBlocks s (b ∷ more) = IsBlock s b × AreBlocks (section_behind s b) more

-- the section behind blocks
abbrev pub section_after : Section → List Block → Section
section_after s [] = s
section_after s (b ∷ more) = section_after (section_behind s b) more

-- the packets of blocks
abbrev pub packets_after : Section → List Block → List Seen
packets_after s [] = []
packets_after s (b ∷ more) = packets_in s b ++ packets_after (section_behind s b) more

-- ---- streams
-- what a stream says: its whole blocks, and what is left
pub record Blocks : Type 0 where
  pub blocks : List Block
  pub rest : List ℕ

-- the section that the rest stands in
abbrev pub present : Blocks → Section
present c = section_after before c.blocks

-- the packets
abbrev pub packets_of : Blocks → List Seen
packets_of c = packets_after before c.blocks

-- the stream is these blocks, and these bytes
pub record IsMadeOf (s : List ℕ) (c : Blocks) : Type 0 where
  pub are_blocks : AreBlocks before c.blocks
  pub whole : s ≡ flat_map bytes_of c.blocks ++ c.rest

-- a section header begins the stream, or may still do so
abbrev pub BeginsSection : List ℕ → Type 0
BeginsSection s = IsFrontOf (take 4 s) section_type

-- the stream is these blocks, and then bytes that no whole block begins and with which nothing is wrong
pub record Reads (s : List ℕ) (c : Blocks) : Type 0 where
  pub made : IsMadeOf s c
  pub begins : BeginsSection s
  pub no_more : HasBlock (present c).order c.rest → ⊥
  pub sound : begins_wrong (present c).order c.rest ≡ false

-- nothing yet
abbrev pub nothing : Blocks
nothing = record { blocks = []; rest = [] }

-- ---- refusals
-- the block that begins these bytes cannot be one
pub record BeginsWrong (s : Section) (bytes : List ℕ) (flaw : Flaw) : Type 0 where
  pub wrong : begins_wrong s.order bytes ≡ true
  pub malformed : flaw ≡ Malformed

-- the block that begins these bytes is whole, and this is its first flaw
pub record IsFlawed (s : Section) (bytes : List ℕ) (flaw : Flaw) : Type 0 where
  pub sound : begins_wrong s.order bytes ≡ false
  pub has : HasBlock s.order bytes
  pub flawed : flaw_in s has.0 ≡ Some flaw

-- the first flaw of the block that begins these bytes
abbrev pub HasFlaw : Section → List ℕ → Flaw → Type 0
HasFlaw s bytes flaw = BeginsWrong s bytes flaw ⊎ IsFlawed s bytes flaw

-- behind blocks without a flaw, the block at this place has this flaw
pub record IsFlawedAt (s : List ℕ) (flaw : Flaw) (place : ℕ) : Type 0 where
  pub capture : Blocks
  pub made : IsMadeOf s capture
  pub flawed : HasFlaw (present capture) capture.rest flaw
  pub at : place + length capture.rest ≡ length s

-- why a stream is refused
abbrev pub IsFault : List ℕ → PcapngError → Type 0
IsFault s Magic = BeginsSection s → ⊥
IsFault s Version = (place : ℕ) × IsFlawedAt s OtherVersion place
IsFault s (Length place) = IsFlawedAt s TooLong place
IsFault s (errors.Block place) = IsFlawedAt s Malformed place
IsFault s Memory = ⊤
