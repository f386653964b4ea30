-- What the parts of a reader promise each other.
use Rattle.std.specs.Prelude.{◌≡◌, ℕ, ◌+◌, false, true, if◌then◌else◌, List, ◌++◌, length, Option, Some, None, option_map, ⊤}
use Rattle.std.specs.Option.{option_or}
use Rattle.std.specs.List.{flat_map, list_any}
use Rattle.packets.specs.Packets.{Seen}
use Rattle.pcapng_stream.specs.declared.order.Order.{Order}
use Rattle.pcapng_stream.specs.declared.errors.PcapngError.{PcapngError}
use Rattle.pcapng_stream.specs.declared.errors.PcapngError.TheVariants.{Magic, Version, Length, Memory}
use Rattle.pcapng_stream.specs.declared.errors.PcapngError.TheVariants as errors
use Rattle.pcapng_stream.specs.declared.flaw.Flaw.{Flaw}
use Rattle.pcapng_stream.specs.declared.flaw.Flaw.TheVariants.{Malformed, OtherVersion, TooLong}
use Rattle.pcapng_stream.specs.declared.block.WholeBlock.{WholeBlock}
use Rattle.pcapng_stream.specs.declared.section.OpenSection.{OpenSection}
use Rattle.pcapng_stream.specs.declared.packet.Captured.{Captured}
use Rattle.pcapng_stream.specs.declared.options.Stamping.{Stamping}
use Rattle.pcapng_stream.specs.declared.statistics.Told.{Told}
use Rattle.pcapng_stream.specs.Options.{Opt, options_in, resolution_of, offset_of, resolution_in, offset_in, is_wrong_offset, count_by_code, told_by}
use Rattle.pcapng_stream.specs.Blocks.{Section, Block, bytes_of, section_behind, packets_in}
use Rattle.pcapng_stream.specs.Flaws.{begins_wrong}
use Rattle.packets.specs.declared.passed.Passed.{Passed}
use Rattle.packets.specs.Passed.{passed_with}
use Rattle.pcapng_stream.specs.Passed.{counted, passed_over, type_of}
use Rattle.pcapng_stream.specs.declared.skipped.Skipped.{Skipped}
use Rattle.pcapng_stream.specs.Skipping.{held_of, skipped_in}
use Rattle.pcapng_stream.specs.Pcapng.{IsWhole, HasBlock, IsBlock, AreBlocks, HasFlaw, section_after, packets_after}
use Rattle.pcapng_stream.specs.Feeding.{BlockTail}

-- ---- values of the code
-- the section of the code
abbrev pub section_of : OpenSection → Section
section_of s = record { order = s.order; interfaces = s.interfaces.items; earlier = s.earlier }

-- the block of the code
abbrev pub block_of : WholeBlock → Block
block_of b = record { order = b.order; bytes = b.bytes.now }

-- the packet of the code, before it has bytes of its own
abbrev pub seen_captured : Captured → Seen
seen_captured c = record { stamp = c.stamp; link = c.link; interface = Some c.interface; original_length = c.original_length; bytes = c.bytes.now }

-- an option of this code and with this value
abbrev pub option_with : ℕ → List ℕ → Opt
option_with code value = record { code = code; value = value }

-- what one option says
abbrev pub said_of : Order → Opt → Stamping
said_of order o = record { resolution = resolution_of o; offset = offset_of order o }

-- what these options say
abbrev pub said_by : Order → List Opt → Stamping
said_by order options = record { resolution = resolution_in options; offset = offset_in order options }

-- what was said first, and else what is said then
abbrev pub said_first : Stamping → Stamping → Stamping
said_first first later = record { resolution = option_or first.resolution later.resolution; offset = option_or first.offset later.offset }

-- what is said with one option more, unless it is a wrong offset
abbrev pub said_with : Order → Stamping → Opt → Option Stamping
said_with order said o = if is_wrong_offset o then None else Some (said_first said (said_of order o))

-- what options say, if they are there and none is a wrong offset
abbrev pub stamping_by : Order → Option (List Opt) → Option Stamping
stamping_by order None = None
stamping_by order (Some options) = if list_any is_wrong_offset options then None else Some (said_by order options)

-- what the options in these bytes say, if they are sound
abbrev pub stamping_in : Order → List ℕ → Option Stamping
stamping_in order bytes = stamping_by order (options_in order bytes)

-- how many packets one option says were dropped
abbrev pub told_one : Order → Opt → Told
told_one order o = record { interface = count_by_code order 5 o; system = count_by_code order 7 o }

-- what was told first, and else what is told then
abbrev pub told_first : Told → Told → Told
told_first first later = record { interface = option_or first.interface later.interface; system = option_or first.system later.system }

-- how many packets the options in these bytes say were dropped, if none of them is cut
abbrev pub told_in : Order → List ℕ → Option Told
told_in order bytes = option_map (told_by order) (options_in order bytes)

-- why a capture is refused where the block at this place has this flaw
abbrev pub fault_at : ℕ → Flaw → PcapngError
fault_at place Malformed = errors.Block place
fault_at place OtherVersion = Version
fault_at place TooLong = Length place

-- ---- one block
-- behind blocks of this order no block begins so
pub record IsWrong (order : Option Order) (bytes : List ℕ) (flaw : Flaw) : Type 0 where
  pub wrong : begins_wrong order bytes ≡ true
  pub malformed : flaw ≡ Malformed

-- no whole block begins these bytes, and nothing is wrong with them
pub record IsPart (order : Option Order) (bytes : List ℕ) : Type 0 where
  pub no_more : HasBlock order bytes → ⊥
  pub sound : begins_wrong order bytes ≡ false

-- this whole block begins these bytes
pub record IsFirst (order : Option Order) (bytes : List ℕ) (b : Block) : Type 0 where
  pub whole : IsWhole order b
  pub sound : begins_wrong order b.bytes ≡ false
  pub after : List ℕ
  pub joined : bytes ≡ bytes_of b ++ after

-- the whole block that begins these bytes, if one does
abbrev pub FindsBlock : Option Order → List ℕ → Option WholeBlock → Type 0
FindsBlock order bytes None = IsPart order bytes
FindsBlock order bytes (Some b) = IsFirst order bytes (block_of b)

-- why a capture is refused where the block at this place has this flaw first, if it has one; memory may run out
abbrev pub IsFaultOf : Option Flaw → ℕ → PcapngError → Type 0
IsFaultOf flaw place Magic = ⊥
IsFaultOf flaw place Version = flaw ≡ Some OtherVersion
IsFaultOf flaw place (Length p) = (flaw ≡ Some TooLong) × (p ≡ place)
IsFaultOf flaw place (errors.Block p) = (flaw ≡ Some Malformed) × (p ≡ place)
IsFaultOf flaw place Memory = ⊤

-- the section and the packets are those behind a block
pub record IsTaken (s : Section) (b : Block) (next : Section) (old new : List Seen) : Type 0 where
  pub section : next ≡ section_behind s b
  pub packets : new ≡ old ++ packets_in s b

-- a block without a flaw begins these bytes, has this size, and was taken and counted
pub record IsNext (s : Section) (bytes : List ℕ) (size : ℕ) (next : Section) (earlier later : Passed) (old new : List Seen) : Type 0 where
  pub block : Block
  pub after : List ℕ
  pub lawful : IsBlock s block
  pub said : size ≡ length block.bytes
  pub joined : bytes ≡ bytes_of block ++ after
  pub taken : IsTaken s block next old new
  pub counts : later ≡ passed_with earlier (counted (type_of block))

-- nothing changed
pub record IsSame (s next : Section) (earlier later : Passed) (old new : List Seen) : Type 0 where
  pub section : next ≡ s
  pub counts : later ≡ earlier
  pub packets : new ≡ old

-- the block that begins these bytes was taken, if one does
abbrev pub FindsNext : Section → List ℕ → Option ℕ → Section → Passed → Passed → List Seen → List Seen → Type 0
FindsNext s bytes None next earlier later old new = IsPart s.order bytes × IsSame s next earlier later old new
FindsNext s bytes (Some size) next earlier later old new = IsNext s bytes size next earlier later old new

-- the block that begins these bytes, at this place, has a flaw
abbrev pub IsHereFault : Section → List ℕ → ℕ → PcapngError → Type 0
IsHereFault s bytes place Magic = ⊥
IsHereFault s bytes place Version = HasFlaw s bytes OtherVersion
IsHereFault s bytes place (Length p) = HasFlaw s bytes TooLong × (p ≡ place)
IsHereFault s bytes place (errors.Block p) = HasFlaw s bytes Malformed × (p ≡ place)
IsHereFault s bytes place Memory = ⊤

-- ---- blocks in a row
-- the blocks before what is left were taken and counted
pub record HasRead (s : Section) (bytes left : List ℕ) (next : Section) (earlier later : Passed) (old new : List Seen) : Type 0 where
  pub blocks : List Block
  pub lawful : AreBlocks s blocks
  pub whole : bytes ≡ flat_map bytes_of blocks ++ left
  pub section : next ≡ section_after s blocks
  pub counts : later ≡ passed_with earlier (passed_over blocks)
  pub added : new ≡ old ++ packets_after s blocks

-- all whole blocks were taken
pub record EndsBlocks (s : Section) (bytes left : List ℕ) (next : Section) (earlier later : Passed) (old new : List Seen) : Type 0 where
  pub read : HasRead s bytes left next earlier later old new
  pub part : IsPart next.order left

-- behind some blocks, the one at this place has this flaw
pub record IsLater (s : Section) (bytes : List ℕ) (start : ℕ) (flaw : Flaw) (place : ℕ) : Type 0 where
  pub blocks : List Block
  pub left : List ℕ
  pub lawful : AreBlocks s blocks
  pub whole : bytes ≡ flat_map bytes_of blocks ++ left
  pub flawed : HasFlaw (section_after s blocks) left flaw
  pub at : place + length left ≡ start + length bytes

-- why blocks that start at this place are refused
abbrev pub IsBlocksFault : Section → List ℕ → ℕ → PcapngError → Type 0
IsBlocksFault s bytes start Magic = ⊥
IsBlocksFault s bytes start Version = (place : ℕ) × IsLater s bytes start OtherVersion place
IsBlocksFault s bytes start (Length place) = IsLater s bytes start TooLong place
IsBlocksFault s bytes start (errors.Block place) = IsLater s bytes start Malformed place
IsBlocksFault s bytes start Memory = ⊤

-- ---- streams
-- the tail of a section, counts, an offset, a skipped block and bytes that are held
abbrev pub tail_of : Section → Passed → ℕ → Option Skipped → List ℕ → BlockTail
tail_of section passed offset skipped held = record { section = section; passed = passed; offset = offset; skipped = skipped; held = held }

-- the tail of these bytes behind the last whole block
abbrev pub tail_with : Section → Passed → ℕ → List ℕ → BlockTail
tail_with section passed offset rest = tail_of section passed offset (skipped_in section.order rest) (held_of (skipped_in section.order rest) rest)
