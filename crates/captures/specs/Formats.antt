-- The formats of captures. This file alone tells them apart: each definition has a case for each format.
use Rattle.std.specs.Prelude.{◌≡◌, ◌⊎◌, ℕ, ◌+◌, ◌<◌, List, [], ◌∷◌, length, None, ⊤}
use Rattle.packets.specs.Packets.{Seen}
use Rattle.packets.specs.Dropped.{none_dropped}
use Rattle.packets.specs.Passed.{none_passed}
use Rattle.packets.specs.declared.dropped.Dropped.{Dropped}
use Rattle.packets.specs.declared.passed.Passed.{Passed}
use Rattle.pcap_stream.specs.declared.errors.PcapError.{PcapError}
use Rattle.pcap_stream.specs.declared.errors.PcapError.TheVariants as classic_errors
use Rattle.pcap_stream.specs.Capture as classic
use Rattle.pcap_stream.specs.Feeding as classic_feeding
use Rattle.pcapng_stream.specs.declared.errors.PcapngError.{PcapngError}
use Rattle.pcapng_stream.specs.declared.errors.PcapngError.TheVariants as pcapng_errors
use Rattle.pcapng_stream.specs.Blocks.{dropped_in}
use Rattle.pcapng_stream.specs.Passed.{passed_over}
use Rattle.pcapng_stream.specs.Pcapng as pcapng
use Rattle.pcapng_stream.specs.Feeding.{BlockTail, StandsForBlocks, waiting_blocks}
use Rattle.captures.specs.declared.errors.CaptureError.{CaptureError}
use Rattle.captures.specs.declared.errors.CaptureError.TheVariants.{Magic, Version, Header, Length, Block, Memory}
use Rattle.captures.specs.declared.kind.Kind.{Kind}
use Rattle.captures.specs.declared.kind.Kind.TheVariants as kinds

-- ---- whole streams
-- the first byte is that of a section header of pcapng; each other stream is a classic capture
abbrev pub IsPcapng : List ℕ → Type 0
IsPcapng s = (more : List ℕ) × (s ≡ 10 ∷ more)

-- what a stream says: as a classic capture, or in blocks
pub data Formatted : Type 0 where
  Classic : classic.Capture → Formatted
  Pcapng : pcapng.Blocks → Formatted

-- what a stream stands for in the format that its first byte tells
abbrev pub IsFormatted : List ℕ → Formatted → Type 0
IsFormatted s (Classic c) = (IsPcapng s → ⊥) × classic.Reads s c
IsFormatted s (Pcapng c) = IsPcapng s × pcapng.Reads s c

-- the packets
abbrev pub formatted_packets : Formatted → List Seen
formatted_packets (Classic c) = classic.packets_of c
formatted_packets (Pcapng c) = pcapng.packets_of c

-- the bytes behind the last whole record or block
abbrev pub formatted_rest : Formatted → List ℕ
formatted_rest (Classic c) = c.rest
formatted_rest (Pcapng c) = c.rest

-- how many packets are passed over; of a classic capture none are
abbrev pub formatted_passed : Formatted → Passed
formatted_passed (Classic c) = none_passed
formatted_passed (Pcapng c) = passed_over c.blocks

-- how many packets it says were dropped before they were captured; a classic capture tells of none
abbrev pub formatted_dropped : Formatted → Dropped
formatted_dropped (Classic c) = none_dropped
formatted_dropped (Pcapng c) = dropped_in (pcapng.present c)

-- nothing yet
abbrev pub nothing_formatted : Formatted
nothing_formatted = Classic classic.nothing

-- ---- refusals
-- why a classic capture is refused
abbrev pub classic_fault : PcapError → CaptureError
classic_fault classic_errors.Magic = Magic
classic_fault classic_errors.Version = Version
classic_fault (classic_errors.Header place) = Header place
classic_fault (classic_errors.Length place) = Length place
classic_fault classic_errors.Memory = Memory

-- why a capture in blocks is refused
abbrev pub pcapng_fault : PcapngError → CaptureError
pcapng_fault pcapng_errors.Magic = Magic
pcapng_fault pcapng_errors.Version = Version
pcapng_fault (pcapng_errors.Length place) = Length place
pcapng_fault (pcapng_errors.Block place) = Block place
pcapng_fault pcapng_errors.Memory = Memory

-- a format refuses the stream, and this is said of its reason
pub record IsFaultBy {Fault : Type 0} (IsFormatFault : List ℕ → Fault → Type 0) (said_of : Fault → CaptureError) (s : List ℕ) (e : CaptureError) : Type 0 where
  pub fault : Fault
  pub is : IsFormatFault s fault
  pub said : e ≡ said_of fault

-- why a stream is refused, in the format that its first byte tells
abbrev pub IsFault : List ℕ → CaptureError → Type 0
IsFault s e = (IsPcapng s × IsFaultBy pcapng.IsFault pcapng_fault s e) ⊎ ((IsPcapng s → ⊥) × IsFaultBy classic.IsFault classic_fault s e)

-- ---- streams that come in pieces
-- what is kept of a stream: that of a classic capture, or that of one in blocks
pub data Tail : Type 0 where
  ClassicTail : classic_feeding.Tail → Tail
  PcapngTail : BlockTail → Tail

-- the tail is that of this stream, which says this
abbrev pub StandsIn : Tail → List ℕ → Formatted → Type 0
StandsIn (ClassicTail t) s (Classic c) = (IsPcapng s → ⊥) × classic_feeding.StandsFor t s c
StandsIn (ClassicTail t) s (Pcapng c) = ⊥
StandsIn (PcapngTail t) s (Classic c) = ⊥
StandsIn (PcapngTail t) s (Pcapng c) = IsPcapng s × StandsForBlocks t s c

-- how many bytes of the stream wait for more: those behind the last whole record or block
abbrev pub waiting_of : Tail → ℕ
waiting_of (ClassicTail t) = length t.rest
waiting_of (PcapngTail t) = waiting_blocks t

-- how many packets were passed over
abbrev pub passed_of : Tail → Passed
passed_of (ClassicTail t) = none_passed
passed_of (PcapngTail t) = t.passed

-- how many packets were dropped before they were captured
abbrev pub dropped_of : Tail → Dropped
dropped_of (ClassicTail t) = none_dropped
dropped_of (PcapngTail t) = dropped_in t.section

-- how many bytes of the stream came
abbrev pub taken : Tail → ℕ
taken (ClassicTail t) = t.offset + length t.rest
taken (PcapngTail t) = t.offset + waiting_blocks t

-- the tail is that of nothing
abbrev pub IsNew : Tail → Type 0
IsNew (ClassicTail t) = classic_feeding.IsNew t
IsNew (PcapngTail t) = ⊥

-- ---- what the code keeps
-- the tail that is kept
abbrev pub kept_in : Kind → Tail
kept_in kinds.Unknown = ClassicTail (classic_feeding.tail_of None 0 [])
kept_in (kinds.Classic t) = ClassicTail t
kept_in (kinds.Pcapng t) = PcapngTail t

-- a classic stream has a byte, since no byte tells no kind
abbrev pub IsKept : Kind → Type 0
IsKept kinds.Unknown = ⊤
IsKept (kinds.Classic t) = 0 < t.offset + length t.rest
IsKept (kinds.Pcapng t) = ⊤
