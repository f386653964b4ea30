-- Merged packets as one file of pcapng, each with its date: its time, and so much more as the dates are behind the times.
use Rattle.std.specs.Prelude.{◌≡◌, ℕ, ◌*◌, ◌^◌, ◌<◌, ◌≤◌, ◌⊎◌, List, [], ◌∷◌, length, map, All, Any, ℤ, pos, ◌+ℤ◌, ◌≤ℤ◌, ◌<ℤ◌}
use Rattle.intervals.specs.declared.ends.Ends.{Ends}
use Rattle.intervals.specs.Ends.{FitsEnds}
use Rattle.decl.specs.Declaration.{Declaration}
use Rattle.traces.specs.declared.event_id.EventId.{EventId}
use Rattle.mergecap.specs.MergedCapture.{Timed, whole_nanos}
use Rattle.pcapng_blocks.specs.Bytes.{SaidPacket}
use Rattle.pcapng_blocks.specs.File.{Said}
use Rattle.merged_blocks.specs.declared.taps.Tap.{Tap}
use Rattle.merged_blocks.specs.declared.dates.DateError.{DateError}
use Rattle.merged_blocks.specs.declared.dates.DateError.TheVariants.{Range, Memory}
use Rattle.merged_blocks.specs.Taps.{AreTapsOf, number_of, tap_of}
use Rattle.merged_blocks.specs.Descriptions.{tap_interface}
use Rattle.merged_blocks.specs.Remarks.{remark_of}

-- ---- dates
-- the date of a packet, in units of 1e-9 ns: its time, and so much more
abbrev pub date_of : ℤ → Timed → ℤ
date_of shift t = t.key.value +ℤ shift

-- 2^64 ns in units of 1e-9 ns
abbrev pub date_limit : ℤ
date_limit = pos (2 ^ 64 * 10 ^ 9)

-- a stamp can say the date: it is not below 0, and its whole ns have 64 bits
pub record HasStamp (shift : ℤ) (t : Timed) : Type 0 where
  pub low : pos 0 ≤ℤ date_of shift t
  pub high : date_of shift t <ℤ date_limit

-- no stamp can say it
abbrev pub HasNoStamp : ℤ → Timed → Type 0
HasNoStamp shift t = (date_of shift t <ℤ pos 0) ⊎ (date_limit ≤ℤ date_of shift t)

-- ---- the file
-- a packet under the interface of its tap, with its date as its stamp, rounded down to whole ns, with both its lengths, and
-- with what is said of it
abbrev pub dated_packet : Declaration → List Tap → ℤ → EventId → Timed → Ends → SaidPacket
dated_packet d taps shift since t ends = record {
  interface = number_of taps (tap_of t);
  stamp = whole_nanos (date_of shift t);
  original = t.packet.original_length;
  bytes = t.packet.bytes;
  comment = remark_of d since t ends;
}

-- each packet with its own ends since one event
abbrev pub dated_packets : Declaration → List Tap → ℤ → EventId → List Timed → List Ends → List SaidPacket
dated_packets d taps shift since [] all = []
dated_packets d taps shift since (t ∷ ts) [] = []
dated_packets d taps shift since (t ∷ ts) (ends ∷ all) = dated_packet d taps shift since t ends ∷ dated_packets d taps shift since ts all

-- one section, an interface for each tap, and the packets in their order
abbrev pub merged_file : Declaration → List Tap → ℤ → EventId → List Timed → List Ends → Said
merged_file d taps shift since ts all = record { comment = []; interfaces = map (tap_interface d) taps; packets = dated_packets d taps shift since ts all }

-- ---- packets that have a file
-- the link type of a packet has 16 bits, its original length and its number 32, and its stamp 62
pub record FitsFields (t : Timed) : Type 0 where
  pub number : t.key.n < 2 ^ 32
  pub stamp : t.packet.stamp < 2 ^ 62
  pub link : t.packet.link < 65536
  pub original : t.packet.original_length < 2 ^ 32

-- the time of a packet is not below 0, and its date and its fields can be written
pub record IsDated (shift : ℤ) (t : Timed) : Type 0 where
  pub value : pos 0 ≤ℤ t.key.value
  pub stamp : HasStamp shift t
  pub fields : FitsFields t

-- the most taps that a reader takes
abbrev pub most_taps : ℕ
most_taps = 65536

-- these are the taps of packets of which each can be written, and a reader takes as many
pub record AreDated (ts : List Timed) (taps : List Tap) (shift : ℤ) : Type 0 where
  pub each : All (IsDated shift) ts
  pub are_taps : AreTapsOf ts taps
  pub few : length taps ≤ most_taps

-- packets have so many ends since one event, which can be written, and so can its number
pub record HaveEnds (since : EventId) (ts : List Timed) (all : List Ends) : Type 0 where
  pub each : length all ≡ length ts
  pub small : All FitsEnds all
  pub number : since.number < 2 ^ 32

-- packets have more taps than a reader takes
abbrev pub HasManyTaps : List Timed → Type 0
HasManyTaps ts = (taps : List Tap) × AreTapsOf ts taps × (most_taps < length taps)

-- why packets have no file; want of memory says nothing
abbrev pub IsDateFault : List Timed → ℤ → DateError → Type 0
IsDateFault ts shift Range = Any (HasNoStamp shift) ts ⊎ HasManyTaps ts
IsDateFault ts shift Memory = Unit {0}
