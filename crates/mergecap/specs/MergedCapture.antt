-- The packets of several captures as one, in the order of their times: its bytes, and when there can be one.
use Rattle.std.specs.Prelude.{◌≡◌, ◌≢◌, ◌⊎◌, ℕ, ◌+◌, ◌*◌, ◌/◌, ◌%◌, ◌^◌, ◌≤◌, List, [], ◌∷◌, ◌++◌, length, map, All, AllPairs, Any, Contains, ℤ, pos, ◌≤ℤ◌, ◌<ℤ◌, unsigned_abs}
use Rattle.std.specs.List.{flat_map}
use Rattle.std.specs.List.Sorted.{IsPermutation}
use Rattle.byteorder.specs.Endian.{little_bytes}
use Rattle.packets.specs.Packets.{Seen}
use Rattle.pcap_stream.specs.Capture.{Record, bytes_of, magic, version}
use Rattle.pcap_stream.specs.declared.header.Order.TheVariants.{Little}
use Rattle.pcap_stream.specs.declared.header.Fraction.TheVariants.{Nanos}
use Rattle.report.specs.declared.merge.MergeKey.{MergeKey}
use Rattle.report.specs.Merging.{ComesFirst}
use Rattle.mergecap.specs.declared.errors.ArrangeError.{ArrangeError}
use Rattle.mergecap.specs.declared.errors.ArrangeError.TheVariants.{Links, Range, Memory}

-- a packet, and what it is merged by: its time in units of 1e-9 ns, the place of its label, and its number there
pub record Timed : Type 0 where
  pub key : MergeKey
  pub packet : Seen

-- ---- the order
-- what packets are merged by
abbrev pub merge_keys : List Timed → List MergeKey
merge_keys ts = map (λ (t : Timed). t.key) ts

-- the same packets, and each comes before those behind it, as events do in a merge
pub record IsArranged (old new : List Timed) : Type 0 where
  pub same : IsPermutation old new
  pub sorted : AllPairs (λ (a b : Timed). ComesFirst a.key b.key) new

-- ---- the bytes
-- a number as four bytes, the least significant first
abbrev pub four_bytes : ℕ → List ℕ
four_bytes n = little_bytes 4 n

-- the header: the magic number, version 2.4, no time zone, no accuracy, how many bytes of a packet are captured at most, and
-- the link type
abbrev pub header : ℕ → List ℕ
header link = magic Little Nanos ++ version Little ++ four_bytes 0 ++ four_bytes 0 ++ four_bytes 262144 ++ four_bytes link

-- the whole ns of a time in units of 1e-9 ns that is not below 0, rounded down
abbrev pub whole_nanos : ℤ → ℕ
whole_nanos units = unsigned_abs units / 1000000000

-- the head of a record: seconds, ns, how many bytes were captured, and the same again as the original length
abbrev pub record_head : ℕ → ℕ → List ℕ
record_head nanos captured = four_bytes (nanos / 1000000000) ++ four_bytes (nanos % 1000000000) ++ four_bytes captured ++ four_bytes captured

-- the record of a packet at its time
abbrev pub record_of_packet : Timed → Record
record_of_packet t = record { head = record_head (whole_nanos t.key.value) (length t.packet.bytes); captured = t.packet.bytes }

-- the link type of the first packet, or Ethernet, if there is none
abbrev pub link_type_of : List Timed → ℕ
link_type_of [] = 1
link_type_of (t ∷ ts) = t.packet.link

-- all bytes of the capture
abbrev pub merged_capture : List Timed → List ℕ
merged_capture ts = header (link_type_of ts) ++ flat_map bytes_of (map record_of_packet ts)

-- ---- when packets can stand in one capture
-- 2^32 s in units of 1e-9 ns
abbrev pub time_limit : ℤ
time_limit = pos (2 ^ 32 * 10 ^ 18)

-- any two packets have the same link type
abbrev pub HasOneLink : List Timed → Type 0
HasOneLink ts = (a b : Timed) → Contains ts a → Contains ts b → a.packet.link ≡ b.packet.link

-- two packets have different link types
abbrev pub HasTwoLinks : List Timed → Type 0
HasTwoLinks ts = (a : Timed) × (b : Timed) × Contains ts a × Contains ts b × (a.packet.link ≢ b.packet.link)

-- the whole ns at which the head of a record begins with the magic number and the version, as the capture itself does:
-- 2,712,812,621 s and 262,146 ns
abbrev pub header_nanos : ℕ
header_nanos = 2712812621 * 1000000000 + 262146

-- the time has a record: it is not below 0, its seconds have 32 bits, and the record does not begin as the capture does
pub record IsInRange (t : Timed) : Type 0 where
  pub low : pos 0 ≤ℤ t.key.value
  pub high : t.key.value <ℤ time_limit
  pub other : whole_nanos t.key.value ≢ header_nanos

-- the time, which is not below 0, has no record
abbrev pub HasNoRecord : Timed → Type 0
HasNoRecord t = (time_limit ≤ℤ t.key.value) ⊎ (whole_nanos t.key.value ≡ header_nanos)

-- at most 262,144 bytes, as a record may have
abbrev pub IsShort : Timed → Type 0
IsShort t = length t.packet.bytes ≤ 262144

-- the packet can stand in a capture
abbrev pub IsWritable : Timed → Type 0
IsWritable t = IsInRange t × IsShort t

-- the packets have one link type, and times that have records
pub record AreWritable (ts : List Timed) : Type 0 where
  pub one_link : HasOneLink ts
  pub in_range : All IsInRange ts

-- why packets can't be arranged; memory runs out only where there is no other cause
abbrev pub IsFault : List Timed → ArrangeError → Type 0
IsFault ts Links = HasTwoLinks ts
IsFault ts Range = HasOneLink ts × Any HasNoRecord ts
IsFault ts Memory = AreWritable ts
