-- Blocks: what each kind says, and what a section's blocks say of those that follow.
use Rattle.std.specs.Prelude.{ℕ, zero, suc, ◌+◌, ◌-◌, ◌*◌, ◌/◌, ◌%◌, ◌^◌, Bool, false, ◌==◌, if◌then◌else◌, nat_lt, List, [], ◌∷◌, ◌++◌, length, take, drop, slice_index_or, Option, Some, None, unwrap_or, option_to_list, ℤ, pos, negsuc, ◌+ℤ◌, ◌*ℤ◌, unsigned_abs, sum_by}
use Rattle.std.specs.Int.{w64, cast_signed}
use Rattle.std.specs.List.{list_any}
use Rattle.std.specs.Str.{bytes_eq}
use Rattle.packets.specs.declared.dropped.Dropped.{Dropped}
use Rattle.packets.specs.Dropped.{none_dropped, saturated}
use Rattle.packets.specs.Packets.{Seen}
use Rattle.pcapng_stream.specs.declared.order.Order.{Order}
use Rattle.pcapng_stream.specs.declared.order.Order.TheVariants.{Big, Little}
use Rattle.pcapng_stream.specs.declared.head.Head.{Head}
use Rattle.pcapng_stream.specs.declared.block_kind.BlockKind.{BlockKind}
use Rattle.pcapng_stream.specs.declared.block_kind.BlockKind.TheVariants.{SectionHeader, InterfaceDescription, EnhancedPacket, InterfaceStatistics, Other}
use Rattle.pcapng_stream.specs.declared.section.Interface.{Interface}
use Rattle.pcapng_stream.specs.Numbers.{half_at, word_at}
use Rattle.pcapng_stream.specs.declared.statistics.Told.{Told}
use Rattle.pcapng_stream.specs.Options.{Opt, options_in, resolution_in, offset_in, is_wrong_offset, told_by}

-- ---- sections
-- what a section says of the blocks that follow: the order of their bytes, and its interfaces; and how many packets the
-- sections before it say were dropped
pub record Section : Type 0 where
  pub order : Option Order
  pub interfaces : List Interface
  pub earlier : Dropped

-- before the first section header
abbrev pub before : Section
before = record { order = None; interfaces = []; earlier = none_dropped }

-- ---- how a block begins
-- the type of a section header, which reads alike in both orders
abbrev pub section_type : List ℕ
section_type = 10 ∷ 13 ∷ 13 ∷ 10 ∷ []

-- a section header begins these bytes
abbrev pub is_section : List ℕ → Bool
is_section bytes = bytes_eq section_type (take 4 bytes)

-- the kind of statistics of this length: those of more than 2^24 bytes are not read
abbrev pub statistics_kind : ℕ → BlockKind
statistics_kind size = if nat_lt (2 ^ 24) size then Other else InterfaceStatistics

-- the kind of the block that begins so in this order, by its type
abbrev pub kind_at : Order → List ℕ → BlockKind
kind_at order begin =
    if is_section begin then SectionHeader
    else if word_at order 0 begin == 1 then InterfaceDescription
    else if word_at order 0 begin == 6 then EnhancedPacket
    else if word_at order 0 begin == 5 then statistics_kind (word_at order 4 begin) else Other

-- the order in which a section header's magic number reads as it should, if it does in one
abbrev pub magic_order : List ℕ → Option Order
magic_order bytes = if word_at Big 8 bytes == 0x1a2b3c4d then Some Big else if word_at Little 8 bytes == 0x1a2b3c4d then Some Little else None

-- the order of a section header, where its 12 first bytes are there and tell it
abbrev pub section_order : List ℕ → Option Order
section_order begin = if nat_lt (length begin) 12 then None else magic_order begin

-- the order of a block that begins so: a section header's own, and the section's for each other
abbrev pub order_of : Option Order → List ℕ → Option Order
order_of present begin = if is_section begin then section_order begin else present

-- the order and the length of a block, where both are there
abbrev pub head_by : Option Order → List ℕ → Option Head
head_by None begin = None
head_by (Some order) begin = if nat_lt (length begin) 8 then None else Some (record { order = order; size = word_at order 4 begin })

-- what the first 12 bytes say of the block that they begin
abbrev pub head_of : Option Order → List ℕ → Option Head
head_of present bytes = head_by (order_of present (take 12 bytes)) (take 12 bytes)

-- ---- whole blocks
-- the bytes of a block, and their order
pub record Block : Type 0 where
  pub order : Order
  pub bytes : List ℕ

-- the bytes
abbrev pub bytes_of : Block → List ℕ
bytes_of b = b.bytes

-- the kind
abbrev pub kind_of : Block → BlockKind
kind_of b = kind_at b.order b.bytes

-- the length that stands at the end once more
abbrev pub last_length : Block → ℕ
last_length b = word_at b.order (length b.bytes - 4) b.bytes

-- of a section header, the major version
abbrev pub major_version : Block → ℕ
major_version b = half_at b.order 12 b.bytes

-- of an interface, its options, which stand before the last length, if none of them is cut
abbrev pub options_of : Block → Option (List Opt)
options_of b = options_in b.order (take (length b.bytes - 20) (drop 16 b.bytes))

-- the interface with these options: its link type, the byte that tells the resolution of its stamps, and the seconds that are added to them
abbrev pub interface_with : Block → List Opt → Interface
interface_with b options = record {
  link = half_at b.order 8 b.bytes;
  resolution = unwrap_or (resolution_in options) 6;
  offset = cast_signed w64 (unwrap_or (offset_in b.order options) 0);
  dropped = none_dropped;
}

-- the interface, if it has options of which none is a wrong offset
abbrev pub interface_by : Block → Option (List Opt) → Option Interface
interface_by b None = None
interface_by b (Some options) = if list_any is_wrong_offset options then None else Some (interface_with b options)

-- the interface that a block describes, if its options are sound
abbrev pub interface_of : Block → Option Interface
interface_of b = interface_by b (options_of b)

-- of a packet and of statistics, the number of the interface
abbrev pub interface_number : Block → ℕ
interface_number b = word_at b.order 8 b.bytes

-- of a packet, its time: the upper half and then the lower one
abbrev pub time_of : Block → ℕ
time_of b = word_at b.order 12 b.bytes * 2 ^ 32 + word_at b.order 16 b.bytes

-- of a packet, how many of its bytes were captured
abbrev pub captured_length : Block → ℕ
captured_length b = word_at b.order 20 b.bytes

-- ---- packets
-- times of this resolution count parts of a second: by a power of ten, or of two where the upper bit is set
abbrev pub parts_of_second : ℕ → ℕ
parts_of_second resolution = if nat_lt resolution 128 then 10 ^ (resolution % 128) else 2 ^ (resolution % 128)

-- a time of this resolution in ns, rounded down
abbrev pub nanos : ℕ → ℕ → ℕ
nanos resolution time = time * 1000000000 / parts_of_second resolution

-- an interface of a section, by its number
abbrev pub interface_at : Section → ℕ → Interface
interface_at s n = slice_index_or s.interfaces n (record { link = 0; resolution = 6; offset = pos 0; dropped = none_dropped })

-- the interface of a packet
abbrev pub interface_for : Section → Block → Interface
interface_for s b = interface_at s (interface_number b)

-- the stamp of a packet on this interface in ns: its time, and the seconds of the offset
abbrev pub stamp_on : Interface → Block → ℤ
stamp_on i b = pos (nanos i.resolution (time_of b)) +ℤ i.offset *ℤ pos 1000000000

-- the stamp of a packet in ns
abbrev pub stamp_of : Section → Block → ℤ
stamp_of s b = stamp_on (interface_for s b) b

-- a stamp is 0 ns or more, and below 2^62
abbrev pub is_stamp : ℤ → Bool
is_stamp (pos n) = nat_lt n (2 ^ 62)
is_stamp (negsuc n) = false

-- the packet of an enhanced packet block
abbrev pub packet_of : Section → Block → Seen
packet_of s b = record { stamp = unsigned_abs (stamp_of s b); link = (interface_for s b).link; interface = Some (interface_number b); original_length = word_at b.order 24 b.bytes; bytes = take (captured_length b) (drop 28 b.bytes) }

-- ---- packets that were dropped
-- the options of statistics, which stand before the last length, if none of them is cut
abbrev pub statistics_options : Block → Option (List Opt)
statistics_options b = options_in b.order (take (length b.bytes - 24) (drop 20 b.bytes))

-- what statistics tell; where an option is cut they tell nothing
abbrev pub told_of : Block → Told
told_of b = told_by b.order (unwrap_or (statistics_options b) [])

-- how many packets were dropped at an interface, with what is told of it: a count that is told stands for the one before it
abbrev pub dropped_by : Dropped → Told → Dropped
dropped_by d told = record { interface = unwrap_or told.interface d.interface; system = unwrap_or told.system d.system }

-- an interface with what is told of it
abbrev pub interface_told : Told → Interface → Interface
interface_told told i = record { link = i.link; resolution = i.resolution; offset = i.offset; dropped = dropped_by i.dropped told }

-- interfaces, with what is told of the one of this number; of one that is not there nothing is
abbrev pub interfaces_told : ℕ → Told → List Interface → List Interface
interfaces_told n told [] = []
interfaces_told zero told (i ∷ more) = interface_told told i ∷ more
interfaces_told (suc n) told (i ∷ more) = i ∷ interfaces_told n told more

-- how many packets a section and those before it say were dropped: the sums of what was told last of each interface
abbrev pub dropped_in : Section → Dropped
dropped_in s = record {
  interface = saturated (s.earlier.interface + sum_by (λ (i : Interface). i.dropped.interface) s.interfaces);
  system = saturated (s.earlier.system + sum_by (λ (i : Interface). i.dropped.system) s.interfaces);
}

-- ---- what a block gives
-- the section behind a block of this kind
abbrev pub section_by : BlockKind → Section → Block → Section
section_by SectionHeader s b = record { order = Some b.order; interfaces = []; earlier = dropped_in s }
section_by InterfaceDescription s b = record { order = s.order; interfaces = s.interfaces ++ option_to_list (interface_of b); earlier = s.earlier }
section_by EnhancedPacket s b = s
section_by InterfaceStatistics s b = record { order = s.order; interfaces = interfaces_told (interface_number b) (told_of b) s.interfaces; earlier = s.earlier }
section_by Other s b = s

-- the section behind a block
abbrev pub section_behind : Section → Block → Section
section_behind s b = section_by (kind_of b) s b

-- the packets of a block of this kind
abbrev pub packets_by : BlockKind → Section → Block → List Seen
packets_by SectionHeader s b = []
packets_by InterfaceDescription s b = []
packets_by EnhancedPacket s b = packet_of s b ∷ []
packets_by InterfaceStatistics s b = []
packets_by Other s b = []

-- the packets of a block: one, or none
abbrev pub packets_in : Section → Block → List Seen
packets_in s b = packets_by (kind_of b) s b
