-- What is wrong with a block, in the order in which it counts.
use Rattle.std.specs.Prelude.{ℕ, ◌+◌, ◌^◌, ◌%◌, Bool, true, false, not, ◌&&◌, ◌||◌, ◌==◌, if◌then◌else◌, nat_lt, is_none, List, [], ◌∷◌, ◌++◌, length, take, Option, Some, None}
use Rattle.pcapng_stream.specs.declared.order.Order.{Order}
use Rattle.pcapng_stream.specs.declared.head.Head.{Head}
use Rattle.pcapng_stream.specs.declared.flaw.Flaw.{Flaw}
use Rattle.pcapng_stream.specs.declared.flaw.Flaw.TheVariants.{Malformed, OtherVersion, TooLong}
use Rattle.pcapng_stream.specs.declared.block_kind.BlockKind.{BlockKind}
use Rattle.pcapng_stream.specs.declared.block_kind.BlockKind.TheVariants.{SectionHeader, InterfaceDescription, EnhancedPacket, InterfaceStatistics, Other}
use Rattle.pcapng_stream.specs.Numbers.{padded}
use Rattle.pcapng_stream.specs.Blocks.{Section, Block, is_section, magic_order, head_of, kind_at, kind_of, last_length, major_version, interface_of, interface_number, captured_length, stamp_of, is_stamp}

-- ---- before a block is whole
-- the magic number of a section header is there, and reads as it should in neither order
abbrev pub lacks_order : List ℕ → Bool
lacks_order begin = is_section begin && not (nat_lt (length begin) 12) && is_none (magic_order begin)

-- a block of this kind is read; all others are skipped
abbrev pub is_read : BlockKind → Bool
is_read SectionHeader = true
is_read InterfaceDescription = true
is_read EnhancedPacket = true
is_read InterfaceStatistics = true
is_read Other = false

-- no block of this kind has this length: it is under 12, no multiple of four, or over 2^24 where the block is read
abbrev pub is_wrong_size : BlockKind → ℕ → Bool
is_wrong_size kind n = nat_lt n 12 || not (n % 4 == 0) || is_read kind && nat_lt (2 ^ 24) n

-- the length of the block that begins so is there, and is wrong
abbrev pub has_wrong_size : Option Head → List ℕ → Bool
has_wrong_size None begin = false
has_wrong_size (Some head) begin = is_wrong_size (kind_at head.order begin) head.size

-- no block begins so, whatever follows
abbrev pub begins_wrong : Option Order → List ℕ → Bool
begins_wrong present bytes = lacks_order (take 12 bytes) || has_wrong_size (head_of present bytes) (take 12 bytes)

-- ---- of a whole block
-- something that a block may be, and what is wrong with it if it is so
pub record Check : Type 0 where
  pub so : Bool
  pub flaw : Flaw

-- if this is so, the block has this flaw
abbrev pub refuse : Bool → Flaw → Check
refuse so flaw = record { so = so; flaw = flaw }

-- the flaw of the first of these that is so
abbrev pub first_flaw : List Check → Option Flaw
first_flaw [] = None
first_flaw (c ∷ more) = if c.so then Some c.flaw else first_flaw more

-- the least length of a block of this kind
abbrev pub least_length : BlockKind → ℕ
least_length SectionHeader = 28
least_length InterfaceDescription = 20
least_length EnhancedPacket = 32
least_length InterfaceStatistics = 12
least_length Other = 12

-- what may be wrong with each block
abbrev pub length_checks : Block → List Check
length_checks b =
    refuse (not (last_length b == length b.bytes)) Malformed
    ∷ refuse (nat_lt (length b.bytes) (least_length (kind_of b))) Malformed
    ∷ []

-- what may be wrong with an interface: its options are cut or have a wrong offset, or its section has 65536 interfaces before it
abbrev pub interface_checks : Section → Block → List Check
interface_checks s b =
    refuse (is_none (interface_of b)) Malformed
    ∷ refuse (not (nat_lt (length s.interfaces) 65536)) Malformed
    ∷ []

-- what may be wrong with a packet: its section has no such interface, too much was captured, the captured bytes pass the block, or the
-- stamp is below 0 or is 2^62 ns or more
abbrev pub packet_checks : Section → Block → List Check
packet_checks s b =
    refuse (not (nat_lt (interface_number b) (length s.interfaces))) Malformed
    ∷ refuse (nat_lt 262144 (captured_length b)) TooLong
    ∷ refuse (nat_lt (length b.bytes) (32 + padded (captured_length b))) Malformed
    ∷ refuse (not (is_stamp (stamp_of s b))) Malformed
    ∷ []

-- what may be wrong with a block of this kind
abbrev pub kind_checks : BlockKind → Section → Block → List Check
kind_checks SectionHeader s b = refuse (not (major_version b == 1)) OtherVersion ∷ []
kind_checks InterfaceDescription s b = interface_checks s b
kind_checks EnhancedPacket s b = packet_checks s b
kind_checks InterfaceStatistics s b = []
kind_checks Other s b = []

-- the first flaw of a whole block in this section
abbrev pub flaw_in : Section → Block → Option Flaw
flaw_in s b = first_flaw (length_checks b ++ kind_checks (kind_of b) s b)
