-- A capture of one packet, and what statistics tell, worked through.
use Rattle.std.proofs.Common.{◌≡◌, ℕ, true, false, List, [], ◌∷◌, Option, Some, None, ℤ, pos, negsuc, refl, arith}
use Rattle.packets.specs.Packets.{Seen}
use Rattle.pcapng_stream.specs.declared.order.Order.TheVariants.{Little}
use Rattle.pcapng_stream.specs.declared.section.Interface.{Interface}
use Rattle.pcapng_stream.specs.declared.flaw.Flaw.TheVariants.{Malformed, OtherVersion}
use Rattle.packets.specs.declared.dropped.Dropped.{Dropped}
use Rattle.packets.specs.Dropped.{none_dropped}
use Rattle.packets.specs.declared.passed.Passed.{Passed}
use Rattle.pcapng_stream.specs.Blocks.{Block, before, dropped_in, interface_of, nanos, section_behind, stamp_on}
use Rattle.pcapng_stream.specs.Flaws.{begins_wrong, flaw_in}
use Rattle.pcapng_stream.specs.Passed.{passed_over}
use Rattle.pcapng_stream.specs.declared.skipped.Skipped.{Skipped}
use Rattle.pcapng_stream.specs.Skipping.{held_of, skipped_in}
use Rattle.pcapng_stream.specs.Pcapng.{Blocks, AreBlocks, IsBlock, packets_of, section_after}

abbrev little : List ℕ → Block
little bytes = record { order = Little; bytes = bytes }

-- a section header
abbrev header : Block
header = little (10 ∷ 13 ∷ 13 ∷ 10 ∷ 28 ∷ 0 ∷ 0 ∷ 0 ∷ 77 ∷ 60 ∷ 43 ∷ 26 ∷ 1 ∷ 0 ∷ 0 ∷ 0 ∷ 255 ∷ 255 ∷ 255 ∷ 255 ∷ 255 ∷ 255 ∷ 255 ∷ 255 ∷ 28 ∷ 0 ∷ 0 ∷ 0 ∷ [])

-- an interface of link type 101 whose option says 9
abbrev interface : Block
interface = little (1 ∷ 0 ∷ 0 ∷ 0 ∷ 32 ∷ 0 ∷ 0 ∷ 0 ∷ 101 ∷ 0 ∷ 0 ∷ 0 ∷ 0 ∷ 0 ∷ 4 ∷ 0 ∷ 9 ∷ 0 ∷ 1 ∷ 0 ∷ 9 ∷ 0 ∷ 0 ∷ 0 ∷ 0 ∷ 0 ∷ 0 ∷ 0 ∷ 32 ∷ 0 ∷ 0 ∷ 0 ∷ [])

-- a packet of the one byte 7 at 100 ns
abbrev packet : Block
packet = little (6 ∷ 0 ∷ 0 ∷ 0 ∷ 36 ∷ 0 ∷ 0 ∷ 0 ∷ 0 ∷ 0 ∷ 0 ∷ 0 ∷ 0 ∷ 0 ∷ 0 ∷ 0 ∷ 100 ∷ 0 ∷ 0 ∷ 0 ∷ 1 ∷ 0 ∷ 0 ∷ 0 ∷ 9 ∷ 0 ∷ 0 ∷ 0 ∷ 7 ∷ 0 ∷ 0 ∷ 0 ∷ 36 ∷ 0 ∷ 0 ∷ 0 ∷ [])

-- an interface of link type 101 whose offset is -1 s, and one whose first option passes its end
abbrev earlier : Block
earlier = little (1 ∷ 0 ∷ 0 ∷ 0 ∷ 32 ∷ 0 ∷ 0 ∷ 0 ∷ 101 ∷ 0 ∷ 0 ∷ 0 ∷ 0 ∷ 0 ∷ 4 ∷ 0 ∷ 14 ∷ 0 ∷ 8 ∷ 0 ∷ 255 ∷ 255 ∷ 255 ∷ 255 ∷ 255 ∷ 255 ∷ 255 ∷ 255 ∷ 32 ∷ 0 ∷ 0 ∷ 0 ∷ [])

abbrev cut_interface : Block
cut_interface = little (1 ∷ 0 ∷ 0 ∷ 0 ∷ 32 ∷ 0 ∷ 0 ∷ 0 ∷ 101 ∷ 0 ∷ 0 ∷ 0 ∷ 0 ∷ 0 ∷ 4 ∷ 0 ∷ 2 ∷ 0 ∷ 9 ∷ 0 ∷ 9 ∷ 0 ∷ 1 ∷ 0 ∷ 9 ∷ 0 ∷ 0 ∷ 0 ∷ 32 ∷ 0 ∷ 0 ∷ 0 ∷ [])

-- how a packet of 2^24 + 4 bytes begins, and how secrets of as many do
abbrev long_packet : List ℕ
long_packet = 6 ∷ 0 ∷ 0 ∷ 0 ∷ 4 ∷ 0 ∷ 0 ∷ 1 ∷ []

abbrev long_secrets : List ℕ
long_secrets = 10 ∷ 0 ∷ 0 ∷ 0 ∷ 4 ∷ 0 ∷ 0 ∷ 1 ∷ []

-- secrets of 20 bytes, of which the last two did not come yet, and as many bytes of a packet
abbrev cut_secrets : List ℕ
cut_secrets = 10 ∷ 0 ∷ 0 ∷ 0 ∷ 20 ∷ 0 ∷ 0 ∷ 0 ∷ 1 ∷ 2 ∷ 3 ∷ 4 ∷ 5 ∷ 6 ∷ 7 ∷ 8 ∷ 20 ∷ 0 ∷ []

abbrev cut_packet : List ℕ
cut_packet = 6 ∷ 0 ∷ 0 ∷ 0 ∷ 36 ∷ 0 ∷ 0 ∷ 0 ∷ 0 ∷ 0 ∷ 0 ∷ 0 ∷ 0 ∷ 0 ∷ 0 ∷ 0 ∷ 100 ∷ 0 ∷ []

-- a header of major version 2, and one whose last length is another
abbrev later_header : Block
later_header = little (10 ∷ 13 ∷ 13 ∷ 10 ∷ 28 ∷ 0 ∷ 0 ∷ 0 ∷ 77 ∷ 60 ∷ 43 ∷ 26 ∷ 2 ∷ 0 ∷ 0 ∷ 0 ∷ 255 ∷ 255 ∷ 255 ∷ 255 ∷ 255 ∷ 255 ∷ 255 ∷ 255 ∷ 28 ∷ 0 ∷ 0 ∷ 0 ∷ [])

abbrev broken_header : Block
broken_header = little (10 ∷ 13 ∷ 13 ∷ 10 ∷ 28 ∷ 0 ∷ 0 ∷ 0 ∷ 77 ∷ 60 ∷ 43 ∷ 26 ∷ 1 ∷ 0 ∷ 0 ∷ 0 ∷ 255 ∷ 255 ∷ 255 ∷ 255 ∷ 255 ∷ 255 ∷ 255 ∷ 255 ∷ 32 ∷ 0 ∷ 0 ∷ 0 ∷ [])

-- a simple packet of no byte, an entry of a journal, and names
abbrev simple : Block
simple = little (3 ∷ 0 ∷ 0 ∷ 0 ∷ 16 ∷ 0 ∷ 0 ∷ 0 ∷ 0 ∷ 0 ∷ 0 ∷ 0 ∷ 16 ∷ 0 ∷ 0 ∷ 0 ∷ [])

abbrev entry : Block
entry = little (9 ∷ 0 ∷ 0 ∷ 0 ∷ 12 ∷ 0 ∷ 0 ∷ 0 ∷ 12 ∷ 0 ∷ 0 ∷ 0 ∷ [])

abbrev names : Block
names = little (4 ∷ 0 ∷ 0 ∷ 0 ∷ 12 ∷ 0 ∷ 0 ∷ 0 ∷ 12 ∷ 0 ∷ 0 ∷ 0 ∷ [])

-- statistics of the first interface: 3 packets were dropped by it and 2 by the system; later ones, which tell 1 and not the other;
-- and some whose last option is cut
abbrev statistics : Block
statistics = little (5 ∷ 0 ∷ 0 ∷ 0 ∷ 52 ∷ 0 ∷ 0 ∷ 0 ∷ 0 ∷ 0 ∷ 0 ∷ 0 ∷ 0 ∷ 6 ∷ 0 ∷ 0 ∷ 100 ∷ 0 ∷ 0 ∷ 0 ∷ 5 ∷ 0 ∷ 8 ∷ 0 ∷ 3 ∷ 0 ∷ 0 ∷ 0 ∷ 0 ∷ 0 ∷ 0 ∷ 0 ∷ 7 ∷ 0 ∷ 8 ∷ 0 ∷ 2 ∷ 0 ∷ 0 ∷ 0 ∷ 0 ∷ 0 ∷ 0 ∷ 0 ∷ 0 ∷ 0 ∷ 0 ∷ 0 ∷ 52 ∷ 0 ∷ 0 ∷ 0 ∷ [])

abbrev later_statistics : Block
later_statistics = little (5 ∷ 0 ∷ 0 ∷ 0 ∷ 36 ∷ 0 ∷ 0 ∷ 0 ∷ 0 ∷ 0 ∷ 0 ∷ 0 ∷ 0 ∷ 6 ∷ 0 ∷ 0 ∷ 200 ∷ 0 ∷ 0 ∷ 0 ∷ 5 ∷ 0 ∷ 8 ∷ 0 ∷ 1 ∷ 0 ∷ 0 ∷ 0 ∷ 0 ∷ 0 ∷ 0 ∷ 0 ∷ 36 ∷ 0 ∷ 0 ∷ 0 ∷ [])

abbrev cut_statistics : Block
cut_statistics = little (5 ∷ 0 ∷ 0 ∷ 0 ∷ 40 ∷ 0 ∷ 0 ∷ 0 ∷ 0 ∷ 0 ∷ 0 ∷ 0 ∷ 0 ∷ 6 ∷ 0 ∷ 0 ∷ 200 ∷ 0 ∷ 0 ∷ 0 ∷ 5 ∷ 0 ∷ 8 ∷ 0 ∷ 9 ∷ 0 ∷ 0 ∷ 0 ∷ 0 ∷ 0 ∷ 0 ∷ 0 ∷ 7 ∷ 0 ∷ 8 ∷ 0 ∷ 40 ∷ 0 ∷ 0 ∷ 0 ∷ [])

abbrev capture : Blocks
capture = record { blocks = header ∷ interface ∷ packet ∷ []; rest = [] }

pub header_is : IsBlock before header
header_is = record { whole = record { said = refl; long = omega arith }; sound = refl; flawless = refl }

pub interface_is : IsBlock (section_behind before header) interface
interface_is = record { whole = record { said = refl; long = omega arith }; sound = refl; flawless = refl }

pub packet_is : IsBlock (section_behind (section_behind before header) interface) packet
packet_is = record { whole = record { said = refl; long = omega arith }; sound = refl; flawless = refl }

pub blocks_are : AreBlocks before (header ∷ interface ∷ packet ∷ [])
blocks_are = (header_is, (interface_is, (packet_is, tt)))

pub interface_says : ◌≡◌ {A = Option Interface} (interface_of interface) (Some (record { link = 101; resolution = 9; offset = pos 0; dropped = none_dropped }))
interface_says = refl

pub earlier_says : ◌≡◌ {A = Option Interface} (interface_of earlier) (Some (record { link = 101; resolution = 6; offset = negsuc 0; dropped = none_dropped }))
earlier_says = refl

-- the packet would be 100 us after -1 s there
pub early_stamp : ◌≡◌ {A = ℤ} (stamp_on (record { link = 101; resolution = 6; offset = negsuc 0; dropped = none_dropped }) packet) (negsuc 999899999)
early_stamp = refl

pub early_is : flaw_in (section_behind (section_behind before header) earlier) packet ≡ Some Malformed
early_is = refl

pub cut_is : flaw_in (section_behind before header) cut_interface ≡ Some Malformed
cut_is = refl

pub packets_are : ◌≡◌ {A = List Seen} (packets_of capture) (record { stamp = 100; link = 101; interface = Some 0; original_length = 9; bytes = 7 ∷ [] } ∷ [])
packets_are = refl

pub passed_are : ◌≡◌ {A = Passed} (passed_over (header ∷ simple ∷ interface ∷ entry ∷ names ∷ packet ∷ simple ∷ [])) (record { simple = 2; obsolete = 0; other = 1 })
passed_are = refl

-- what was told last stands; sections add up; and before its interface nothing is told
pub told_are : ◌≡◌ {A = Dropped} (dropped_in (section_after before (header ∷ interface ∷ statistics ∷ []))) (record { interface = 3; system = 2 })
told_are = refl

pub told_last : ◌≡◌ {A = Dropped} (dropped_in (section_after before (header ∷ interface ∷ statistics ∷ packet ∷ later_statistics ∷ cut_statistics ∷ []))) (record { interface = 1; system = 2 })
told_last = refl

pub told_both : ◌≡◌ {A = Dropped} (dropped_in (section_after before (header ∷ interface ∷ statistics ∷ header ∷ statistics ∷ interface ∷ later_statistics ∷ []))) (record { interface = 4; system = 2 })
told_both = refl

pub statistics_are : flaw_in (section_behind before header) cut_statistics ≡ None
statistics_are = refl

-- a packet before its interface
pub packet_alone : flaw_in (section_behind before header) packet ≡ Some Malformed
packet_alone = refl

pub later_is : flaw_in before later_header ≡ Some OtherVersion
later_is = refl

pub broken_is : flaw_in before broken_header ≡ Some Malformed
broken_is = refl

pub packet_too_long : begins_wrong (Some Little) long_packet ≡ true
packet_too_long = refl

pub secrets_wait : begins_wrong (Some Little) long_secrets ≡ false
secrets_wait = refl

pub secrets_skipped : ◌≡◌ {A = Option Skipped} (skipped_in (Some Little) cut_secrets) (Some (record { order = Little; block_type = 10; size = 20; came = 18 }))
secrets_skipped = refl

pub secrets_held : held_of (skipped_in (Some Little) cut_secrets) cut_secrets ≡ 20 ∷ 0 ∷ []
secrets_held = refl

pub packet_not_skipped : ◌≡◌ {A = Option Skipped} (skipped_in (Some Little) cut_packet) None
packet_not_skipped = refl

-- stamps: 5 us, 1024 and 1 times 2^-10 s
pub micros : nanos 6 5 ≡ 5000
micros = refl

pub second : nanos 138 1024 ≡ 1000000000
second = refl

pub part : nanos 138 1 ≡ 976562
part = refl
