-- The packets of captures in blocks: their stamps are below 2^62, and none has more than 262,144 bytes.
use Rattle.std.proofs.Common.{◌≡◌, ℕ, ◌<◌, ◌≤◌, ◌^◌, List, [], ◌∷◌, ◌++◌, length, take, drop, Bool, true, false, not, nat_lt, ℤ, pos, negsuc, unsigned_abs, None, All, refl, arith, length-take}
use Rattle.std.proofs.lemmas.List.Elements.{All-append, All-cons, All-nil}
use Rattle.packets.proofs.Bounds.{AreShort, IsStamped, both_short}
use Rattle.pcapng_stream.specs.declared.flaw.Flaw.{Flaw}
use Rattle.pcapng_stream.specs.declared.flaw.Flaw.TheVariants.{Malformed}
use Rattle.pcapng_stream.specs.declared.block_kind.BlockKind.{BlockKind}
use Rattle.pcapng_stream.specs.declared.block_kind.BlockKind.TheVariants.{SectionHeader, InterfaceDescription, EnhancedPacket, InterfaceStatistics, Other}
use Rattle.pcapng_stream.specs.Blocks.{Section, Block, before, captured_length, is_stamp, kind_of, packet_of, packets_by, packets_in, section_behind, stamp_of}
use Rattle.pcapng_stream.specs.Flaws.{Check, first_flaw, kind_checks, length_checks, packet_checks, refuse}
use Rattle.pcapng_stream.specs.Pcapng.{AreBlocks, Blocks, Reads, packets_after, packets_of}

-- ---- checks that find nothing wrong
abbrev IsSound : Check → Type 0
IsSound c = c.so ≡ false

sound_so : (so : Bool) (flaw : Flaw) (more : List Check) → first_flaw (refuse so flaw ∷ more) ≡ None → so ≡ false
sound_so true flaw more none = absurd cc
sound_so false flaw more none = refl

sound_more : (so : Bool) (flaw : Flaw) (more : List Check) → first_flaw (refuse so flaw ∷ more) ≡ None → first_flaw more ≡ None
sound_more true flaw more none = absurd cc
sound_more false flaw more none = none

all_sound : (checks : List Check) → first_flaw checks ≡ None → All IsSound checks
all_sound [] none = All-nil IsSound
all_sound (c ∷ more) none = All-cons IsSound c more (sound_so c.so c.flaw more none) (all_sound more (sound_more c.so c.flaw more none))

-- ---- stamps
below_limit : (n most : ℕ) → not (nat_lt n most) ≡ false → n < most
below_limit n most is = grind (arith, is)

stamp_small : (z : ℤ) → not (is_stamp z) ≡ false → unsigned_abs z < 2 ^ 62
stamp_small (pos n) last = below_limit n (2 ^ 62) last
stamp_small (negsuc n) last = absurd cc

kind_stamped : (kind : BlockKind) (s : Section) (b : Block) → first_flaw (length_checks b ++ kind_checks kind s b) ≡ None → All IsStamped (packets_by kind s b)
kind_stamped SectionHeader s b none = All-nil IsStamped
kind_stamped InterfaceDescription s b none = All-nil IsStamped
kind_stamped EnhancedPacket s b none =
    let last : not (is_stamp (stamp_of s b)) ≡ false = all_sound (length_checks b ++ packet_checks s b) none 5 (refuse false Malformed) (omega arith) in
    All-cons IsStamped (packet_of s b) [] (stamp_small (stamp_of s b) last) (All-nil IsStamped)
kind_stamped InterfaceStatistics s b none = All-nil IsStamped
kind_stamped Other s b none = All-nil IsStamped

blocks_stamped : (s : Section) (all : List Block) → AreBlocks s all → All IsStamped (packets_after s all)
blocks_stamped s [] are = All-nil IsStamped
blocks_stamped s (b ∷ more) are =
    All-append IsStamped (packets_in s b) (packets_after (section_behind s b) more) (kind_stamped (kind_of b) s b are.0.flawless) (blocks_stamped (section_behind s b) more are.1)

pub packets_stamped : (s : List ℕ) (c : Blocks) → Reads s c → All IsStamped (packets_of c)
packets_stamped s c reads = blocks_stamped before c.blocks reads.made.are_blocks

-- ---- lengths
not_above : (n most : ℕ) → nat_lt most n ≡ false → n ≤ most
not_above n most not = grind (arith, not)

taken_short : (n most : ℕ) (bytes : List ℕ) → n ≤ most → length (take n bytes) ≤ most
taken_short n most bytes few = let long = length-take n bytes in omega (arith, few, long)

kind_short : (kind : BlockKind) (s : Section) (b : Block) → first_flaw (length_checks b ++ kind_checks kind s b) ≡ None → AreShort (packets_by kind s b)
kind_short SectionHeader s b none = tt
kind_short InterfaceDescription s b none = tt
kind_short EnhancedPacket s b none =
    let fourth : nat_lt 262144 (captured_length b) ≡ false = all_sound (length_checks b ++ packet_checks s b) none 3 (refuse false Malformed) (omega arith) in
    (taken_short (captured_length b) 262144 (drop 28 b.bytes) (not_above (captured_length b) 262144 fourth), tt)
kind_short InterfaceStatistics s b none = tt
kind_short Other s b none = tt

blocks_short : (s : Section) (bs : List Block) → AreBlocks s bs → AreShort (packets_after s bs)
blocks_short s [] are = tt
blocks_short s (b ∷ bs) are = both_short (packets_in s b) (packets_after (section_behind s b) bs) (kind_short (kind_of b) s b are.0.flawless) (blocks_short (section_behind s b) bs are.1)

pub packets_short : (s : List ℕ) (c : Blocks) → Reads s c → AreShort (packets_of c)
packets_short s c reads = blocks_short before c.blocks reads.made.are_blocks
