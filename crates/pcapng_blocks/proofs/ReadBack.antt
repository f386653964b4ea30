-- A file that is written is read as its packets.
use Rattle.std.proofs.Common.{◌≡◌, ◌≤◌, ◌+◌, ℕ, List, [], ◌∷◌, ◌++◌, length, drop, map, All, refl, sym, ap, subst, ◌∙◌, arith, append_assoc, length-append}
use Rattle.std.specs.List.{flat_map}
use Rattle.std.proofs.lemmas.List.{append-nil, drop_at, length-map}
use Rattle.std.proofs.lemmas.List.Elements.{All-head, All-tail}
use Rattle.packets.specs.Packets.{Seen}
use Rattle.pcapng_stream.specs.declared.section.Interface.{Interface}
use Rattle.pcapng_stream.specs.Blocks.{Block, Section, before, bytes_of, interface_number, packets_in, section_behind}
use Rattle.pcapng_stream.specs.Flaws.{begins_wrong}
use Rattle.pcapng_stream.specs.Pcapng.{AreBlocks, HasBlock, IsBlock, packets_after, section_after}
use Rattle.pcapng_blocks.specs.Bytes.{SaidInterface, SaidPacket, interface_bytes, packet_bytes, section_header}
use Rattle.pcapng_blocks.specs.File.{IsInterface, IsPacket, Said, file_bytes}
use Rattle.pcapng_blocks.specs.Reading.{AreReadable, IsReadAs, IsReadable, seen_interface, seen_packet}
use Rattle.pcapng_blocks.proofs.Whole.{header_block, header_is, interface_behind, interface_block, interface_is, number_said, packet_block, packet_is, packet_seen, section_with}

-- ---- blocks one after another
-- the blocks are lawful in this section, which then is that, and these are their packets
record Goes (s : Section) (blocks : List Block) (t : Section) (packets : List Seen) : Type 0 where
  pub are : AreBlocks s blocks
  pub behind : section_after s blocks ≡ t
  pub says : packets_after s blocks ≡ packets

goes_none : (s : Section) → Goes s [] s []
goes_none s = record { are = tt; behind = refl; says = refl }

goes_on : (s mid t : Section) (b : Block) (more : List Block) (some packets : List Seen) → IsBlock s b → section_behind s b ≡ mid → packets_in s b ≡ some → Goes mid more t packets → Goes s (b ∷ more) t (some ++ packets)
goes_on s mid t b more some packets is behind says rest = record {
  are = (is, subst (λ (m : Section). AreBlocks m more) (sym behind) rest.are);
  behind = ap (λ (m : Section). section_after m more) behind ∙ rest.behind;
  says = ap (λ (l : List Seen). l ++ packets_after (section_behind s b) more) says ∙ ap (λ (m : Section). some ++ packets_after m more) behind ∙ ap (λ (l : List Seen). some ++ l) rest.says;
}

interfaces_go : (known : List Interface) (is : List SaidInterface) (blocks : List Block) (t : Section) (packets : List Seen) → All IsInterface is → length known + length is ≤ 65536
    → Goes (section_with (known ++ map seen_interface is)) blocks t packets → Goes (section_with known) (map interface_block is ++ blocks) t packets
interfaces_go known [] blocks t packets lawful few rest = subst (λ (l : List Interface). Goes (section_with l) blocks t packets) (append-nil known) rest
interfaces_go known (i ∷ is) blocks t packets lawful few rest =
    let now : List Interface = known ++ seen_interface i ∷ [] in
    let count : length now ≡ length known + 1 = length-append known (seen_interface i ∷ []) in
    let first : IsInterface i = All-head IsInterface i is lawful in
    goes_on (section_with known) (section_with now) t (interface_block i) (map interface_block is ++ blocks) [] packets (interface_is known i first (omega (arith, few))) (interface_behind known i first) refl
    (interfaces_go now is blocks t packets (All-tail IsInterface i is lawful) (omega (arith, few, count))
    (subst (λ (l : List Interface). Goes (section_with l) blocks t packets) (sym (append_assoc known (seen_interface i ∷ []) (map seen_interface is))) rest))

packets_go : (is : List SaidInterface) (ps : List SaidPacket) → All IsPacket ps → All (IsReadable is) ps → Goes (section_with (map seen_interface is)) (map packet_block ps) (section_with (map seen_interface is)) (map (seen_packet is) ps)
packets_go is [] lawful readable = goes_none (section_with (map seen_interface is))
packets_go is (p ∷ ps) lawful readable =
    let first : IsPacket p = All-head IsPacket p ps lawful in
    let read : IsReadable is p = All-head (IsReadable is) p ps readable in
    let section : Section = section_with (map seen_interface is) in
    goes_on section section section (packet_block p) (map packet_block ps) (seen_packet is p ∷ []) (map (seen_packet is) ps) (packet_is is p first read) refl (packet_seen is p first read)
    (packets_go is ps (All-tail IsPacket p ps lawful) (All-tail (IsReadable is) p ps readable))

-- ---- the whole
abbrev blocks_of : Said → List Block
blocks_of f = header_block f.comment ∷ map interface_block f.interfaces ++ map packet_block f.packets

all_go : (f : Said) → AreReadable f → Goes before (blocks_of f) (section_with (map seen_interface f.interfaces)) (map (seen_packet f.interfaces) f.packets)
all_go f r =
    goes_on before (section_with []) (section_with (map seen_interface f.interfaces)) (header_block f.comment) (map interface_block f.interfaces ++ map packet_block f.packets) [] (map (seen_packet f.interfaces) f.packets)
    (header_is f.comment r.written.comment) refl refl
    (interfaces_go [] f.interfaces (map packet_block f.packets) (section_with (map seen_interface f.interfaces)) (map (seen_packet f.interfaces) f.packets) r.written.interfaces (omega (arith, r.few))
    (packets_go f.interfaces f.packets r.written.packets r.packets))

flat_append : (xs ys : List Block) → flat_map bytes_of (xs ++ ys) ≡ flat_map bytes_of xs ++ flat_map bytes_of ys
flat_append [] ys = refl
flat_append (x ∷ xs) ys = ap (λ (l : List ℕ). bytes_of x ++ l) (flat_append xs ys) ∙ sym (append_assoc (bytes_of x) (flat_map bytes_of xs) (flat_map bytes_of ys))

flat_interfaces : (is : List SaidInterface) → flat_map bytes_of (map interface_block is) ≡ flat_map interface_bytes is
flat_interfaces [] = refl
flat_interfaces (i ∷ is) = ap (λ (l : List ℕ). interface_bytes i ++ l) (flat_interfaces is)

flat_packets : (ps : List SaidPacket) → flat_map bytes_of (map packet_block ps) ≡ flat_map packet_bytes ps
flat_packets [] = refl
flat_packets (p ∷ ps) = ap (λ (l : List ℕ). packet_bytes p ++ l) (flat_packets ps)

joined : (a b c x y : List ℕ) → x ≡ b → y ≡ c → a ++ b ++ c ≡ (a ++ (x ++ y)) ++ []
joined a b c x y e f = append_assoc a b c ∙ ap (λ (l : List ℕ). a ++ l) (sym (ap (λ (l : List ℕ). l ++ y) e ∙ ap (λ (l : List ℕ). b ++ l) f)) ∙ sym (append-nil (a ++ (x ++ y)))

whole : (f : Said) → file_bytes f ≡ flat_map bytes_of (blocks_of f) ++ []
whole f =
    joined (section_header f.comment) (flat_map interface_bytes f.interfaces) (flat_map packet_bytes f.packets) (flat_map bytes_of (map interface_block f.interfaces)) (flat_map bytes_of (map packet_block f.packets))
    (flat_interfaces f.interfaces) (flat_packets f.packets)
    ∙ ap (λ (l : List ℕ). (section_header f.comment ++ l) ++ []) (sym (flat_append (map interface_block f.interfaces) (map packet_block f.packets)))

nothing_left : (s : Section) → HasBlock s.order [] → ⊥
nothing_left s (b, after, is, same) = omega (arith, is.long, ap (λ (l : List ℕ). length l) same, length-append (bytes_of b) after)

-- a field of the packets' blocks, which stand behind the others
field_of : (field : Block → ℕ) (said : SaidPacket → ℕ) (ps : List SaidPacket) → All IsPacket ps → ((p : SaidPacket) → IsPacket p → field (packet_block p) ≡ said p) → map field (map packet_block ps) ≡ map said ps
field_of field said [] lawful same = refl
field_of field said (p ∷ ps) lawful same =
    let first = same p (All-head IsPacket p ps lawful) in
    let more = field_of field said ps (All-tail IsPacket p ps lawful) same in
    rw (first, more) refl

behind_them : (f : Said) → drop (1 + length f.interfaces) (blocks_of f) ≡ map packet_block f.packets
behind_them f =
    let count : length (header_block f.comment ∷ map interface_block f.interfaces) ≡ 1 + length f.interfaces = omega (arith, length-map f.interfaces interface_block) in
    drop_at (header_block f.comment ∷ map interface_block f.interfaces) (map packet_block f.packets) (1 + length f.interfaces) count

pub read_back : (f : Said) → AreReadable f → IsReadAs f
read_back f r =
    let goes = all_go f r in
    record {
      capture = record { blocks = blocks_of f; rest = [] };
      reads = record {
        made = record { are_blocks = goes.are; whole = whole f };
        begins = ([], refl);
        no_more = nothing_left (section_after before (blocks_of f));
        sound = ap (λ (s : Section). begins_wrong s.order []) goes.behind;
      };
      no_rest = refl;
      interfaces = ap (λ (s : Section). s.interfaces) goes.behind;
      packets = goes.says;
      under = ap (map interface_number) (behind_them f) ∙ field_of interface_number (λ (p : SaidPacket). p.interface) f.packets r.written.packets number_said;
    }
