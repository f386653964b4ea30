-- A merged capture is read as the packets that it was made of.
use Rattle.std.proofs.Common.{◌≡◌, ◌<◌, ◌+◌, ◌*◌, ◌/◌, ◌%◌, ◌^◌, ℕ, ℤ, pos, negsuc, List, [], ◌∷◌, ◌++◌, length, drop, get_or, map, All, None, Some, ◌≤ℤ◌, ◌<ℤ◌, unsigned_abs, refl, sym, ap, ◌∙◌, arith, length-append}
use Rattle.std.proofs.lemmas.Int.{ints}
use Rattle.std.proofs.lemmas.List.{append-nil}
use Rattle.std.proofs.lemmas.List.Elements.{All-map, All-nil, All-head, All-tail, Contains-get_or}
use Rattle.std.proofs.lemmas.Nat.{div_below}
use Rattle.byteorder.specs.Endian.{little_number}
use Rattle.byteorder.specs.Numbers.{little_number-reads_back}
use Rattle.pcap_stream.specs.declared.header.Order.TheVariants.{Little}
use Rattle.pcap_stream.specs.declared.header.Fraction.TheVariants.{Nanos}
use Rattle.pcap_stream.specs.declared.header.Header.{Header}
use Rattle.packets.specs.Packets.{Seen}
use Rattle.pcap_stream.specs.Capture.{BeginsHeader, HasRecord, IsHeader, IsRecord, magic, packet_of, version}
use Rattle.mergecap.specs.MergedCapture.{AreWritable, HasOneLink, IsInRange, IsShort, Timed, four_bytes, header, header_nanos, link_type_of, merged_capture, record_head, record_of_packet, whole_nanos}
use Rattle.mergecap.specs.Reading.{HasLinkType, IsReadBack, stamped}

-- ---- numbers
read_four : (n : ℕ) (rest : List ℕ) → n < 2 ^ 32 → little_number 4 (four_bytes n ++ rest) ≡ n
read_four n rest small = little_number-reads_back 4 n rest (omega (arith, small))

-- a time in seconds, below a limit
in_seconds : (units second limit : ℕ) → 0 < second → units < limit * second * second → units / second / second < limit
in_seconds units second limit some below = div_below (units / second) second limit some (div_below units second (limit * second) some below)

units_below : (value : ℤ) (limit : ℕ) → pos 0 ≤ℤ value → value <ℤ pos limit → unsigned_abs value < limit
units_below (pos n) limit low high = omega (arith, ints, high)
units_below (negsuc n) limit low high = absurd (omega (arith, ints, low))

seconds_small : (t : Timed) → IsInRange t → whole_nanos t.key.value / 1000000000 < 2 ^ 32
seconds_small t is = in_seconds (unsigned_abs t.key.value) 1000000000 (2 ^ 32) (omega arith) (units_below t.key.value (2 ^ 32 * 10 ^ 18) is.low is.high)

-- ---- one record
abbrev header_of : ℕ → Header
header_of link = record { order = Little; fraction = Nanos; link = link }

stamp_said : (nanos seconds rest : ℕ) → seconds ≡ nanos / 1000000000 → rest ≡ nanos % 1000000000 → seconds * 1000000000 + rest ≡ nanos
stamp_said nanos seconds rest is left = omega (arith, is, left)

-- the magic number and the version, as seconds and ns
header_said : little_number 4 (magic Little Nanos ++ version Little) * 1000000000 + little_number 4 (drop 4 (magic Little Nanos ++ version Little)) ≡ header_nanos
header_said = refl

-- a record does not begin as a header does, since its time is another
no_header : (link : ℕ) (t : Timed) → IsInRange t → BeginsHeader (header_of link) (record_of_packet t).head → ⊥
no_header link t is begins =
    let nanos : ℕ = whole_nanos t.key.value in
    let both : List ℕ = four_bytes (nanos / 1000000000) ++ four_bytes (nanos % 1000000000) in
    let same : both ≡ magic Little Nanos ++ version Little = begins in
    let seconds : little_number 4 both ≡ nanos / 1000000000 = read_four (nanos / 1000000000) (four_bytes (nanos % 1000000000)) (seconds_small t is) in
    let rest : little_number 4 (drop 4 both) ≡ nanos % 1000000000 = read_four (nanos % 1000000000) [] (omega arith) in
    let said : little_number 4 both * 1000000000 + little_number 4 (drop 4 both) ≡ nanos = stamp_said nanos _ _ seconds rest in
    is.other (sym said ∙ ap (λ (l : List ℕ). little_number 4 l * 1000000000 + little_number 4 (drop 4 l)) same ∙ header_said)

record_is : (link : ℕ) (t : Timed) → IsInRange t → IsShort t → IsRecord (header_of link) (record_of_packet t)
record_is link t is short = record {
  size = refl;
  length_said = read_four (length t.packet.bytes) (four_bytes (length t.packet.bytes)) (omega (arith, short));
  limit = short;
  other = no_header link t is;
}

abbrev seen_with : ℕ → ℕ → ℕ → List ℕ → Seen
seen_with stamp link original bytes = record { stamp = stamp; link = link; interface = None; original_length = original; bytes = bytes }

seen_one : (stamp stamp' link link' original original' : ℕ) (bytes : List ℕ) → stamp ≡ stamp' → link ≡ link' → original ≡ original' →
    seen_with stamp link original bytes ≡ seen_with stamp' link' original' bytes
seen_one stamp stamp' link link' original original' bytes p q r = cc

packet_is : (link : ℕ) (t : Timed) → t.packet.link ≡ link → IsInRange t → IsShort t → packet_of (header_of link) (record_of_packet t) ≡ stamped t
packet_is link t same is short =
    let nanos : ℕ = whole_nanos t.key.value in
    let captured : List ℕ = four_bytes (length t.packet.bytes) ++ four_bytes (length t.packet.bytes) in
    let seconds : little_number 4 (record_head nanos (length t.packet.bytes)) ≡ nanos / 1000000000 = read_four (nanos / 1000000000) (four_bytes (nanos % 1000000000) ++ captured) (seconds_small t is) in
    let rest : little_number 4 (drop 4 (record_head nanos (length t.packet.bytes))) ≡ nanos % 1000000000 = read_four (nanos % 1000000000) captured (omega arith) in
    let length_said : little_number 4 (drop 12 (record_head nanos (length t.packet.bytes))) ≡ length t.packet.bytes = read_four (length t.packet.bytes) [] (omega (arith, short)) in
    seen_one _ nanos link t.packet.link _ (length t.packet.bytes) t.packet.bytes (stamp_said nanos _ _ seconds rest) (sym same) length_said

-- ---- all records
records_are : (link : ℕ) (ts : List Timed) → All IsInRange ts → All IsShort ts → All (IsRecord (header_of link)) (map record_of_packet ts)
records_are link ts range short =
    All-map (IsRecord (header_of link)) record_of_packet ts (λ k d inside. record_is link (get_or ts k d) (range k d inside) (short k d inside))

packets_are : (link : ℕ) (ts : List Timed) → All (λ (t : Timed). t.packet.link ≡ link) ts → All IsInRange ts → All IsShort ts → map (packet_of (header_of link)) (map record_of_packet ts) ≡ map stamped ts
packets_are link [] same is short = refl
packets_are link (t ∷ ts) same is short =
    let first = packet_is link t (All-head (λ (u : Timed). u.packet.link ≡ link) t ts same) (All-head IsInRange t ts is) (All-head IsShort t ts short) in
    let more = packets_are link ts (All-tail (λ (u : Timed). u.packet.link ≡ link) t ts same) (All-tail IsInRange t ts is) (All-tail IsShort t ts short) in
    rw (first, more) refl

links_are : (ts : List Timed) → HasOneLink ts → All (λ (t : Timed). t.packet.link ≡ link_type_of ts) ts
links_are [] one = All-nil (λ (t : Timed). t.packet.link ≡ 1)
links_are (t ∷ ts) one = λ k d inside. one (get_or (t ∷ ts) k d) t (Contains-get_or (t ∷ ts) k d inside) (0, omega arith, refl)

-- ---- the whole
said_link : (n said : ℕ) → n < 65536 → said ≡ n → n ≡ said % 65536
said_link n said small is = omega (arith, small, is)

header_is : (link : ℕ) → link < 65536 → IsHeader (header link) (header_of link)
header_is link small = record {
  size = refl;
  begins = refl;
  follows = refl;
  link = said_link link _ small (read_four link [] (omega (arith, small)));
}

nothing_left : (link : ℕ) → HasRecord (header_of link) [] → ⊥
nothing_left link (r, after, is, whole) =
    omega (arith, is.size, ap (λ (l : List ℕ). length l) whole, length-append (r.head ++ r.captured) after, length-append r.head r.captured)

pub read_back : (ts : List Timed) → AreWritable ts → All IsShort ts → HasLinkType ts → IsReadBack ts
read_back ts writable short links =
    let link : ℕ = link_type_of ts in
    record {
      capture = record { header = Some (header_of link); records = map record_of_packet ts; rest = [] };
      reads = record {
        made = record {
          header = header link;
          says = header_is link links;
          are_records = records_are link ts writable.in_range short;
          whole = sym (append-nil (merged_capture ts));
        };
        no_more = nothing_left link;
        none_too_long = λ long. omega (arith, long.0);
        no_header = λ second. omega (arith, second.0);
      };
      packets = packets_are link ts (links_are ts writable.one_link) writable.in_range short;
      no_rest = refl;
    }
