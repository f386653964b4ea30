-- The packets of classic captures: their stamps are below 2^62, and none has more than 262,144 bytes.
use Rattle.std.proofs.Common.{◌≡◌, ℕ, zero, suc, ◌+◌, ◌*◌, ◌<◌, ◌^◌, List, [], ◌∷◌, ◌++◌, map, drop, slice_index, Option, Some, None, All, subst, arith}
use Rattle.std.specs.List.{AllByRecursion, flat_map}
use Rattle.std.proofs.lemmas.List.Elements.{All-cons, All-drop, All-head, All-nil, All-tail, recursion_from_All}
use Rattle.packets.specs.Packets.{Seen}
use Rattle.packets.proofs.Bounds.{AreShort, IsStamped}
use Rattle.pcap_stream.specs.declared.header.Order.{Order}
use Rattle.pcap_stream.specs.declared.header.Order.TheVariants as orders
use Rattle.pcap_stream.specs.declared.header.Fraction.{Fraction}
use Rattle.pcap_stream.specs.declared.header.Fraction.TheVariants as fractions
use Rattle.pcap_stream.specs.declared.header.Header.{Header}
use Rattle.pcap_stream.specs.Capture.{Capture, Record, IsRecord, Reads, ReadsBy, bytes_of, nanos, number_in, packet_of, packets_by, packets_of}

abbrev AreBytes : List ℕ → Type 0
AreBytes bytes = All (λ x. x < 256) bytes

-- ---- numbers of bytes
all_front : (P : ℕ → Type 0) (xs ys : List ℕ) → All P (xs ++ ys) → All P xs
all_front P [] ys all = All-nil P
all_front P (x ∷ xs) ys all = All-cons P x xs (All-head P x (xs ++ ys) all) (all_front P xs ys (All-tail P x (xs ++ ys) all))

all_back : (P : ℕ → Type 0) (xs ys : List ℕ) → All P (xs ++ ys) → All P ys
all_back P [] ys all = all
all_back P (x ∷ xs) ys all = all_back P xs ys (All-tail P x (xs ++ ys) all)

byte_at : (bytes : List ℕ) (i : ℕ) → AreBytes bytes → slice_index bytes i < 256
byte_at [] i are = omega arith
byte_at (b ∷ bytes) zero are = All-head (λ x. x < 256) b bytes are
byte_at (b ∷ bytes) (suc i) are = byte_at bytes i (All-tail (λ x. x < 256) b bytes are)

big_small : (a b c d : ℕ) → a < 256 → b < 256 → c < 256 → d < 256 → a * 16777216 + (b * 65536 + (c * 256 + (d * 1 + 0))) < 2 ^ 32
big_small a b c d p q r s = omega (arith, p, q, r, s)

little_small : (a b c d : ℕ) → a < 256 → b < 256 → c < 256 → d < 256 → a + 256 * (b + 256 * (c + 256 * (d + 256 * 0))) < 2 ^ 32
little_small a b c d p q r s = omega (arith, p, q, r, s)

word_small : (order : Order) (bytes : List ℕ) → AreBytes bytes → number_in order 4 bytes < 2 ^ 32
word_small orders.Big bytes are =
    big_small (slice_index bytes 0) (slice_index bytes 1) (slice_index bytes 2) (slice_index bytes 3) (byte_at bytes 0 are) (byte_at bytes 1 are) (byte_at bytes 2 are) (byte_at bytes 3 are)
word_small orders.Little bytes are =
    little_small (slice_index bytes 0) (slice_index bytes 1) (slice_index bytes 2) (slice_index bytes 3) (byte_at bytes 0 are) (byte_at bytes 1 are) (byte_at bytes 2 are) (byte_at bytes 3 are)

-- ---- stamps
sum_small : (fraction : Fraction) (seconds part : ℕ) → seconds < 2 ^ 32 → part < 2 ^ 32 → seconds * 1000000000 + nanos fraction part < 2 ^ 62
sum_small fractions.Micros seconds part small less = omega (arith, small, less)
sum_small fractions.Nanos seconds part small less = omega (arith, small, less)

record_stamped : (h : Header) (r : Record) → AreBytes r.head → IsStamped (packet_of h r)
record_stamped h r are =
    sum_small h.fraction (number_in h.order 4 r.head) (number_in h.order 4 (drop 4 r.head)) (word_small h.order r.head are) (word_small h.order (drop 4 r.head) (All-drop (λ x. x < 256) 4 r.head are))

records_stamped : (h : Header) (records : List Record) → AreBytes (flat_map bytes_of records) → All IsStamped (map (packet_of h) records)
records_stamped h [] are = All-nil IsStamped
records_stamped h (r ∷ records) are =
    let P : ℕ → Type 0 = λ x. x < 256 in
    let of_record : AreBytes (r.head ++ r.captured) = all_front P (bytes_of r) (flat_map bytes_of records) are in
    All-cons IsStamped (packet_of h r) (map (packet_of h) records) (record_stamped h r (all_front P r.head r.captured of_record))
    (records_stamped h records (all_back P (bytes_of r) (flat_map bytes_of records) are))

stamped_by : (header : Option Header) (s : List ℕ) (records : List Record) (rest : List ℕ) → AreBytes s → ReadsBy header s records rest → All IsStamped (packets_by header records)
stamped_by None s records rest are reads = All-nil IsStamped
stamped_by (Some h) s records rest are reads =
    let P : ℕ → Type 0 = λ x. x < 256 in
    let m = reads.made in
    let whole : AreBytes (m.header ++ flat_map bytes_of records ++ rest) = subst AreBytes m.whole are in
    records_stamped h records (all_back P m.header (flat_map bytes_of records) (all_front P (m.header ++ flat_map bytes_of records) rest whole))

pub packets_stamped : (s : List ℕ) (c : Capture) → AreBytes s → Reads s c → All IsStamped (packets_of c)
packets_stamped s c are reads = stamped_by c.header s c.records c.rest are reads

-- ---- lengths
records_short : (h : Header) (rs : List Record) → AllByRecursion (IsRecord h) rs → AreShort (map (packet_of h) rs)
records_short h [] are = tt
records_short h (r ∷ rs) are = (are.0.limit, records_short h rs are.1)

short_by : (s : List ℕ) (header : Option Header) (rs : List Record) (rest : List ℕ) → ReadsBy header s rs rest → AreShort (packets_by header rs)
short_by s None rs rest reads = tt
short_by s (Some h) rs rest reads = records_short h rs (recursion_from_All (IsRecord h) rs reads.made.are_records)

pub packets_short : (s : List ℕ) (c : Capture) → Reads s c → AreShort (packets_of c)
packets_short s c reads = short_by s c.header c.records c.rest reads
