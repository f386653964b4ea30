-- Reading records: what one more says of all.
use Rattle.std.proofs.Common.{◌≡◌, ◌≤◌, ◌<◌, ◌+◌, ◌-◌, ◌*◌, ℕ, None, List, [], ◌∷◌, ◌++◌, length, take, drop, map, sym, ap, subst, ◌∙◌, arith, append_assoc, length-append}
use Rattle.std.specs.List.{flat_map}
use Rattle.std.proofs.lemmas.List.{append-nil, take-append-drop, drop-take, length-take-le, length-drop, drop_at, map-append, take_rest}
use Rattle.std.proofs.lemmas.List.Elements.{All-push}
use Rattle.std.proofs.lemmas.List.Concat.{flat_map-append}
use Rattle.pcap_stream.specs.declared.header.Order.{Order}
use Rattle.pcap_stream.specs.declared.header.Header.{Header}
use Rattle.packets.specs.Packets.{Seen, seen_packet}
use Rattle.pcap_stream.specs.Capture.{Record, BeginsHeader, IsRecord, HasRecord, bytes_of, captured_length, number_in, nanos, packet_of}
use Rattle.packets.specs.declared.packet.Packet.{Packet}
use Rattle.pcap_stream.specs.Inside.{IsPart, IsNext, HasRead, IsLater}
use Rattle.pcap_stream.proofs.Headers.{begins_take, number-take}
use Rattle.pcap_stream.proofs.Records.{record_long, captured-append}

-- ---- one record
abbrev pub seen_with : ℕ → ℕ → ℕ → List ℕ → Seen
seen_with stamp link original bytes = record { stamp = stamp; link = link; interface = None; original_length = original; bytes = bytes }

-- the length that the first 16 bytes say is the one that all say
pub captured-take : (o : Order) (bytes : List ℕ) → captured_length o (take 16 bytes) ≡ captured_length o bytes
captured-take o bytes = ap (λ (l : List ℕ). number_in o 4 l) (drop-take 8 8 bytes) ∙ number-take o 4 8 (drop 8 bytes) (omega arith)

-- a record has as many bytes as it says
pub has_length : (h : Header) (bytes : List ℕ) → (has : HasRecord h bytes) → 16 + captured_length h.order bytes ≤ length bytes
has_length h bytes has =
    let r : Record = has.0 in
    let is : IsRecord h r = has.2 in
    let said : captured_length h.order bytes ≡ length r.captured = ap (λ (l : List ℕ). captured_length h.order l) has.3 ∙ captured-append h.order r has.1 is.size ∙ is.length_said in
    let all : length bytes ≡ length (bytes_of r ++ has.1) = ap (λ (l : List ℕ). length l) has.3 in
    omega (arith, said, all, record_long r has.1, is.size)

-- what is read of the head
pub head_said : (o : Order) (bytes head : List ℕ) (n : ℕ) → head ≡ take 16 bytes → n ≡ number_in o 4 (take (length head - 8) (drop 8 head)) → n ≡ captured_length o (take 16 bytes)
head_said o bytes head n is said = said ∙ ap (λ (l : List ℕ). number_in o 4 l) (take_rest head 8) ∙ ap (λ (l : List ℕ). captured_length o l) is

abbrev stamp_by : Header → List ℕ → ℕ
stamp_by h head = number_in h.order 4 head * 1000000000 + nanos h.fraction (number_in h.order 4 (drop 4 head))

-- a number behind a place of the head
number_behind : (o : Order) (bytes head : List ℕ) (n : ℕ) → head ≡ take 16 bytes → n ≡ number_in o 4 (take (length head - 12) (drop 12 head)) → n ≡ number_in o 4 (drop 12 (take 16 bytes))
number_behind o bytes head n is said = said ∙ ap (λ (l : List ℕ). number_in o 4 l) (take_rest head 12) ∙ ap (λ (l : List ℕ). number_in o 4 (drop 12 l)) is

pub packet_said : (h : Header) (bytes head captured : List ℕ) (stamp original : ℕ) → head ≡ take 16 bytes → stamp ≡ number_in h.order 4 head * 1000000000 + nanos h.fraction (number_in h.order 4 (drop 4 head)) →
    original ≡ number_in h.order 4 (take (length head - 12) (drop 12 head)) → seen_with stamp h.link original captured ≡ packet_of h (record { head = take 16 bytes; captured = captured })
packet_said h bytes head captured stamp original is said long =
    ap (λ (n : ℕ). seen_with n h.link original captured) (said ∙ ap (λ (l : List ℕ). stamp_by h l) is)
    ∙ ap (λ (n : ℕ). seen_with (stamp_by h (take 16 bytes)) h.link n captured) (number_behind h.order bytes head original is long)

-- the head is whole, and more bytes are to come
pub part_of : (h : Header) (bytes : List ℕ) (n : ℕ) → (BeginsHeader h bytes → ⊥) → n ≡ captured_length h.order (take 16 bytes) → n ≤ 262144 → length (drop 16 bytes) < n → IsPart h bytes
part_of h bytes n other is few short =
    let said : n ≡ captured_length h.order bytes = is ∙ captured-take h.order bytes in
    record {
      no_more = λ has. omega (arith, said, short, length-drop 16 bytes, has_length h bytes has);
      none_too_long = λ long. omega (arith, said, few, long.1);
      no_header = λ second. other second.1;
    }

pub next_of : (h : Header) (bytes captured : List ℕ) (n : ℕ) (packet : Seen) → 16 ≤ length bytes → (BeginsHeader h bytes → ⊥) → n ≡ captured_length h.order (take 16 bytes) → n ≤ 262144 → n ≤ length (drop 16 bytes) →
    captured ≡ take n (drop 16 bytes) → packet ≡ packet_of h (record { head = take 16 bytes; captured = captured }) → IsNext h bytes packet
next_of h bytes captured n packet long other is few enough cut said =
    let count : length captured ≡ n = ap (λ (l : List ℕ). length l) cut ∙ length-take-le n (drop 16 bytes) enough in
    record {
      «record» = record { head = take 16 bytes; captured = captured };
      after = drop n (drop 16 bytes);
      lawful = record { size = length-take-le 16 bytes long; length_said = sym is ∙ sym count; limit = omega (arith, count, few); other = λ begins. other (begins_take h bytes begins) };
      whole = sym (append_assoc (take 16 bytes) captured (drop n (drop 16 bytes))
          ∙ ap (λ (l : List ℕ). take 16 bytes ++ l) (ap (λ (l : List ℕ). l ++ drop n (drop 16 bytes)) cut ∙ take-append-drop n (drop 16 bytes)) ∙ take-append-drop 16 bytes);
      said = said;
    }

-- what is left behind the record that begins the bytes
pub next_left : {h : Header} {bytes : List ℕ} {packet : Seen} (next : IsNext h bytes packet) → drop (16 + length packet.bytes) bytes ≡ next.after
next_left {h} {bytes} {packet} next =
    let captured : length packet.bytes ≡ length next.record.captured = ap (λ (s : Seen). length s.bytes) next.said in
    let size : length (bytes_of next.record) ≡ 16 + length packet.bytes = omega (arith, captured, next.lawful.size, length-append next.record.head next.record.captured) in
    ap (λ (l : List ℕ). drop (16 + length packet.bytes) l) next.whole ∙ drop_at (bytes_of next.record) next.after (16 + length packet.bytes) size

-- ---- all records
pub one_read : {h : Header} {bytes left : List ℕ} {old new : List Seen} {packet : Seen} → HasRead h bytes left old new → (next : IsNext h left packet) → HasRead h bytes next.after old (new ++ packet ∷ [])
one_read {h} {bytes} {left} {old} {new} {packet} read next =
    let r = next.record in
    let before = read.records in
    let split : flat_map bytes_of (before ++ r ∷ []) ≡ flat_map bytes_of before ++ bytes_of r =
    flat_map-append bytes_of before (r ∷ []) ∙ ap (λ (l : List ℕ). flat_map bytes_of before ++ l) (append-nil (bytes_of r)) in
    let whole : bytes ≡ flat_map bytes_of (before ++ r ∷ []) ++ next.after =
    read.first.whole ∙ ap (λ (l : List ℕ). flat_map bytes_of before ++ l) next.whole ∙ sym (append_assoc (flat_map bytes_of before) (bytes_of r) next.after)
    ∙ ap (λ (l : List ℕ). l ++ next.after) (sym split) in
    let packets : map (packet_of h) (before ++ r ∷ []) ≡ map (packet_of h) before ++ packet ∷ [] =
    map-append (packet_of h) before (r ∷ []) ∙ ap (λ (p : Seen). map (packet_of h) before ++ p ∷ []) (sym next.said) in
    record {
      records = before ++ r ∷ [];
      first = record { lawful = All-push (IsRecord h) before r read.first.lawful next.lawful; whole = whole };
      added = ap (λ (l : List Seen). l ++ packet ∷ []) read.added ∙ append_assoc old (map (packet_of h) before) (packet ∷ []) ∙ ap (λ (l : List Seen). old ++ l) (sym packets);
    }

pub read_short : {h : Header} {bytes left : List ℕ} {old new : List Seen} → HasRead h bytes left old new → length left ≤ length bytes
read_short {h} {bytes} {left} {old} {new} read = omega (arith, ap (λ (l : List ℕ). length l) read.first.whole, length-append (flat_map bytes_of read.records) left)

pub later_of : {Is : Header → List ℕ → Type 0} {h : Header} {bytes left : List ℕ} {old new : List Seen} (start place : ℕ) → HasRead h bytes left old new → Is h left → place ≡ start + (length bytes - length left) →
    IsLater Is h bytes start place
later_of {Is} {h} {bytes} {left} {old} {new} start place read here is = record {
  records = read.records;
  left = left;
  first = read.first;
  is = here;
  at = omega (arith, is, read_short read);
}

-- what a packet more says of the packets
pub packets_pushed : (h : Header) (bytes left : List ℕ) (old before : List Seen) (packet : Packet) (n : ℕ) → HasRead h bytes left old before → IsNext h left (seen_packet packet) →
    n ≡ length packet.bytes.items → HasRead h bytes (take (length left - (16 + n)) (drop (16 + n) left)) old (before ++ seen_packet packet ∷ [])
packets_pushed h bytes left old before packet n read next count =
    let behind : take (length left - (16 + n)) (drop (16 + n) left) ≡ next.after =
    take_rest left (16 + n) ∙ ap (λ (k : ℕ). drop (16 + k) left) count ∙ next_left next in
    subst (λ (l : List ℕ). HasRead h bytes l old (before ++ seen_packet packet ∷ [])) (sym behind) (one_read read next)
