-- Each stream is read or refused.
use Rattle.std.proofs.Common.{◌≡◌, ◌≢◌, ◌≤◌, ◌+◌, ◌-◌, ◌%◌, ◌⊎◌, ℕ, zero, suc, List, [], ◌∷◌, ◌++◌, length, take, drop, Some, None, refl, sym, ap, inl, inr, ◌∙◌, arith, append_assoc, length-append}
use Rattle.std.specs.List.{flat_map}
use Rattle.std.proofs.lemmas.Bool.{cases_lt}
use Rattle.std.proofs.lemmas.List.{take-append-drop}
use Rattle.std.proofs.lemmas.List.Elements.{All-cons, All-nil}
use Rattle.pcap_stream.specs.declared.errors.PcapError.{PcapError}
use Rattle.pcap_stream.specs.declared.errors.PcapError.TheVariants.{Magic, Version, Length, Memory}
use Rattle.pcap_stream.specs.declared.errors.PcapError.TheVariants as faults
use Rattle.pcap_stream.specs.declared.header.Order.{Order}
use Rattle.pcap_stream.specs.declared.header.Order.TheVariants.{Big, Little}
use Rattle.pcap_stream.specs.declared.header.Fraction.{Fraction}
use Rattle.pcap_stream.specs.declared.header.Fraction.TheVariants.{Micros, Nanos}
use Rattle.pcap_stream.specs.declared.header.Header.{Header}
use Rattle.packets.specs.Streams.{IsFrontOf}
use Rattle.packets.proofs.Fronts.{is_front}
use Rattle.pcap_stream.specs.Capture.{Capture, Record, IsHeader, IsMadeOf, IsRecord, HasRecord, HasSecondHeader, HasTooLong, Reads, IsFault, BeginsAs, BeginsHeader, LacksMagic, bytes_of, captured_length, magic, number_in, version}
use Rattle.pcap_stream.specs.Inside.{AreFirst, IsPart}
use Rattle.pcap_stream.proofs.Headers.{again_begins, begins_again, begun, header_first, header_with, lacks}
use Rattle.pcap_stream.proofs.Records.{record_long}
use Rattle.pcap_stream.proofs.Reading.{has_length}
use Rattle.pcap_stream.proofs.Growing.{whole_record}

abbrev IsJudged : List ℕ → Type 0
IsJudged s = ((c : Capture) × Reads s c) ⊎ ((e : PcapError) × IsFault s e × (e ≢ Memory))

-- ---- headers
abbrev HasMagic : List ℕ → Type 0
HasMagic s = (o : Order) × (f : Fraction) × BeginsAs s o f

has_magic : (s : List ℕ) → HasMagic s ⊎ LacksMagic s
has_magic s =
    elim (is_front (take 4 s) (magic Big Micros)) [
      | inl a ↦ inl (Big, Micros, a)
      | inr a ↦ elim (is_front (take 4 s) (magic Little Micros)) [
        | inl b ↦ inl (Little, Micros, b)
        | inr b ↦ elim (is_front (take 4 s) (magic Big Nanos)) [
          | inl d ↦ inl (Big, Nanos, d)
          | inr d ↦ elim (is_front (take 4 s) (magic Little Nanos)) [
            | inl e ↦ inl (Little, Nanos, e)
            | inr e ↦ inr (lacks s a b d e)
          ]
        ]
      ]
    ]

-- whether bytes begin as a header does
begins_or_not : (h : Header) (bytes : List ℕ) → 16 ≤ length bytes → BeginsHeader h bytes ⊎ (BeginsHeader h bytes → ⊥)
begins_or_not h bytes long =
    let eight : 8 ≤ length bytes = omega (arith, long) in
    elim (is_front (take 4 bytes) (magic h.order h.fraction)) [
      | inl first ↦ elim (is_front (take 4 (drop 4 bytes)) (version h.order)) [
        | inl next ↦ inl (begins_again h bytes eight first next)
        | inr other ↦ inr (λ begins. other (again_begins h bytes eight begins).1)
      ]
      | inr other ↦ inr (λ begins. other (again_begins h bytes eight begins).0)
    ]

-- ---- records
-- what may begin the bytes
data Next (h : Header) (bytes : List ℕ) : Type 0 where
  part : IsPart h bytes → Next h bytes
  second : HasSecondHeader h bytes → Next h bytes
  long : HasTooLong h bytes → Next h bytes
  whole : HasRecord h bytes → Next h bytes

next : (h : Header) (bytes : List ℕ) → Next h bytes
next h bytes =
    elim (cases_lt (length bytes) 16) [
      | inl few ↦ part (record {
        no_more = λ has. omega (arith, few, has_length h bytes has);
        none_too_long = λ l. omega (arith, few, l.0);
        no_header = λ l. omega (arith, few, l.0);
      })
      | inr many ↦ elim (begins_or_not h bytes many) [
        | inl begins ↦ second (many, begins)
        | inr other ↦ elim (cases_lt 262144 (captured_length h.order bytes)) [
          | inl more ↦ long (many, more, other)
          | inr fits ↦ elim (cases_lt (length bytes) (16 + captured_length h.order bytes)) [
            | inl short ↦ part (record {
              no_more = λ has. omega (arith, short, has_length h bytes has);
              none_too_long = λ l. omega (arith, fits, l.1);
              no_header = λ l. other l.1;
            })
            | inr all ↦ whole (whole_record h bytes many other fits all)
          ]
        ]
      ]
    ]

-- how what is left ends the records
data IsEnd (h : Header) (left : List ℕ) : Type 0 where
  at_part : IsPart h left → IsEnd h left
  at_second : HasSecondHeader h left → IsEnd h left
  at_long : HasTooLong h left → IsEnd h left

-- all records, and how what is left ends them
record Split (h : Header) (bytes : List ℕ) : Type 0 where
  pub records : List Record
  pub left : List ℕ
  pub first : AreFirst h bytes records left
  pub end : IsEnd h left

none_first : (h : Header) (bytes : List ℕ) → AreFirst h bytes [] bytes
none_first h bytes = record { lawful = All-nil (IsRecord h); whole = refl }

more_first : (h : Header) (bytes : List ℕ) (has : HasRecord h bytes) → Split h has.1 → Split h bytes
more_first h bytes has rest = record {
  records = has.0 ∷ rest.records;
  left = rest.left;
  first = record {
    lawful = All-cons (IsRecord h) has.0 rest.records has.2 rest.first.lawful;
    whole = has.3 ∙ ap (λ (l : List ℕ). bytes_of has.0 ++ l) rest.first.whole ∙ sym (append_assoc (bytes_of has.0) (flat_map bytes_of rest.records) rest.left);
  };
  end = rest.end;
}

after_short : (h : Header) (bytes : List ℕ) (n : ℕ) (has : HasRecord h bytes) → length bytes ≤ suc n → length has.1 ≤ n
after_short h bytes n has small =
    let is : IsRecord h has.0 = has.2 in
    omega (arith, small, ap (λ (l : List ℕ). length l) has.3, record_long has.0 has.1, is.size)

split : (n : ℕ) (h : Header) (bytes : List ℕ) → length bytes ≤ n → Split h bytes
split zero h bytes small =
    elim (next h bytes) [
      | part p ↦ record { records = []; left = bytes; first = none_first h bytes; end = at_part p }
      | second l ↦ record { records = []; left = bytes; first = none_first h bytes; end = at_second l }
      | long l ↦ record { records = []; left = bytes; first = none_first h bytes; end = at_long l }
      | whole has ↦ absurd (omega (arith, small, has_length h bytes has))
    ]
split (suc n) h bytes small =
    elim (next h bytes) [
      | part p ↦ record { records = []; left = bytes; first = none_first h bytes; end = at_part p }
      | second l ↦ record { records = []; left = bytes; first = none_first h bytes; end = at_second l }
      | long l ↦ record { records = []; left = bytes; first = none_first h bytes; end = at_long l }
      | whole has ↦ more_first h bytes has (split n h has.1 (after_short h bytes n has small))
    ]

-- ---- streams
judged_behind : (s : List ℕ) (h : Header) → IsHeader (take 24 s) h → Split h (drop 24 s) → IsJudged s
judged_behind s h is all =
    let joined : s ≡ take 24 s ++ (flat_map bytes_of all.records ++ all.left) = sym (take-append-drop 24 s) ∙ ap (λ (l : List ℕ). take 24 s ++ l) all.first.whole in
    let made : IsMadeOf s h all.records all.left = record {
      header = take 24 s;
      says = is;
      are_records = all.first.lawful;
      whole = joined ∙ sym (append_assoc (take 24 s) (flat_map bytes_of all.records) all.left);
    } in
    let short : length all.left ≤ length s = omega (arith, ap (λ (l : List ℕ). length l) made.whole, length-append (take 24 s ++ flat_map bytes_of all.records) all.left) in
    let place : (length s - length all.left) + length all.left ≡ length s = omega (arith, short) in
    elim all.end [
      | at_part p ↦ inl (record { header = Some h; records = all.records; rest = all.left }, record { made = made; no_more = p.no_more; none_too_long = p.none_too_long; no_header = p.no_header })
      | at_second l ↦ inr (faults.Header (length s - length all.left), record { header = h; records = all.records; rest = all.left; made = made; is = l; at = place }, λ e. absurd (cc (e)))
      | at_long l ↦ inr (Length (length s - length all.left), record { header = h; records = all.records; rest = all.left; made = made; is = l; at = place }, λ e. absurd (cc (e)))
    ]

judged_magic : (s : List ℕ) (o : Order) (f : Fraction) → BeginsAs s o f → IsJudged s
judged_magic s o f begins =
    elim (is_front (take 4 (drop 4 s)) (version o)) [
      | inl follows ↦ elim (cases_lt (length s) 24) [
        | inl short ↦ inl (record { header = None; records = []; rest = s }, (begun s o f short begins follows, refl, refl))
        | inr enough ↦
            let is = header_first s o f (number_in o 4 (drop 20 s)) enough begins follows refl in
            judged_behind s (header_with o f (number_in o 4 (drop 20 s) % 65536)) is (split (length (drop 24 s)) (header_with o f (number_in o 4 (drop 20 s) % 65536)) (drop 24 s) (omega arith))
      ]
      | inr other ↦ inr (Version, record { order = o; fraction = f; begins = begins; other = other }, λ e. absurd (cc (e)))
    ]

pub judged : (s : List ℕ) → IsJudged s
judged s =
    elim (has_magic s) [
      | inl m ↦ judged_magic s m.0 m.1 m.2
      | inr lacking ↦ inr (Magic, lacking, λ e. absurd (cc (e)))
    ]
