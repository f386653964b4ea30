-- What is kept of a stream, and what a piece adds.
use Rattle.std.proofs.Common.{◌≡◌, ◌≤◌, ◌<◌, ◌+◌, ◌-◌, ℕ, List, [], ◌++◌, length, take, drop, map, Option, Some, None, refl, sym, ap, subst, inl, inr, ◌∙◌, arith, append_assoc, length-append}
use Rattle.std.specs.List.{flat_map}
use Rattle.std.proofs.lemmas.List.{append-nil, take-append-drop, length-take-le, length-drop, map-append}
use Rattle.std.proofs.lemmas.List.Elements.{All-nil, All-append}
use Rattle.std.proofs.lemmas.List.Concat.{flat_map-append}
use Rattle.std.proofs.lemmas.Bool.{cases_lt}
use Rattle.pcap_stream.specs.declared.errors.PcapError.{PcapError}
use Rattle.pcap_stream.specs.declared.errors.PcapError.TheVariants.{Magic, Version, Length, Memory}
use Rattle.pcap_stream.specs.declared.errors.PcapError.TheVariants as faults
use Rattle.pcap_stream.specs.declared.header.Header.{Header}
use Rattle.packets.specs.Packets.{Seen}
use Rattle.pcap_stream.specs.Capture.{Capture, Record, BeginsHeader, IsHeader, IsBegun, IsRecord, IsMadeOf, ReadsBy, IsFault, ComesAt, HasRecord, bytes_of, captured_length, packet_of, packets_of, packets_by}
use Rattle.pcap_stream.specs.Feeding.{Tail, StandsFor, Grows, tail_of}
use Rattle.pcap_stream.specs.Inside.{IsPart, IsAt, EndsRecords, IsRecordsFault, IsLater, AreFirst, FindsHeader, with_records}
use Rattle.pcap_stream.proofs.Headers.{begins_take}
use Rattle.pcap_stream.proofs.Reading.{captured-take}
use Rattle.pcap_stream.proofs.Streams.{made_longer}

-- a record whose bytes all came
pub whole_record : (h : Header) (bytes : List ℕ) → 16 ≤ length bytes → (BeginsHeader h bytes → ⊥) → captured_length h.order bytes ≤ 262144 → 16 + captured_length h.order bytes ≤ length bytes → HasRecord h bytes
whole_record h bytes long other fits all =
    let n : ℕ = captured_length h.order bytes in
    let r : Record = record { head = take 16 bytes; captured = take n (drop 16 bytes) } in
    let count : length (take n (drop 16 bytes)) ≡ n = length-take-le n (drop 16 bytes) (omega (arith, all, length-drop 16 bytes)) in (
      r,
      drop n (drop 16 bytes),
      record { size = length-take-le 16 bytes long; length_said = captured-take h.order bytes ∙ sym count; limit = omega (arith, count, fits); other = λ begins. other (begins_take h bytes begins) },
      sym (append_assoc (take 16 bytes) (take n (drop 16 bytes)) (drop n (drop 16 bytes))
          ∙ ap (λ (l : List ℕ). take 16 bytes ++ l) (take-append-drop n (drop 16 bytes)) ∙ take-append-drop 16 bytes),
    )

-- what is left behind all records is shorter than the longest record
pub part_short : (h : Header) (bytes : List ℕ) → IsPart h bytes → length bytes < 262160
part_short h bytes part =
    elim (cases_lt (length bytes) 262160) [
      | inl few ↦ few
      | inr many ↦
          let head : 16 ≤ length bytes = omega (arith, many) in
          let other : BeginsHeader h bytes → ⊥ = λ begins. part.no_header (head, begins) in
          elim (cases_lt 262144 (captured_length h.order bytes)) [
            | inl long ↦ absurd (part.none_too_long (head, long, other))
            | inr fits ↦ absurd (part.no_more (whole_record h bytes head other fits (omega (arith, many, fits))))
          ]
    ]

-- records behind others
pub made_more : {s : List ℕ} {h : Header} {a b : List Record} {x y : List ℕ} → IsMadeOf s h a x → AreFirst h x b y → IsMadeOf s h (a ++ b) y
made_more {s} {h} {a} {b} {x} {y} m first = record {
  header = m.header;
  says = m.says;
  are_records = All-append (IsRecord h) a b m.are_records first.lawful;
  whole = m.whole ∙ ap (λ (l : List ℕ). m.header ++ flat_map bytes_of a ++ l) first.whole
      ∙ sym (append_assoc (m.header ++ flat_map bytes_of a) (flat_map bytes_of b) y)
      ∙ ap (λ (l : List ℕ). l ++ y) (append_assoc m.header (flat_map bytes_of a) (flat_map bytes_of b)
      ∙ ap (λ (l : List ℕ). m.header ++ l) (sym (flat_map-append bytes_of a b)));
}

-- the stream behind the records that were read
pub read_grows : (h : Header) (s : List ℕ) (a : List Record) (offset : ℕ) (bytes left : List ℕ) (old new : List Seen) (t : Tail) →
    IsAt h s a offset bytes → EndsRecords h bytes left old new → t ≡ tail_of (Some h) (offset + (length bytes - length left)) left → Grows t s (with_records h a) old new
read_grows h s a offset bytes left old new t at ends kept =
    let b = ends.read.records in
    let fewer : length left ≤ length bytes = omega (arith, ap (λ (l : List ℕ). length l) ends.read.first.whole, length-append (flat_map bytes_of b) left) in
    let stands : StandsFor (tail_of (Some h) (offset + (length bytes - length left)) left) s (record { header = Some h; records = a ++ b; rest = left }) = record {
      reads = record { made = made_more at.made ends.read.first; no_more = ends.part.no_more; none_too_long = ends.part.none_too_long; no_header = ends.part.no_header };
      header = refl;
      rest = refl;
      offset = omega (arith, at.place, fewer);
    } in
    record {
      then = record { header = Some h; records = a ++ b; rest = left };
      stands = subst (λ (u : Tail). StandsFor u s (record { header = Some h; records = a ++ b; rest = left })) (sym kept) stands;
      added = map (packet_of h) b;
      grown = ends.read.added;
      more = map-append (packet_of h) a b;
    }

-- what comes behind some of the records comes behind all of them
later_comes : {Is : Header → List ℕ → Type 0} {h : Header} {s : List ℕ} {a : List Record} {offset : ℕ} {bytes : List ℕ} {place : ℕ} → IsAt h s a offset bytes → IsLater Is h bytes offset place → ComesAt Is s place
later_comes {Is} {h} {s} {a} {offset} {bytes} {place} at f = record {
  header = h;
  records = a ++ f.records;
  rest = f.left;
  made = made_more at.made f.first;
  is = f.is;
  at = omega (arith, f.at, at.place);
}

pub records_fault : (h : Header) (s : List ℕ) (a : List Record) (offset : ℕ) (bytes : List ℕ) (e : PcapError) → IsAt h s a offset bytes → IsRecordsFault h bytes offset e → IsFault s e
records_fault h s a offset bytes Magic at f = absurd f
records_fault h s a offset bytes Version at f = absurd f
records_fault h s a offset bytes Memory at f = tt
records_fault h s a offset bytes (faults.Header place) at f = later_comes at f
records_fault h s a offset bytes (Length place) at f = later_comes at f

-- ---- the bytes behind what was kept
-- the tail of a stream with its header
pub known_at : (h : Header) (t : Tail) (s piece bytes : List ℕ) (c : Capture) → t.header ≡ Some h → bytes ≡ t.rest ++ piece → StandsFor t s c → IsAt h (s ++ piece) c.records t.offset bytes
known_at h t s piece bytes c has is stands =
    let by : c.header ≡ Some h = sym stands.header ∙ has in
    let read : ReadsBy (Some h) s c.records c.rest = subst (λ (o : Option Header). ReadsBy o s c.records c.rest) by stands.reads in
    let all : c.rest ++ piece ≡ bytes = ap (λ (l : List ℕ). l ++ piece) (sym stands.rest) ∙ sym is in
    record {
      made = subst (λ (l : List ℕ). IsMadeOf (s ++ piece) h c.records l) all (made_longer piece read.made);
      place = omega (arith, stands.offset, length-append s piece, ap (λ (l : List ℕ). length l) is, length-append t.rest piece);
    }

pub known_grows : (h : Header) (t next : Tail) (s u : List ℕ) (c : Capture) (old new : List Seen) → t.header ≡ Some h → StandsFor t s c → Grows next u (with_records h c.records) old new → Grows next u c old new
known_grows h t next s u c old new has stands grows =
    let by : Some h ≡ c.header = sym has ∙ stands.header in
    record {
      then = grows.then;
      stands = grows.stands;
      added = grows.added;
      grown = grows.grown;
      more = grows.more ∙ ap (λ (o : Option Header). packets_by o c.records ++ grows.added) by;
    }

-- the tail of a stream without one is all of it
record IsAll (t : Tail) (s : List ℕ) (c : Capture) : Type 0 where
  pub rest : t.rest ≡ s
  pub offset : t.offset ≡ 0
  pub packets : packets_of c ≡ []

unknown_all : (t : Tail) (s : List ℕ) (c : Capture) → t.header ≡ None → StandsFor t s c → IsAll t s c
unknown_all t s c has stands =
    let by : c.header ≡ None = sym stands.header ∙ has in
    let read : ReadsBy None s c.records c.rest = subst (λ (o : Option Header). ReadsBy o s c.records c.rest) by stands.reads in
    let rest : t.rest ≡ s = stands.rest ∙ read.2 in
    record {
      rest = rest;
      offset = omega (arith, stands.offset, ap (λ (l : List ℕ). length l) rest);
      packets = ap (λ (o : Option Header). packets_by o c.records) by;
    }

pub all_bytes : (t : Tail) (s piece bytes : List ℕ) (c : Capture) → t.header ≡ None → bytes ≡ t.rest ++ piece → StandsFor t s c → bytes ≡ s ++ piece
all_bytes t s piece bytes c has is stands = is ∙ ap (λ (l : List ℕ). l ++ piece) (unknown_all t s c has stands).rest

pub found_at : (h : Header) (t : Tail) (s piece bytes : List ℕ) (c : Capture) → t.header ≡ None → bytes ≡ t.rest ++ piece → StandsFor t s c →
    24 ≤ length bytes → IsHeader (take 24 bytes) h → IsAt h (s ++ piece) [] (t.offset + 24) (drop 24 bytes)
found_at h t s piece bytes c has is stands long says =
    let whole : bytes ≡ s ++ piece = all_bytes t s piece bytes c has is stands in
    let made : IsMadeOf bytes h [] (drop 24 bytes) = record {
      header = take 24 bytes;
      says = says;
      are_records = All-nil (IsRecord h);
      whole = sym (ap (λ (l : List ℕ). l ++ drop 24 bytes) (append-nil (take 24 bytes)) ∙ take-append-drop 24 bytes);
    } in
    record {
      made = subst (λ (l : List ℕ). IsMadeOf l h [] (drop 24 bytes)) whole made;
      place = omega (arith, (unknown_all t s c has stands).offset, long, length-drop 24 bytes, ap (λ (l : List ℕ). length l) whole);
    }

pub found_grows : (h : Header) (t next : Tail) (s u : List ℕ) (c : Capture) (old new : List Seen) → t.header ≡ None → StandsFor t s c → Grows next u (with_records h []) old new → Grows next u c old new
found_grows h t next s u c old new has stands grows = record {
  then = grows.then;
  stands = grows.stands;
  added = grows.added;
  grown = grows.grown;
  more = grows.more ∙ ap (λ (l : List Seen). l ++ grows.added) (sym (unknown_all t s c has stands).packets);
}

-- fewer bytes than a header
pub begun_grows : (t next : Tail) (s piece bytes : List ℕ) (c : Capture) (old : List Seen) → t.header ≡ None → bytes ≡ t.rest ++ piece → StandsFor t s c →
    IsBegun bytes → next ≡ tail_of None t.offset bytes → Grows next (s ++ piece) c old old
begun_grows t next s piece bytes c old has is stands begun kept =
    let whole : bytes ≡ s ++ piece = all_bytes t s piece bytes c has is stands in
    let all = unknown_all t s c has stands in
    let now : StandsFor (tail_of None t.offset bytes) bytes (record { header = None; records = []; rest = bytes }) = record {
      reads = (begun, refl, refl);
      header = refl;
      rest = refl;
      offset = omega (arith, all.offset);
    } in
    let moved : StandsFor next bytes (record { header = None; records = []; rest = bytes }) =
    subst (λ (u : Tail). StandsFor u bytes (record { header = None; records = []; rest = bytes })) (sym kept) now in
    record {
      then = record { header = None; records = []; rest = bytes };
      stands = subst (λ (l : List ℕ). StandsFor next l (record { header = None; records = []; rest = bytes })) whole moved;
      added = [];
      grown = sym (append-nil old);
      more = sym (append-nil (packets_of c) ∙ all.packets);
    }

-- ---- for each way to go on
pub known_ok : (h : Header) (t next : Tail) (offset : ℕ) (bytes : List ℕ) (old new : List Seen) → t.header ≡ Some h → offset ≡ t.offset →
    ((s : List ℕ) (records : List Record) → IsAt h s records offset bytes → Grows next s (with_records h records) old new) →
    (s piece : List ℕ) (c : Capture) → bytes ≡ t.rest ++ piece → StandsFor t s c → Grows next (s ++ piece) c old new
known_ok h t next offset bytes old new has at all s piece c is stands =
    let place : IsAt h (s ++ piece) c.records offset bytes = subst (λ (k : ℕ). IsAt h (s ++ piece) c.records k bytes) (sym at) (known_at h t s piece bytes c has is stands) in
    known_grows h t next s (s ++ piece) c old new has stands (all (s ++ piece) c.records place)

pub known_fault : (h : Header) (t : Tail) (offset : ℕ) (bytes : List ℕ) (e : PcapError) → t.header ≡ Some h → offset ≡ t.offset →
    ((s : List ℕ) (records : List Record) → IsAt h s records offset bytes → IsFault s e) →
    (s piece : List ℕ) (c : Capture) → bytes ≡ t.rest ++ piece → StandsFor t s c → IsFault (s ++ piece) e
known_fault h t offset bytes e has at all s piece c is stands =
    all (s ++ piece) c.records (subst (λ (k : ℕ). IsAt h (s ++ piece) c.records k bytes) (sym at) (known_at h t s piece bytes c has is stands))

found_place : (h : Header) (t : Tail) (offset : ℕ) (bytes left : List ℕ) → t.header ≡ None → offset ≡ t.offset + 24 → left ≡ drop 24 bytes → FindsHeader bytes (Some h) →
    (s piece : List ℕ) (c : Capture) → bytes ≡ t.rest ++ piece → StandsFor t s c → IsAt h (s ++ piece) [] offset left
found_place h t offset bytes left has at cut found s piece c is stands =
    let place = found_at h t s piece bytes c has is stands found.0 found.1 in
    subst (λ (l : List ℕ). IsAt h (s ++ piece) [] offset l) (sym cut) (subst (λ (k : ℕ). IsAt h (s ++ piece) [] k (drop 24 bytes)) (sym at) place)

pub found_ok : (h : Header) (t next : Tail) (offset : ℕ) (bytes left : List ℕ) (old new : List Seen) → t.header ≡ None → offset ≡ t.offset + 24 → left ≡ drop 24 bytes → FindsHeader bytes (Some h) →
    ((s : List ℕ) (records : List Record) → IsAt h s records offset left → Grows next s (with_records h records) old new) →
    (s piece : List ℕ) (c : Capture) → bytes ≡ t.rest ++ piece → StandsFor t s c → Grows next (s ++ piece) c old new
found_ok h t next offset bytes left old new has at cut found all s piece c is stands =
    found_grows h t next s (s ++ piece) c old new has stands (all (s ++ piece) [] (found_place h t offset bytes left has at cut found s piece c is stands))

pub found_fault : (h : Header) (t : Tail) (offset : ℕ) (bytes left : List ℕ) (e : PcapError) → t.header ≡ None → offset ≡ t.offset + 24 → left ≡ drop 24 bytes → FindsHeader bytes (Some h) →
    ((s : List ℕ) (records : List Record) → IsAt h s records offset left → IsFault s e) →
    (s piece : List ℕ) (c : Capture) → bytes ≡ t.rest ++ piece → StandsFor t s c → IsFault (s ++ piece) e
found_fault h t offset bytes left e has at cut found all s piece c is stands =
    all (s ++ piece) [] (found_place h t offset bytes left has at cut found s piece c is stands)

-- ---- what the reader of bytes promises, by what it answers
abbrev pub GoesOn : Tail → List ℕ → List Seen → List Seen → Tail → Type 0
GoesOn t bytes old new next = (s piece : List ℕ) (c : Capture) → bytes ≡ t.rest ++ piece → StandsFor t s c → Grows next (s ++ piece) c old new

abbrev pub IsRefused : Tail → List ℕ → PcapError → Type 0
IsRefused t bytes e = (s piece : List ℕ) (c : Capture) → bytes ≡ t.rest ++ piece → StandsFor t s c → IsFault (s ++ piece) e
