-- Captures as whole streams of bytes: what they say, and how they are refused.
use Rattle.std.specs.Prelude.{◌≡◌, ℕ, ◌+◌, ◌*◌, ◌%◌, ◌<◌, ◌≤◌, List, [], ◌∷◌, ◌++◌, length, take, drop, map, All, Option, Some, None, ⊤}
use Rattle.std.specs.List.{flat_map}
use Rattle.byteorder.specs.Endian.{big_number, little_number}
use Rattle.packets.specs.Packets.{Seen}
use Rattle.packets.specs.Streams.{IsFrontOf}
use Rattle.pcap_stream.specs.declared.errors.PcapError.{PcapError}
use Rattle.pcap_stream.specs.declared.errors.PcapError.TheVariants.{Magic, Version, Length, Memory}
use Rattle.pcap_stream.specs.declared.errors.PcapError.TheVariants as faults
use Rattle.pcap_stream.specs.declared.header.Order.{Order}
use Rattle.pcap_stream.specs.declared.header.Order.TheVariants.{Big, Little}
use Rattle.pcap_stream.specs.declared.header.Fraction.{Fraction}
use Rattle.pcap_stream.specs.declared.header.Fraction.TheVariants.{Micros, Nanos}
use Rattle.pcap_stream.specs.declared.header.Header.{Header}

-- ---- the header of a capture
-- the first four bytes
abbrev pub magic : Order → Fraction → List ℕ
magic Big Micros = 161 ∷ 178 ∷ 195 ∷ 212 ∷ []
magic Little Micros = 212 ∷ 195 ∷ 178 ∷ 161 ∷ []
magic Big Nanos = 161 ∷ 178 ∷ 60 ∷ 77 ∷ []
magic Little Nanos = 77 ∷ 60 ∷ 178 ∷ 161 ∷ []

-- the next four, which are version 2.4
abbrev pub version : Order → List ℕ
version Big = 0 ∷ 2 ∷ 0 ∷ 4 ∷ []
version Little = 2 ∷ 0 ∷ 4 ∷ 0 ∷ []

-- the number in the first bytes
abbrev pub number_in : Order → ℕ → List ℕ → ℕ
number_in Big n bytes = big_number n bytes
number_in Little n bytes = little_number n bytes

-- these 24 bytes are such a header; of the link type the lower 16 bits count
pub record IsHeader (bytes : List ℕ) (h : Header) : Type 0 where
  pub size : length bytes ≡ 24
  pub begins : take 4 bytes ≡ magic h.order h.fraction
  pub follows : take 4 (drop 4 bytes) ≡ version h.order
  pub link : h.link ≡ number_in h.order 4 (drop 20 bytes) % 65536

-- ---- records
-- a record: the 16 bytes of its head, and the bytes that were captured
pub record Record : Type 0 where
  pub head : List ℕ
  pub captured : List ℕ

-- all bytes of a record
abbrev pub bytes_of : Record → List ℕ
bytes_of r = r.head ++ r.captured

-- how many bytes a head says that were captured
abbrev pub captured_length : Order → List ℕ → ℕ
captured_length order head = number_in order 4 (drop 8 head)

-- these bytes begin as the capture itself does, with its magic number and version
abbrev pub BeginsHeader : Header → List ℕ → Type 0
BeginsHeader h bytes = take 8 bytes ≡ magic h.order h.fraction ++ version h.order

-- the head says how many bytes follow, that is at most 262,144, and it is no file header once more
pub record IsRecord (h : Header) (r : Record) : Type 0 where
  pub size : length r.head ≡ 16
  pub length_said : captured_length h.order r.head ≡ length r.captured
  pub limit : length r.captured ≤ 262144
  pub other : BeginsHeader h r.head → ⊥

-- a whole record begins these bytes
abbrev pub HasRecord : Header → List ℕ → Type 0
HasRecord h bytes = (r : Record) × (after : List ℕ) × IsRecord h r × (bytes ≡ bytes_of r ++ after)

-- these bytes are as many as the head of a record at least, and begin a second file header
abbrev pub HasSecondHeader : Header → List ℕ → Type 0
HasSecondHeader h bytes = (16 ≤ length bytes) × BeginsHeader h bytes

-- the head of a record begins these bytes, says that more than 262,144 bytes were captured, and is no second file header
abbrev pub HasTooLong : Header → List ℕ → Type 0
HasTooLong h bytes = (16 ≤ length bytes) × (262144 < captured_length h.order bytes) × (BeginsHeader h bytes → ⊥)

-- ---- packets
-- a fraction of a second in ns
abbrev pub nanos : Fraction → ℕ → ℕ
nanos Micros n = n * 1000
nanos Nanos n = n

-- the packet of a record; a fraction past a second counts as it stands
abbrev pub packet_of : Header → Record → Seen
packet_of h r = record { stamp = number_in h.order 4 r.head * 1000000000 + nanos h.fraction (number_in h.order 4 (drop 4 r.head)); link = h.link; interface = None; original_length = number_in h.order 4 (drop 12 r.head); bytes = r.captured }

-- ---- streams
-- what a stream says: its header, if that is whole, its whole records, and what is left
pub record Capture : Type 0 where
  pub header : Option Header
  pub records : List Record
  pub rest : List ℕ

-- the stream is a piece of a header only
pub record IsBegun (s : List ℕ) : Type 0 where
  pub short : length s < 24
  pub header : List ℕ
  pub says : Header
  pub lawful : IsHeader header says
  pub after : List ℕ
  pub front : s ++ after ≡ header

-- the stream is a header, these records, and these bytes
pub record IsMadeOf (s : List ℕ) (h : Header) (records : List Record) (rest : List ℕ) : Type 0 where
  pub header : List ℕ
  pub says : IsHeader header h
  pub are_records : All (IsRecord h) records
  pub whole : s ≡ header ++ flat_map bytes_of records ++ rest

-- the stream is a header, these records, and then neither a whole record, nor one that is too long, nor a second header
pub record IsRead (s : List ℕ) (h : Header) (records : List Record) (rest : List ℕ) : Type 0 where
  pub made : IsMadeOf s h records rest
  pub no_more : HasRecord h rest → ⊥
  pub none_too_long : HasTooLong h rest → ⊥
  pub no_header : HasSecondHeader h rest → ⊥

-- the records of a stream with this header, if that is whole
abbrev pub ReadsBy : Option Header → List ℕ → List Record → List ℕ → Type 0
ReadsBy None s records rest = IsBegun s × (records ≡ []) × (rest ≡ s)
ReadsBy (Some h) s records rest = IsRead s h records rest

-- what a stream stands for
abbrev pub Reads : List ℕ → Capture → Type 0
Reads s c = ReadsBy c.header s c.records c.rest

-- the packets of records under this header
abbrev pub packets_by : Option Header → List Record → List Seen
packets_by None records = []
packets_by (Some h) records = map (packet_of h) records

-- the packets that a stream stands for
abbrev pub packets_of : Capture → List Seen
packets_of c = packets_by c.header c.records

-- nothing yet
abbrev pub nothing : Capture
nothing = record { header = None; records = []; rest = [] }

-- ---- refusals
-- the first four bytes, as far as they are there, begin a magic number
abbrev pub BeginsAs : List ℕ → Order → Fraction → Type 0
BeginsAs s order fraction = IsFrontOf (take 4 s) (magic order fraction)

-- the first bytes begin no magic number
abbrev pub LacksMagic : List ℕ → Type 0
LacksMagic s = (order : Order) (fraction : Fraction) → BeginsAs s order fraction → ⊥

-- the first bytes begin a magic number, and the next ones begin no version 2.4 in its order
pub record LacksVersion (s : List ℕ) : Type 0 where
  pub order : Order
  pub fraction : Fraction
  pub begins : BeginsAs s order fraction
  pub other : IsFrontOf (take 4 (drop 4 s)) (version order) → ⊥

-- behind a header and whole records, the bytes from this place on are so
pub record ComesAt (Is : Header → List ℕ → Type 0) (s : List ℕ) (place : ℕ) : Type 0 where
  pub header : Header
  pub records : List Record
  pub rest : List ℕ
  pub made : IsMadeOf s header records rest
  pub is : Is header rest
  pub at : place + length rest ≡ length s

-- why a stream is refused
abbrev pub IsFault : List ℕ → PcapError → Type 0
IsFault s Magic = LacksMagic s
IsFault s Version = LacksVersion s
IsFault s (faults.Header place) = ComesAt HasSecondHeader s place
IsFault s (Length place) = ComesAt HasTooLong s place
IsFault s Memory = ⊤
