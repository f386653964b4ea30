-- What the parts of a reader promise each other.
use Rattle.std.specs.Prelude.{◌≡◌, ℕ, ◌+◌, ◌≤◌, List, [], ◌++◌, length, take, map, All, Option, Some, None, ⊤}
use Rattle.std.specs.List.{flat_map}
use Rattle.pcap_stream.specs.declared.errors.PcapError.{PcapError}
use Rattle.pcap_stream.specs.declared.errors.PcapError.TheVariants.{Magic, Version, Length, Memory}
use Rattle.pcap_stream.specs.declared.errors.PcapError.TheVariants as faults
use Rattle.pcap_stream.specs.declared.header.Header.{Header}
use Rattle.packets.specs.declared.packet.Packet.{Packet}
use Rattle.packets.specs.Packets.{Seen, seen_packet}
use Rattle.pcap_stream.specs.Capture.{Capture, Record, IsHeader, IsBegun, IsRecord, IsMadeOf, HasRecord, HasSecondHeader, HasTooLong, bytes_of, packet_of}

-- the bytes begin with this header, or may still become one
abbrev pub FindsHeader : List ℕ → Option Header → Type 0
FindsHeader bytes None = IsBegun bytes
FindsHeader bytes (Some h) = (24 ≤ length bytes) × IsHeader (take 24 bytes) h

-- no whole record begins these bytes, none that is too long, and no second header
pub record IsPart (h : Header) (bytes : List ℕ) : Type 0 where
  pub no_more : HasRecord h bytes → ⊥
  pub none_too_long : HasTooLong h bytes → ⊥
  pub no_header : HasSecondHeader h bytes → ⊥

-- a record begins these bytes, and this is its packet
pub record IsNext (h : Header) (bytes : List ℕ) (packet : Seen) : Type 0 where
  pub «record» : Record
  pub after : List ℕ
  pub lawful : IsRecord h «record»
  pub whole : bytes ≡ bytes_of «record» ++ after
  pub said : packet ≡ packet_of h «record»

-- the packet of the record that begins these bytes, if one does
abbrev pub FindsRecord : Header → List ℕ → Option Packet → Type 0
FindsRecord h bytes None = IsPart h bytes
FindsRecord h bytes (Some packet) = IsNext h bytes (seen_packet packet)

-- a record at this place is a second header, or says that it is too long
abbrev pub IsRecordFault : Header → List ℕ → ℕ → PcapError → Type 0
IsRecordFault h bytes place Magic = ⊥
IsRecordFault h bytes place Version = ⊥
IsRecordFault h bytes place (faults.Header p) = HasSecondHeader h bytes × (p ≡ place)
IsRecordFault h bytes place (Length p) = HasTooLong h bytes × (p ≡ place)
IsRecordFault h bytes place Memory = ⊤

-- the bytes are these records and what is left
pub record AreFirst (h : Header) (bytes : List ℕ) (records : List Record) (left : List ℕ) : Type 0 where
  pub lawful : All (IsRecord h) records
  pub whole : bytes ≡ flat_map bytes_of records ++ left

-- the packets of the records before what is left were appended
pub record HasRead (h : Header) (bytes left : List ℕ) (old new : List Seen) : Type 0 where
  pub records : List Record
  pub first : AreFirst h bytes records left
  pub added : new ≡ old ++ map (packet_of h) records

-- the packets of all whole records were appended
pub record EndsRecords (h : Header) (bytes left : List ℕ) (old new : List Seen) : Type 0 where
  pub read : HasRead h bytes left old new
  pub part : IsPart h left

-- behind some records, the bytes from this place on are so
pub record IsLater (Is : Header → List ℕ → Type 0) (h : Header) (bytes : List ℕ) (start place : ℕ) : Type 0 where
  pub records : List Record
  pub left : List ℕ
  pub first : AreFirst h bytes records left
  pub is : Is h left
  pub at : place + length left ≡ start + length bytes

-- why records that start at this place are refused
abbrev pub IsRecordsFault : Header → List ℕ → ℕ → PcapError → Type 0
IsRecordsFault h bytes start Magic = ⊥
IsRecordsFault h bytes start Version = ⊥
IsRecordsFault h bytes start (faults.Header place) = IsLater HasSecondHeader h bytes start place
IsRecordsFault h bytes start (Length place) = IsLater HasTooLong h bytes start place
IsRecordsFault h bytes start Memory = ⊤

-- these bytes end the stream, at this place, behind its header and these records
pub record IsAt (h : Header) (s : List ℕ) (records : List Record) (offset : ℕ) (bytes : List ℕ) : Type 0 where
  pub made : IsMadeOf s h records bytes
  pub place : offset + length bytes ≡ length s

-- a capture with this header and these records
abbrev pub with_records : Header → List Record → Capture
with_records h records = record { header = Some h; records = records; rest = [] }
