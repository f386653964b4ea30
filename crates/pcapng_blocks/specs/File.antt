-- A whole file: a section with its interfaces, and then packets.
use Rattle.std.specs.Prelude.{ℕ, ◌^◌, ◌<◌, ◌≤◌, List, ◌++◌, length, All}
use Rattle.std.specs.List.{flat_map}
use Rattle.pcapng_blocks.specs.Bytes.{SaidInterface, SaidPacket, section_header, interface_bytes, packet_bytes}

-- what a file says
pub record Said : Type 0 where
  pub comment : List ℕ
  pub interfaces : List SaidInterface
  pub packets : List SaidPacket

-- its bytes
abbrev pub file_bytes : Said → List ℕ
file_bytes f = section_header f.comment ++ flat_map interface_bytes f.interfaces ++ flat_map packet_bytes f.packets

-- ---- what can be written
-- a text has few bytes, as an option can say
abbrev pub IsText : List ℕ → Type 0
IsText text = length text < 65536

-- an interface that can be described
pub record IsInterface (i : SaidInterface) : Type 0 where
  pub link : i.link < 65536
  pub name : IsText i.name
  pub description : IsText i.description

-- a packet that can be written: its stamp has 64 bits
pub record IsPacket (p : SaidPacket) : Type 0 where
  pub interface : p.interface < 2 ^ 32
  pub stamp : p.stamp < 2 ^ 64
  pub original : p.original < 2 ^ 32
  pub captured : length p.bytes ≤ 262144
  pub comment : IsText p.comment

-- all of a file can be written
pub record IsWritten (f : Said) : Type 0 where
  pub comment : IsText f.comment
  pub interfaces : All IsInterface f.interfaces
  pub packets : All IsPacket f.packets
