-- A file that is read.
use Rattle.std.specs.Prelude.{◌≡◌, ℕ, ◌+◌, ◌^◌, ◌<◌, ◌≤◌, List, [], length, drop, get_or, map, pos, Some, All}
use Rattle.packets.specs.Dropped.{none_dropped}
use Rattle.packets.specs.Packets.{Seen}
use Rattle.pcapng_stream.specs.declared.section.Interface.{Interface}
use Rattle.pcapng_stream.specs.Blocks.{interface_number}
use Rattle.pcapng_stream.specs.Pcapng.{Blocks, Reads, packets_of, present}
use Rattle.pcapng_blocks.specs.Bytes.{SaidInterface, SaidPacket}
use Rattle.pcapng_blocks.specs.File.{Said, IsWritten, file_bytes}

-- a reader takes stamps below 2^62 ns, and packets of interfaces that there are
pub record IsReadable (interfaces : List SaidInterface) (p : SaidPacket) : Type 0 where
  pub interface : p.interface < length interfaces
  pub stamp : p.stamp < 2 ^ 62

-- all of a file can be written and read
pub record AreReadable (f : Said) : Type 0 where
  pub written : IsWritten f
  pub few : length f.interfaces ≤ 65536
  pub packets : All (IsReadable f.interfaces) f.packets

-- the link types of interfaces
abbrev pub links_of : List SaidInterface → List ℕ
links_of interfaces = map (λ (i : SaidInterface). i.link) interfaces

-- an interface as it is read: its stamps count ns, and nothing is told of packets that were dropped
abbrev pub seen_interface : SaidInterface → Interface
seen_interface i = record { link = i.link; resolution = 9; offset = pos 0; dropped = none_dropped }

-- a packet as it is read, with the link type of its interface
abbrev pub seen_packet : List SaidInterface → SaidPacket → Seen
seen_packet interfaces p = record { stamp = p.stamp; link = get_or (links_of interfaces) p.interface 0; interface = Some p.interface; original_length = p.original; bytes = p.bytes }

-- the file is read as these packets, each once, in their order, and nothing is left: behind the section header and the interfaces a
-- block for each, with the number of its interface
pub record IsReadAs (f : Said) : Type 0 where
  pub capture : Blocks
  pub reads : Reads (file_bytes f) capture
  pub no_rest : capture.rest ≡ []
  pub interfaces : (present capture).interfaces ≡ map seen_interface f.interfaces
  pub packets : packets_of capture ≡ map (seen_packet f.interfaces) f.packets
  pub under : map interface_number (drop (1 + length f.interfaces) capture.blocks) ≡ map (λ (p : SaidPacket). p.interface) f.packets
