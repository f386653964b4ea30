-- A merged capture that is read.
use Rattle.std.specs.Prelude.{◌≡◌, ◌<◌, List, [], length, map, None}
use Rattle.packets.specs.Packets.{Seen}
use Rattle.pcap_stream.specs.Capture.{Capture, Reads, packets_of}
use Rattle.mergecap.specs.MergedCapture.{Timed, link_type_of, merged_capture, whole_nanos}

-- the link type of the capture has 16 bits
abbrev pub HasLinkType : List Timed → Type 0
HasLinkType ts = link_type_of ts < 65536

-- the packet with its time, in whole ns, as its stamp, and as many bytes as it has there
abbrev pub stamped : Timed → Seen
stamped t = record { stamp = whole_nanos t.key.value; link = t.packet.link; interface = None; original_length = length t.packet.bytes; bytes = t.packet.bytes }

-- the merged capture says these packets at their times, in their order, and nothing is left of it
pub record IsReadBack (ts : List Timed) : Type 0 where
  pub capture : Capture
  pub reads : Reads (merged_capture ts) capture
  pub packets : packets_of capture ≡ map stamped ts
  pub no_rest : capture.rest ≡ []
