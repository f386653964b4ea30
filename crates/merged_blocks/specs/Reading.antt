-- A merged file that is read.
use Rattle.std.specs.Prelude.{◌≡◌, ◌<◌, ◌^◌, ◌+◌, List, [], length, map, drop, slice_get, Some, All, ℤ}
use Rattle.packets.specs.Packets.{Seen}
use Rattle.pcapng_stream.specs.Blocks.{Block, interface_number}
use Rattle.pcapng_stream.specs.Pcapng.{Blocks, Reads, packets_of, present}
use Rattle.intervals.specs.declared.ends.Ends.{Ends}
use Rattle.decl.specs.Declaration.{Declaration}
use Rattle.traces.specs.declared.event_id.EventId.{EventId}
use Rattle.mergecap.specs.MergedCapture.{Timed, whole_nanos}
use Rattle.pcapng_blocks.specs.File.{file_bytes}
use Rattle.pcapng_blocks.specs.Reading.{seen_interface}
use Rattle.merged_blocks.specs.declared.taps.Tap.{Tap}
use Rattle.merged_blocks.specs.Taps.{number_of, tap_of}
use Rattle.merged_blocks.specs.Descriptions.{tap_interface}
use Rattle.merged_blocks.specs.MergedFile.{date_of, merged_file}

-- the packet under the interface of its tap, with its date, in whole ns, as its stamp
abbrev pub dated : List Tap → ℤ → Timed → Seen
dated taps shift t = record { stamp = whole_nanos (date_of shift t); link = t.packet.link; interface = Some (number_of taps (tap_of t)); original_length = t.packet.original_length; bytes = t.packet.bytes }

-- readers take dates below 2^62 ns
abbrev pub AreEarly : ℤ → List Timed → Type 0
AreEarly shift ts = All (λ (t : Timed). whole_nanos (date_of shift t) < 2 ^ 62) ts

-- the file is read as these packets with their dates, each once, in their order, each in a block under the interface of its tap, and
-- nothing is left
pub record IsReadBack (d : Declaration) (taps : List Tap) (shift : ℤ) (since : EventId) (ts : List Timed) (all : List Ends) : Type 0 where
  pub capture : Blocks
  pub reads : Reads (file_bytes (merged_file d taps shift since ts all)) capture
  pub no_rest : capture.rest ≡ []
  pub interfaces : (present capture).interfaces ≡ map (λ (tap : Tap). seen_interface (tap_interface d tap)) taps
  pub packets : packets_of capture ≡ map (dated taps shift) ts
  pub under : map (λ (b : Block). slice_get taps (interface_number b)) (drop (1 + length taps) capture.blocks) ≡ map (λ (t : Timed). Some (tap_of t)) ts
