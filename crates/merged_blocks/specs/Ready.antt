-- The code's merged packets, when they can be written, and their file.
use Rattle.std.specs.Prelude.{◌<◌, length, All, pos, ◌≤ℤ◌}
use Rattle.intervals.specs.declared.ends.Ends.{Ends}
use Rattle.decl.specs.Declaration.{Declaration}
use Rattle.mergecap.specs.MergedCapture.{IsShort}
use Rattle.mergecap.specs.Packets.{all_timed, shift_of}
use Rattle.pcapng_blocks.specs.File.{Said}
use Rattle.merged_blocks.specs.declared.dates.DatedPackets.{DatedPackets}
use Rattle.merged_blocks.specs.declared.since.MergedPackets.{MergedPackets}
use Rattle.merged_blocks.specs.declared.taps.Tap.{Tap}
use Rattle.merged_blocks.specs.MergedFile.{AreDated, HaveEnds, merged_file}
use Rattle.merged_blocks.specs.Reading.{AreEarly, IsReadBack}

-- packets under labels of the declaration, each with few bytes and a date; the time of the first event is not below 0
pub record AreDatedUnder (d : Declaration) (x : DatedPackets) : Type 0 where
  pub dated : AreDated (all_timed x.packets.items) x.taps.items (shift_of x.start)
  pub short : All IsShort (all_timed x.packets.items)
  pub time : pos 0 ≤ℤ x.start.time
  pub labels : All (λ (tap : Tap). tap.place < length d.labels) x.taps.items

-- such packets, each with its ends since one event, which is under a label of the declaration too
pub record AreReady (d : Declaration) (x : MergedPackets) : Type 0 where
  pub dated : AreDatedUnder d x.dated
  pub ends : HaveEnds x.since.event (all_timed x.dated.packets.items) x.since.ends.items
  pub since : All (λ (e : Ends). x.since.event.label < length d.labels) x.since.ends.items

-- the file of them
abbrev pub file_of : Declaration → MergedPackets → Said
file_of d x = merged_file d x.dated.taps.items (shift_of x.dated.start) x.since.event (all_timed x.dated.packets.items) x.since.ends.items

-- where all their dates are early enough for readers, it is read as these
abbrev pub IsFileReadBack : Declaration → MergedPackets → Type 0
IsFileReadBack d x = AreEarly (shift_of x.dated.start) (all_timed x.dated.packets.items)
    → IsReadBack d x.dated.taps.items (shift_of x.dated.start) x.since.event (all_timed x.dated.packets.items) x.since.ends.items
