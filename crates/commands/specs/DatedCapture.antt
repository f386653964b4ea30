-- What `mergecap` prints and answers where a file of pcapng is asked for.
use Rattle.std.specs.Prelude.{◌≡◌, ◌⊎◌, ℕ, List, Option, ℤ}
use Rattle.intervals.specs.declared.ends.Ends.{Ends}
use Rattle.decl.specs.Declaration.{Declaration}
use Rattle.traces.specs.declared.event_id.EventId.{EventId}
use Rattle.mergecap.specs.MergedCapture.{Timed}
use Rattle.pcapng_blocks.specs.File.{IsWritten, file_bytes}
use Rattle.merged_blocks.specs.declared.taps.Tap.{Tap}
use Rattle.merged_blocks.specs.MergedFile.{AreDated, merged_file}
use Rattle.merged_blocks.specs.Reading.{AreEarly, IsReadBack}
use Rattle.session.specs.Script.{Devices}
use Rattle.merge_script.specs.declared.unmerged.Unmerged.{Unmerged}
use Rattle.merge_script.specs.Dated.{MergesDated, DatesNot}
use Rattle.problem_commands.specs.Printing.{IsOnlyText}
use Rattle.commands.specs.MergedCapture.{TellsUnmerged}
use Rattle.commands.specs.Sessions.{IsDeclaredAt, IsUndeclared, TellsUndeclared}
use Rattle.commands.specs.declared.declaration.Undeclared.{Undeclared}
use Rattle.problem_commands.specs.declared.status.Status.{Status}
use Rattle.problem_commands.specs.declared.status.Status.TheVariants.{Done}

-- the file of the merge of all packets of the script, with their taps and dates, which a file can say, and each so long after one event, that
-- of the name or the first of all; it is read again as these packets where all dates are early enough for readers; or a line that says why there is none
abbrev pub DatedOver : Declaration → Option (List ℕ) → Devices → Devices → Status → List ℕ → Type 0
DatedOver d name old new status text =
    ((ordered : List Timed) × (taps : List Tap) × (shift : ℤ) × (since : EventId) × (each : List Ends) × MergesDated d name old new ordered taps shift since each × AreDated ordered taps shift
    × IsWritten (merged_file d taps shift since ordered each) × (AreEarly shift ordered → IsReadBack d taps shift since ordered each)
    × IsOnlyText (file_bytes (merged_file d taps shift since ordered each)) Done status text)
    ⊎ ((why : Unmerged) × DatesNot d name old new why × TellsUnmerged why status text)

-- the same over the declaration at the path; where there is none, a line says so, and nothing of the script was read
abbrev pub DatedAt : List ℕ → Option (List ℕ) → Devices → Devices → Status → List ℕ → Type 0
DatedAt path name old new status text = ((d : Declaration) × IsDeclaredAt old.files.content path d × DatedOver d name old new status text)
    ⊎ ((u : Undeclared) × IsUndeclared path old.files new.files u × (new.input ≡ old.input) × TellsUndeclared u status text)
