-- What `mergecap` prints and answers.
use Rattle.std.specs.Prelude.{◌≡◌, ◌⊎◌, ℕ, List, [], ◌∷◌, ◌++◌, All, codes}
use Rattle.decl.specs.Declaration.{Declaration}
use Rattle.mergecap.specs.MergedCapture.{Timed, AreWritable, IsShort, merged_capture}
use Rattle.mergecap.specs.Reading.{IsReadBack}
use Rattle.ports.specs.Content.{SinkTold}
use Rattle.session.specs.Script.{Devices}
use Rattle.merge_script.specs.declared.unmerged.Unmerged.{Unmerged}
use Rattle.merge_script.specs.declared.unmerged.Unmerged.TheVariants as causes
use Rattle.merge_script.specs.Merged.{MergesTo, MergesNot}
use Rattle.merge_script.specs.Notes.{AreNoted}
use Rattle.problem_commands.specs.Printing.{IsOnlyText}
use Rattle.commands.specs.Sessions.{IsDeclaredAt, IsUndeclared, TellsUndeclared}
use Rattle.commands.specs.declared.declaration.Undeclared.{Undeclared}
use Rattle.problem_commands.specs.declared.status.Status.{Status}
use Rattle.problem_commands.specs.declared.status.Status.TheVariants.{Done, ReadFault, WriteFault, ScriptLimit, NoMerge}

-- what is printed where packets are not merged, and with which status
abbrev pub TellsUnmerged : Unmerged → Status → List ℕ → Type 0
TellsUnmerged (causes.Refused said) = IsOnlyText (said.items ++ 10 ∷ []) NoMerge
TellsUnmerged causes.Size = IsOnlyText (codes "size\n") NoMerge
TellsUnmerged causes.Inconsistent = IsOnlyText (codes "inconsistent\n") NoMerge
TellsUnmerged causes.Links = IsOnlyText (codes "links\n") NoMerge
TellsUnmerged causes.Range = IsOnlyText (codes "range\n") NoMerge
TellsUnmerged causes.ReadFault = IsOnlyText (codes "read fault\n") ReadFault
TellsUnmerged causes.Limit = IsOnlyText (codes "script limit\n") ScriptLimit
TellsUnmerged causes.Memory = λ status text. ⊥

-- the capture of the merge of all packets of the script, which can stand in one and are read from it again, or a line that says why
-- there is none
abbrev pub MergedOver : Declaration → Devices → Devices → Status → List ℕ → Type 0
MergedOver d old new status text = ((ordered : List Timed) × MergesTo d old new ordered × AreWritable ordered × All IsShort ordered × IsReadBack ordered
    × IsOnlyText (merged_capture ordered) Done status text)
    ⊎ ((why : Unmerged) × MergesNot d old new why × TellsUnmerged why status text)

-- the same over the declaration at the path; where there is none, a line says so, and nothing of the script was read
abbrev pub MergedAt : List ℕ → Devices → Devices → Status → List ℕ → Type 0
MergedAt path old new status text = ((d : Declaration) × IsDeclaredAt old.files.content path d × MergedOver d old new status text)
    ⊎ ((u : Undeclared) × IsUndeclared path old.files new.files u × (new.input ≡ old.input) × TellsUndeclared u status text)

-- ---- the notes
-- the notes on all that the script adds over the declaration at the path are told
abbrev pub AreNotedAt : List ℕ → Devices → Devices → SinkTold → SinkTold → Type 0
AreNotedAt path old new before after = (d : Declaration) × IsDeclaredAt old.files.content path d × AreNoted d old new before after

-- they are told beside a merge, by the status; where a write of the output failed, they may be told or not. Beside all else nothing is
abbrev pub NotedAt : List ℕ → Devices → Devices → SinkTold → SinkTold → Status → Type 0
NotedAt path old new before after Done = AreNotedAt path old new before after
NotedAt path old new before after WriteFault = AreNotedAt path old new before after ⊎ (after ≡ before)
NotedAt path old new before after _ = after ≡ before
