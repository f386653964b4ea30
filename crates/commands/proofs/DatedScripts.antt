-- A merge with dates since the declaration was read, and what is printed of it.
use Rattle.std.proofs.Common.{◌≡◌, ◌⊎◌, inl, inr, ℕ, List, Option, ℤ, refl, subst}
use Rattle.ports.specs.Content.{SourceTold, SinkTold}
use Rattle.ports.specs.Files.{FilesTold, Keeps}
use Rattle.decl.specs.Declaration.{Declaration}
use Rattle.mergecap.specs.MergedCapture.{Timed}
use Rattle.mergecap.specs.Packets.{all_timed, shift_of}
use Rattle.pcapng_blocks.specs.File.{IsWritten, file_bytes}
use Rattle.intervals.specs.declared.ends.Ends.{Ends}
use Rattle.traces.specs.declared.event_id.EventId.{EventId}
use Rattle.merged_blocks.specs.declared.since.MergedPackets.{MergedPackets}
use Rattle.merged_blocks.specs.declared.taps.Tap.{Tap}
use Rattle.merged_blocks.specs.Ready.{AreReady, IsFileReadBack, file_of}
use Rattle.session.specs.Script.{Devices}
use Rattle.merge_script.specs.declared.unmerged.Unmerged.{Unmerged}
use Rattle.merge_script.specs.declared.unmerged.Unmerged.TheVariants as whys
use Rattle.merge_script.specs.Turns.{reads}
use Rattle.merge_script.specs.Notes.{AreNoted}
use Rattle.merge_script.specs.Dated.{DatesNot, IsCountedMergeOf, LacksFile, MergesDated}
use Rattle.problem_commands.specs.Printing.{IsOnlyText, Prints}
use Rattle.problem_commands.specs.declared.status.Status.{Status}
use Rattle.problem_commands.specs.declared.status.Status.TheVariants as statuses
use Rattle.problem_commands.proofs.Printing.{prints_as}
use Rattle.commands.specs.DatedCapture.{DatedAt, DatedOver}
use Rattle.commands.specs.MergedCapture.{NotedAt, TellsUnmerged}
use Rattle.commands.specs.Sessions.{IsDeclaredAt, IsUndeclared, TellsUndeclared}
use Rattle.commands.specs.declared.declaration.Undeclared.{Undeclared}
use Rattle.commands.proofs.MergedScripts.{all_since, noted_at, noted_since, quiet_at, unmerged_since}

module _ (d : Declaration) (files begun after : FilesTold) (input input' : SourceTold) (keeps : Keeps files begun) where
  dated_since : (name : Option (List ℕ)) (ordered : List Timed) (taps : List Tap) (shift : ℤ) (since : EventId) (each : List Ends) → MergesDated d name (reads begun input) (reads after input') ordered taps shift since each →
      MergesDated d name (reads files input) (reads after input') ordered taps shift since each
  dated_since name ordered taps shift since each is = all_since d files begun after input input' keeps (λ seen all. IsCountedMergeOf d seen name all ordered taps shift since each) is

  undated_since : (name : Option (List ℕ)) (why : Unmerged) → DatesNot d name (reads begun input) (reads after input') why → DatesNot d name (reads files input) (reads after input') why
  undated_since name (whys.Refused said) (inl is) = inl (unmerged_since d files begun after input input' keeps (whys.Refused said) is)
  undated_since name (whys.Refused said) (inr is) = inr (all_since d files begun after input input' keeps (λ seen all. LacksFile d seen name all (whys.Refused said)) is)
  undated_since name whys.Size is = unmerged_since d files begun after input input' keeps whys.Size is
  undated_since name whys.Inconsistent is = all_since d files begun after input input' keeps (λ seen all. LacksFile d seen name all whys.Inconsistent) is
  undated_since name whys.Links is = is
  undated_since name whys.Range is = all_since d files begun after input input' keeps (λ seen all. LacksFile d seen name all whys.Range) is
  undated_since name whys.ReadFault is = unmerged_since d files begun after input input' keeps whys.ReadFault is
  undated_since name whys.Limit is = unmerged_since d files begun after input input' keeps whys.Limit is
  undated_since name whys.Memory is = tt

  over_since : (name : Option (List ℕ)) (status : Status) (text : List ℕ) → DatedOver d name (reads begun input) (reads after input') status text → DatedOver d name (reads files input) (reads after input') status text
  over_since name status text (inl (ordered, taps, shift, since, each, is, dated, written, back, only)) = inl (ordered, taps, shift, since, each, dated_since name ordered taps shift since each is, dated, written, back, only)
  over_since name status text (inr (why, is, tells)) = inr (why, undated_since name why is, tells)

  module _ (path : List ℕ) (declared : IsDeclaredAt files.content path d) where
    pub dated_printed : (name : Option (List ℕ)) (out out' : SinkTold) (result : Status) → Prints (DatedOver d name (reads begun input) (reads after input')) out out' result → Prints (DatedAt path name (reads files input) (reads after input')) out out' result
    dated_printed name out out' result prints =
        prints_as (DatedOver d name (reads begun input) (reads after input')) (DatedAt path name (reads files input) (reads after input')) out out' result
        (λ status text over. inl (d, declared, over_since name status text over)) prints

    -- what is noted beside it
    pub dated_noted : (before later : SinkTold) (result : Status) →
        (((result ≡ statuses.Done) ⊎ (result ≡ statuses.WriteFault)) × AreNoted d (reads begun input) (reads after input') before later) ⊎ ((result ≡ statuses.Done → ⊥) × (later ≡ before)) →
        NotedAt path (reads files input) (reads after input') before later result
    dated_noted before later result (inl (only, noted)) =
        noted_at path (reads files input) (reads after input') before later result only (d, declared, noted_since d files begun after input input' keeps before later noted)
    dated_noted before later result (inr (other, same)) = quiet_at path (reads files input) (reads after input') before later result other same

pub undeclared_dated : (path : List ℕ) (name : Option (List ℕ)) (files begun : FilesTold) (input : SourceTold) (out out' : SinkTold) (result : Status) (u : Undeclared) → IsUndeclared path files begun u → Prints (TellsUndeclared u) out out' result →
    Prints (DatedAt path name (reads files input) (reads begun input)) out out' result
undeclared_dated path name files begun input out out' result u is prints =
    prints_as (TellsUndeclared u) (DatedAt path name (reads files input) (reads begun input)) out out' result (λ status text tells. inr (u, is, refl, tells)) prints

-- ---- over a declaration
module _ (d : Declaration) (name : Option (List ℕ)) (old new : Devices) (out out' : SinkTold) (result : Status) where
  pub file_printed : (x : MergedPackets) → MergesDated d name old new (all_timed x.dated.packets.items) x.dated.taps.items (shift_of x.dated.start) x.since.event x.since.ends.items → AreReady d x → IsWritten (file_of d x) → IsFileReadBack d x
      → Prints (IsOnlyText (file_bytes (file_of d x)) statuses.Done) out out' result → Prints (DatedOver d name old new) out out' result
  file_printed x is ready written back prints =
      prints_as (IsOnlyText (file_bytes (file_of d x)) statuses.Done) (DatedOver d name old new) out out' result
      (λ status text only. inl (all_timed x.dated.packets.items, x.dated.taps.items, shift_of x.dated.start, x.since.event, x.since.ends.items, is, ready.dated.dated, written, back, only)) prints

  pub none_printed : (why : Unmerged) → DatesNot d name old new why → Prints (TellsUnmerged why) out out' result → Prints (DatedOver d name old new) out out' result
  none_printed why is prints = prints_as (TellsUnmerged why) (DatedOver d name old new) out out' result (λ status text tells. inr (why, is, tells)) prints
