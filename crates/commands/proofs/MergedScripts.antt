-- A merge since the declaration was read, and what is printed of it.
use Rattle.std.proofs.Common.{◌≡◌, ◌⊎◌, inl, inr, ℕ, List, [], ◌∷◌, ◌++◌, take, refl, sym, ◌∙◌, subst}
use Rattle.ports.specs.Content.{SourceTold, SinkTold}
use Rattle.ports.specs.Files.{Content, FilesTold, Keeps}
use Rattle.decl.specs.Declaration.{Declaration}
use Rattle.ports.specs.Lines.{lines_of, whole_lines, most_taken}
use Rattle.std.specs.Prelude.{All}
use Rattle.mergecap.specs.MergedCapture.{Timed, AreWritable, IsShort, merged_capture}
use Rattle.mergecap.specs.Reading.{IsReadBack}
use Rattle.traces.specs.Seen.{Seen}
use Rattle.replies.specs.Reply.{State}
use Rattle.replies.specs.Sessions.{start}
use Rattle.session.specs.Script.{Devices, OfScript}
use Rattle.session.proofs.Replies.{counted_earlier}
use Rattle.session.proofs.Places.{of_script}
use Rattle.merge_script.specs.declared.unmerged.Unmerged.{Unmerged}
use Rattle.merge_script.specs.declared.unmerged.Unmerged.TheVariants as whys
use Rattle.merge_script.specs.Gathered.{AreAdded, AddsAll, AddsScript, MergeReply, StopsAt, TakesPart, IsScriptTooLong}
use Rattle.merge_script.specs.Turns.{reads}
use Rattle.merge_script.specs.Notes.{AreNoted, NotesAdded}
use Rattle.merge_script.specs.Merged.{IsMergeOf, LacksMerge, OfAllAdded, MergesTo, MergesNot}
use Rattle.problem_commands.specs.Printing.{IsOnlyText, Prints}
use Rattle.commands.specs.Sessions.{IsDeclaredAt, IsUndeclared, TellsUndeclared}
use Rattle.commands.specs.MergedCapture.{AreNotedAt, MergedAt, NotedAt, TellsUnmerged}
use Rattle.commands.specs.declared.declaration.Undeclared.{Undeclared}
use Rattle.commands.specs.declared.declaration.Undeclared.TheVariants as undeclared
use Rattle.problem_commands.specs.declared.status.Status.{Status}
use Rattle.problem_commands.specs.declared.status.Status.TheVariants as statuses
use Rattle.problem_commands.proofs.Printing.{prints_as}

module _ (d : Declaration) (files begun after : FilesTold) (input input' : SourceTold) (keeps : Keeps files begun) where
  adds_since : (lines : List (List ℕ)) (s : State) → AddsAll d (reads begun input) (reads after input') lines s → AddsAll d (reads files input) (reads after input') lines s
  adds_since lines s a = record {
    founds = a.founds;
    added = subst (λ (c : Content). AreAdded d c (start d) lines a.founds s) keeps.same a.added;
    counted = counted_earlier a.founds files begun after keeps a.counted;
  }

  script_since : (s : State) (script : List ℕ) → AddsScript d (reads begun input) (reads after input') s script → AddsScript d (reads files input) (reads after input') s script
  script_since s script a = record { short = a.short; none_left = a.none_left; adds = adds_since (lines_of script) s a.adds }

  stops_since : (why : Unmerged) (script : List ℕ) → StopsAt d (reads begun input) (reads after input') why script → StopsAt d (reads files input) (reads after input') why script
  stops_since why script a = record {
    lines = a.lines;
    line = a.line;
    more = a.more;
    are = a.are;
    founds = a.founds;
    state = a.state;
    added = subst (λ (c : Content). AreAdded d c (start d) a.lines a.founds a.state) keeps.same a.added;
    found = a.found;
    text = a.text;
    then = a.then;
    reply = subst (λ (c : Content). MergeReply d c a.state a.line a.found a.text a.then) keeps.same a.reply;
    last = a.last;
    counted = counted_earlier (a.founds ++ a.found ∷ []) files begun after keeps a.counted;
  }

  part_since : (script : List ℕ) → TakesPart d (reads begun input) (reads after input') script → TakesPart d (reads files input) (reads after input') script
  part_since script a = record { taken = a.taken; rest = a.rest; is = a.is; left = a.left; short = a.short; state = a.state; adds = adds_since (whole_lines a.taken) a.state a.adds }

  long_since : (script : List ℕ) → IsScriptTooLong d (reads begun input) (reads after input') script → IsScriptTooLong d (reads files input) (reads after input') script
  long_since script a = record { long = a.long; state = a.state; adds = adds_since (whole_lines (take most_taken script)) a.state a.adds }

  pub all_since : (Says : List (List Seen) → List Timed → Type 0) → OfScript input.left (OfAllAdded d (reads begun input) (reads after input') Says) → OfScript input.left (OfAllAdded d (reads files input) (reads after input') Says)
  all_since Says is = of_script input.left (OfAllAdded d (reads begun input) (reads after input') Says) (OfAllAdded d (reads files input) (reads after input') Says)
      (λ script a. record { state = a.state; adds = script_since a.state script a.adds; all = a.all; are = a.are; says = a.says }) is

  stop_since : (why : Unmerged) → OfScript input.left (StopsAt d (reads begun input) (reads after input') why) → OfScript input.left (StopsAt d (reads files input) (reads after input') why)
  stop_since why is = of_script input.left (StopsAt d (reads begun input) (reads after input') why) (StopsAt d (reads files input) (reads after input') why) (stops_since why) is

  pub merges_since : (ordered : List Timed) → MergesTo d (reads begun input) (reads after input') ordered → MergesTo d (reads files input) (reads after input') ordered
  merges_since ordered is = all_since (λ seen all. IsMergeOf d seen all ordered) is

  pub unmerged_since : (why : Unmerged) → MergesNot d (reads begun input) (reads after input') why → MergesNot d (reads files input) (reads after input') why
  unmerged_since (whys.Refused said) is = stop_since (whys.Refused said) is
  unmerged_since whys.Size is = stop_since whys.Size is
  unmerged_since whys.Inconsistent is = all_since (λ seen all. LacksMerge d seen all whys.Inconsistent) is
  unmerged_since whys.Links is = all_since (λ seen all. LacksMerge d seen all whys.Links) is
  unmerged_since whys.Range is = all_since (λ seen all. LacksMerge d seen all whys.Range) is
  unmerged_since whys.ReadFault is =
      (is.0, of_script input.left (TakesPart d (reads begun input) (reads after input')) (TakesPart d (reads files input) (reads after input')) part_since is.1)
  unmerged_since whys.Limit is = of_script input.left (IsScriptTooLong d (reads begun input) (reads after input')) (IsScriptTooLong d (reads files input) (reads after input')) long_since is
  unmerged_since whys.Memory is = tt

  -- ---- what is noted
  added_since : (before later : SinkTold) (script : List ℕ) → NotesAdded d (reads begun input) (reads after input') before later script → NotesAdded d (reads files input) (reads after input') before later script
  added_since before later script a = record { state = a.state; adds = script_since a.state script a.adds; told = a.told }

  pub noted_since : (before later : SinkTold) → AreNoted d (reads begun input) (reads after input') before later → AreNoted d (reads files input) (reads after input') before later
  noted_since before later is =
      of_script input.left (NotesAdded d (reads begun input) (reads after input') before later) (NotesAdded d (reads files input) (reads after input') before later) (added_since before later) is

  -- ---- what is printed
  module _ (path : List ℕ) (declared : IsDeclaredAt files.content path d) (out out' : SinkTold) (result : Status) where
    pub merged_printed : (ordered : List Timed) → MergesTo d (reads begun input) (reads after input') ordered → AreWritable ordered → All IsShort ordered → IsReadBack ordered → Prints (IsOnlyText (merged_capture ordered) statuses.Done) out out' result →
        Prints (MergedAt path (reads files input) (reads after input')) out out' result
    merged_printed ordered is writable short back prints =
        prints_as (IsOnlyText (merged_capture ordered) statuses.Done) (MergedAt path (reads files input) (reads after input')) out out' result
        (λ status text only. inl (d, declared, inl (ordered, merges_since ordered is, writable, short, back, only))) prints

    pub unmerged_printed : (why : Unmerged) → MergesNot d (reads begun input) (reads after input') why → Prints (TellsUnmerged why) out out' result →
        Prints (MergedAt path (reads files input) (reads after input')) out out' result
    unmerged_printed why is prints =
        prints_as (TellsUnmerged why) (MergedAt path (reads files input) (reads after input')) out out' result
        (λ status text tells. inl (d, declared, inr (why, unmerged_since why is, tells))) prints

pub undeclared_printed : (path : List ℕ) (files begun : FilesTold) (input : SourceTold) (out out' : SinkTold) (result : Status) (u : Undeclared) → IsUndeclared path files begun u → Prints (TellsUndeclared u) out out' result →
    Prints (MergedAt path (reads files input) (reads begun input)) out out' result
undeclared_printed path files begun input out out' result u is prints =
    prints_as (TellsUndeclared u) (MergedAt path (reads files input) (reads begun input)) out out' result (λ status text tells. inr (u, is, refl, tells)) prints

-- ---- what is noted, by the status
module _ (path : List ℕ) (old new : Devices) (before after : SinkTold) where
  -- beside a merge, whether or not it could be printed
  pub noted_at : (result : Status) → (result ≡ statuses.Done) ⊎ (result ≡ statuses.WriteFault) → AreNotedAt path old new before after → NotedAt path old new before after result
  noted_at result (inl is) noted = subst (NotedAt path old new before after) (sym is) noted
  noted_at result (inr is) noted = subst (NotedAt path old new before after) (sym is) (inl noted)

  -- beside all else
  pub quiet_at : (result : Status) → (result ≡ statuses.Done → ⊥) → after ≡ before → NotedAt path old new before after result
  quiet_at statuses.Done other same = absurd (other refl)
  quiet_at statuses.No other same = same
  quiet_at statuses.Usage other same = same
  quiet_at statuses.BadDecl other same = same
  quiet_at statuses.BadProblem other same = same
  quiet_at statuses.BadExec other same = same
  quiet_at statuses.BadCert other same = same
  quiet_at statuses.ReadFault other same = same
  quiet_at statuses.WriteFault other same = inr same
  quiet_at statuses.Memory other same = same
  quiet_at statuses.ScriptLimit other same = same
  quiet_at statuses.UnknownName other same = same
  quiet_at statuses.NoMerge other same = same

-- other statuses
not_no_merge : statuses.Done ≡ statuses.NoMerge → ⊥
not_no_merge is = absurd cc

not_bad_decl : statuses.Done ≡ statuses.BadDecl → ⊥
not_bad_decl is = absurd cc

not_read_fault : statuses.Done ≡ statuses.ReadFault → ⊥
not_read_fault is = absurd cc

not_script_limit : statuses.Done ≡ statuses.ScriptLimit → ⊥
not_script_limit is = absurd cc

not_write_fault : statuses.Done ≡ statuses.WriteFault → ⊥
not_write_fault is = absurd cc

not_memory : statuses.Done ≡ statuses.Memory → ⊥
not_memory is = absurd cc

-- where no text goes with the status 0, it is not that
other_status : (Goes : Status → List ℕ → Type 0) (old new : SinkTold) (result : Status) → ((text : List ℕ) → Goes statuses.Done text → ⊥) → Prints Goes old new result → result ≡ statuses.Done → ⊥
other_status Goes old new result never (inl whole) is = never whole.0 (subst (λ (status : Status). Goes status whole.0) is whole.1)
other_status Goes old new result never (inr (inl cut)) is = not_write_fault (sym is ∙ cut.0)
other_status Goes old new result never (inr (inr none)) is = not_memory (sym is ∙ none.0)

unmerged_not_done : (why : Unmerged) (text : List ℕ) → TellsUnmerged why statuses.Done text → ⊥
unmerged_not_done (whys.Refused said) text tells = not_no_merge tells.0
unmerged_not_done whys.Size text tells = not_no_merge tells.0
unmerged_not_done whys.Inconsistent text tells = not_no_merge tells.0
unmerged_not_done whys.Links text tells = not_no_merge tells.0
unmerged_not_done whys.Range text tells = not_no_merge tells.0
unmerged_not_done whys.ReadFault text tells = not_read_fault tells.0
unmerged_not_done whys.Limit text tells = not_script_limit tells.0
unmerged_not_done whys.Memory text tells = tells

undeclared_not_done : (u : Undeclared) (text : List ℕ) → TellsUndeclared u statuses.Done text → ⊥
undeclared_not_done (undeclared.Faulty number section index) text tells = not_bad_decl tells.0
undeclared_not_done undeclared.Unread text tells = not_read_fault tells.0
undeclared_not_done undeclared.Memory text tells = tells

pub unmerged_other : (why : Unmerged) (old new : SinkTold) (result : Status) → Prints (TellsUnmerged why) old new result → result ≡ statuses.Done → ⊥
unmerged_other why old new result prints is = other_status (TellsUnmerged why) old new result (unmerged_not_done why) prints is

pub undeclared_other : (u : Undeclared) (old new : SinkTold) (result : Status) → Prints (TellsUndeclared u) old new result → result ≡ statuses.Done → ⊥
undeclared_other u old new result prints is = other_status (TellsUndeclared u) old new result (undeclared_not_done u) prints is
