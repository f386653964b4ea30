-- What a run comes to over whatever devices, and over an output of which some is held until its end.
use Rattle.std.specs.Prelude.{◌≡◌, ◌⊎◌, ◌<◌, ◌≤◌, ◌^◌, ℕ, List, length, take, Option, Some, None}
use Rattle.ports.specs.Content.{Rose, SinkTold}
use Rattle.ports.specs.Files.{Keeps}
use Rattle.ports.specs.Gathered.{HasWhole}
use Rattle.session.specs.Script.{Devices, devices}
use Rattle.merge_script.specs.Turns.{reads}
use Rattle.problem_commands.specs.declared.status.Status.{Status}
use Rattle.problem_commands.specs.declared.status.Status.TheVariants.{Done, Usage, WriteFault}
use Rattle.problem_commands.specs.Printing.{Prints, Closes}
use Rattle.problem_commands.specs.Obey.{Obeyed}
use Rattle.problem_commands.specs.Solve.{Solved}
use Rattle.problem_commands.specs.Intervals.{IntervalAnswered}
use Rattle.problem_commands.specs.Verify.{Verified}
use Rattle.problem_commands.specs.Widening.{WideningFound, WideningJudged}
use Rattle.problem_commands.specs.Blame.{Blamed}
use Rattle.problem_commands.specs.Thin.{ProblemThinned}
use Rattle.commands.specs.Asked.{Asked, asked_of, ReadsNoFile, ReadsNoScript, usage_line, help_text, version_text}
use Rattle.commands.specs.Asked.Asked.{Obey, Solve, Ends, Verify, Session, Trial, Widen, Judge, Blame, Thin, Mergecap, MergeDated, Help, Version, Nothing}
use Rattle.commands.specs.Sessions.{Conducted}
use Rattle.commands.specs.Trials.{TriedBy}
use Rattle.commands.specs.Complete.{IsLawfulInput, IsFaultless, IsAnswered}
use Rattle.commands.specs.MergedCapture.{MergedAt, NotedAt}
use Rattle.commands.specs.DatedCapture.{DatedAt}

-- what a run that was asked for this prints, and with which status, over these devices before and after
abbrev pub Answers : Asked → Devices → Devices → Status → Type 0
Answers (Obey problem exec) old new result = Prints (Obeyed problem exec old.files new.files) old.out new.out result
Answers (Solve problem) old new result = Prints (Solved problem old.files new.files) old.out new.out result
Answers (Ends problem first second) old new result = Prints (IntervalAnswered problem first second old.files new.files) old.out new.out result
Answers (Verify problem cert) old new result = Prints (Verified problem cert old.files new.files) old.out new.out result
Answers (Session decl) old new result = Conducted decl old new result
Answers (Trial number) old new result = TriedBy number old.out new.out result
Answers (Widen problem ws) old new result = Prints (WideningFound problem ws old.files new.files) old.out new.out result
Answers (Judge problem widening) old new result = Prints (WideningJudged problem widening old.files new.files) old.out new.out result
Answers (Blame problem) old new result = Prints (Blamed problem old.files new.files) old.out new.out result
Answers (Thin problem names) old new result = Prints (ProblemThinned problem names old.files new.files) old.out new.out result
Answers (Mergecap decl) old new result = Prints (MergedAt decl (reads old.files old.input) (reads new.files new.input)) old.out new.out result
Answers (MergeDated decl event) old new result = Prints (DatedAt decl event (reads old.files old.input) (reads new.files new.input)) old.out new.out result
Answers Help old new result = Closes help_text Done old.out new.out result
Answers Version old new result = Closes version_text Done old.out new.out result
Answers Nothing old new result = Closes usage_line Usage old.out new.out result

-- what it notes beside that, on a sink of its own: a merge alone notes something
abbrev pub Notes : Asked → Devices → Devices → SinkTold → SinkTold → Status → Type 0
Notes (Mergecap decl) old new before after result = NotedAt decl (reads old.files old.input) (reads new.files new.input) before after result
Notes (MergeDated decl event) old new before after result = NotedAt decl (reads old.files old.input) (reads new.files new.input) before after result
Notes _ old new before after result = after ≡ before

-- what a run of these words over these devices prints, notes, reads and answers: the promises of `run`, one after another
pub record RunsSo (ws : List (List ℕ)) (old new : Devices) (before after : SinkTold) (result : Status) : Type 0 where
  pub answers : Answers (asked_of ws) old new result
  pub notes : Notes (asked_of ws) old new before after result
  pub files : Keeps old.files new.files
  pub unread : ReadsNoFile (asked_of ws) → new.files ≡ old.files
  pub input : ReadsNoScript (asked_of ws) → new.input ≡ old.input
  pub complete : IsLawfulInput (asked_of ws) old.files.content old.input.left → IsFaultless old new → IsAnswered result

-- a front of the bytes that were told stands written, where they were told
abbrev pub HasSome : Option (List ℕ) → Option (List ℕ) → Type 0
HasSome None now = Unit {0}
HasSome (Some told) now = (k : ℕ) × (k ≤ length told) × (now ≡ Some (take k told))

-- all that was printed stands written, and the status is the run's; or a write failed behind a front of it, and the status says so;
-- no fault that the run met is forgotten
pub record PassesOn (printed : SinkTold) (status : Status) (now : SinkTold) (result : Status) : Type 0 where
  pub ends : ((result ≡ status) × HasWhole printed.written now.written)
      ⊎ ((result ≡ WriteFault) × HasSome printed.written now.written × Rose printed.faults now.faults)
  pub no_fall : printed.faults ≤ now.faults

-- the run printed this with this status, and its output has all of it, or a front where a write failed; its notes are not held
pub record EndsSo (ws : List (List ℕ)) (old new : Devices) (before after : SinkTold) (result : Status) : Type 0 where
  pub printed : SinkTold
  pub status : Status
  pub runs : RunsSo ws old (devices new.files new.input printed) before after status
  pub ends : PassesOn printed status new.out result
