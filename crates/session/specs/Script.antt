-- A session over the lines of a script, and how it ends.
use Rattle.std.specs.Prelude.{◌≡◌, ◌⊎◌, ◌<◌, ◌≤◌, nat_le, if◌then◌else◌, ℕ, List, [], ◌∷◌, ◌++◌, length, take, Option, Some, None}
use Rattle.std.specs.List.{concat}
use Rattle.ports.specs.Content.{Rose, Appends, AppendsPrefix, SourceTold, SinkTold}
use Rattle.ports.specs.Files.{FilesTold}
use Rattle.decl.specs.Declaration.{Declaration}
use Rattle.ports.specs.Lines.{whole_lines, lines_of, most_taken}
use Rattle.replies.specs.Commands.{AsksForMemory}
use Rattle.replies.specs.Reply.{State, Found}
use Rattle.replies.specs.Sessions.{Session, AreCounted, start}
use Rattle.session.specs.declared.ended.Ended.{Ended}
use Rattle.session.specs.declared.ended.Ended.TheVariants.{Done, ReadFault, Limit, WriteFault, Memory}

-- what files, input and output tell at one moment
pub record Devices : Type 0 where
  pub files : FilesTold
  pub input : SourceTold
  pub out : SinkTold

-- these three together
abbrev pub devices : FilesTold → SourceTold → SinkTold → Devices
devices files input out = record { files = files; input = input; out = out }

-- one reply to each of these lines, in order, and they stand written so
pub record Replied (d : Declaration) (old new : Devices) (lines : List (List ℕ)) (IsWritten : List ℕ → Type 0) : Type 0 where
  pub founds : List Found
  pub texts : List (List ℕ)
  pub state : State
  pub session : Session d old.files.content (start d) lines founds texts state
  pub counted : AreCounted founds old.files new.files
  pub written : IsWritten (concat texts)

-- a fact of the script, where it is told
abbrev pub OfScript : Option (List ℕ) → (List ℕ → Type 0) → Type 0
OfScript None P = Unit {0}
OfScript (Some script) P = P script

-- the script was read to its end, so that nothing of it is left, and the replies to its lines stand written so
abbrev pub IsDone : Declaration → Devices → Devices → (List ℕ → Type 0) → Type 0
IsDone d old new IsWritten = OfScript old.input.left (λ script. (length script ≤ most_taken) × (new.input.left ≡ Some []) × Replied d old new (lines_of script) IsWritten)

-- so much of a script was taken, and the replies to its whole lines stand written so
pub record IsTakenFromScript (d : Declaration) (old new : Devices) (IsWritten : List ℕ → Type 0) (script : List ℕ) : Type 0 where
  pub taken : List ℕ
  pub rest : List ℕ
  pub is : script ≡ taken ++ rest
  pub left : new.input.left ≡ Some rest
  pub short : length taken ≤ most_taken
  pub replied : Replied d old new (whole_lines taken) IsWritten

-- reading the script failed, and the replies to the whole lines that were taken stand written so
abbrev pub IsScriptFault : Declaration → Devices → Devices → (List ℕ → Type 0) → Type 0
IsScriptFault d old new IsWritten = Rose old.input.faults new.input.faults × OfScript old.input.left (IsTakenFromScript d old new IsWritten)

-- the script has more than 2^30 bytes, and the replies to the whole lines of its first 2^30 stand written so
abbrev pub IsTooLong : Declaration → Devices → Devices → (List ℕ → Type 0) → Type 0
IsTooLong d old new IsWritten = OfScript old.input.left (λ script. (most_taken < length script) × Replied d old new (whole_lines (take most_taken script)) IsWritten)

-- the lines that have replies where nothing fails: those of a script, or where it is too long the whole ones of its
-- first 2^30 bytes
abbrev pub lines_within : List ℕ → List (List ℕ)
lines_within script = if nat_le (length script) most_taken then lines_of script else whole_lines (take most_taken script)

-- the replies to the first of these lines stand written so
pub record IsScriptBegun (d : Declaration) (old new : Devices) (IsWritten : List ℕ → Type 0) (script : List ℕ) : Type 0 where
  pub lines : List (List ℕ)
  pub more : List (List ℕ)
  pub are : lines_within script ≡ lines ++ more
  pub replied : Replied d old new lines IsWritten

-- a write failed, and a front of the replies to the first of these lines is written
abbrev pub IsCutOff : Declaration → Devices → Devices → Type 0
IsCutOff d old new = Rose old.out.faults new.out.faults × OfScript old.input.left (IsScriptBegun d old new (AppendsPrefix old.out.written new.out.written))

-- memory ran out in a line that may ask for it: the replies to the lines before it stand written so, and nothing of its own
pub record IsInterrupted (d : Declaration) (old new : Devices) (IsWritten : List ℕ → Type 0) (script : List ℕ) : Type 0 where
  pub lines : List (List ℕ)
  pub line : List ℕ
  pub more : List (List ℕ)
  pub are : lines_within script ≡ lines ++ line ∷ more
  pub asks : AsksForMemory line
  pub replied : Replied d old new lines IsWritten

-- memory ran out: nothing is written, or it did so in a line that may ask for it
abbrev pub IsOutOfMemory : Declaration → Devices → Devices → (List ℕ → Type 0) → Type 0
IsOutOfMemory d old new IsWritten = (new.out ≡ old.out) ⊎ OfScript old.input.left (IsInterrupted d old new IsWritten)

-- how a session over the script ended, and what is written
abbrev pub ScriptAnswered : Declaration → Devices → Devices → Ended → Type 0
ScriptAnswered d old new Done = IsDone d old new (Appends old.out.written new.out.written)
ScriptAnswered d old new ReadFault = IsScriptFault d old new (Appends old.out.written new.out.written)
ScriptAnswered d old new Limit = IsTooLong d old new (Appends old.out.written new.out.written)
ScriptAnswered d old new WriteFault = IsCutOff d old new
ScriptAnswered d old new Memory = IsOutOfMemory d old new (Appends old.out.written new.out.written)
