-- What `session` prints and answers.
use Rattle.std.specs.Prelude.{◌≡◌, ◌⊎◌, ℕ, List, [], ◌∷◌, ◌++◌, codes}
use Rattle.atto.specs.Decimal.{decimal_of}
use Rattle.ports.specs.Content.{Rose, Appends, AppendsPrefix, SinkTold}
use Rattle.ports.specs.Files.{Content, FilesTold, HasBytes}
use Rattle.line_format.specs.Words.{line_of}
use Rattle.decl.specs.declared.errors.DeclError.TheVariants as faults
use Rattle.decl.specs.declared.errors.Section.{Section}
use Rattle.decl.specs.declared.errors.Section.TheVariants.{Top, Hosts, Labels, Links}
use Rattle.decl.specs.Declaration.{Declaration}
use Rattle.decl.specs.Walk.{IsDocumentOf, IsFirstFault}
use Rattle.session.specs.Script.{Devices, OfScript, IsDone, IsScriptFault, IsTooLong, IsCutOff, IsInterrupted}
use Rattle.session.specs.declared.ended.Ended.{Ended}
use Rattle.session.specs.declared.ended.Ended.TheVariants as ended
use Rattle.problem_commands.specs.Printing.{Closes, IsOnlyText}
use Rattle.problem_commands.specs.Texts.{IsMissed}
use Rattle.commands.specs.declared.declaration.Undeclared.{Undeclared}
use Rattle.commands.specs.declared.declaration.Undeclared.TheVariants as causes
use Rattle.problem_commands.specs.declared.status.Status.{Status}
use Rattle.problem_commands.specs.declared.status.Status.TheVariants.{Done, BadDecl, ReadFault, WriteFault, Memory, ScriptLimit}

-- ---- the declaration
-- the word of a section
abbrev pub section_word : Section → List ℕ
section_word Top = codes "top"
section_word Hosts = codes "hosts"
section_word Labels = codes "labels"
section_word Links = codes "links"

-- the line that says what is wrong with a declaration, by its first fault
abbrev pub declaration_line : ℕ → Section → ℕ → List ℕ
declaration_line number section index = line_of (codes "declaration" ∷ decimal_of number ∷ section_word section ∷ decimal_of index ∷ [])

-- the file at the path declares this
abbrev pub IsDeclaredAt : Content → List ℕ → Declaration → Type 0
IsDeclaredAt files path d = HasBytes files path (λ bytes. IsDocumentOf bytes d)

-- this is the first fault of the file at the path
abbrev pub IsFaultAt : Content → List ℕ → ℕ → Section → ℕ → Type 0
IsFaultAt files path number section index = HasBytes files path (λ bytes. IsFirstFault bytes (faults.Fault number section index))

-- why the file at the path gave no declaration
abbrev pub IsUndeclared : List ℕ → FilesTold → FilesTold → Undeclared → Type 0
IsUndeclared path old new (causes.Faulty number section index) = IsFaultAt old.content path number section index
IsUndeclared path old new causes.Unread = IsMissed path old new
IsUndeclared path old new causes.Memory = Unit {0}

-- what is printed where there is no declaration, and with which status
abbrev pub TellsUndeclared : Undeclared → Status → List ℕ → Type 0
TellsUndeclared (causes.Faulty number section index) = IsOnlyText (declaration_line number section index) BadDecl
TellsUndeclared causes.Unread = IsOnlyText (codes "read fault\n") ReadFault
TellsUndeclared causes.Memory = λ status text. ⊥

-- ---- session
-- the lines of a script ended, and what is printed behind their replies
abbrev pub ClosesScript : Ended → SinkTold → SinkTold → Status → Type 0
ClosesScript ended.Done old new result = (result ≡ Done) × (new ≡ old)
ClosesScript ended.ReadFault old new result = Closes (codes "read fault\n") ReadFault old new result
ClosesScript ended.Limit old new result = Closes (codes "script limit\n") ScriptLimit old new result
ClosesScript ended.WriteFault old new result = (result ≡ WriteFault) × (new ≡ old)
ClosesScript ended.Memory old new result = (result ≡ Memory) × (new ≡ old)

-- what stands written so, with this status: where there is no declaration a line alone, and nothing of the script was read; else
-- the replies, and behind them a last line where the script was not read to its end
abbrev pub TellsSession : List ℕ → Devices → Devices → (List ℕ → Type 0) → Status → Type 0
TellsSession path old new IsWritten Done = (d : Declaration) × IsDeclaredAt old.files.content path d × IsDone d old new IsWritten
TellsSession path old new IsWritten BadDecl = (number : ℕ) × (section : Section) × (index : ℕ) × IsFaultAt old.files.content path number section index
    × (new.input ≡ old.input) × IsWritten (declaration_line number section index)
TellsSession path old new IsWritten ReadFault = (IsMissed path old.files new.files × (new.input ≡ old.input) × IsWritten (codes "read fault\n"))
    ⊎ ((d : Declaration) × IsDeclaredAt old.files.content path d × IsScriptFault d old new (λ replies. IsWritten (replies ++ codes "read fault\n")))
TellsSession path old new IsWritten ScriptLimit = (d : Declaration) × IsDeclaredAt old.files.content path d
    × IsTooLong d old new (λ replies. IsWritten (replies ++ codes "script limit\n"))
TellsSession path old new IsWritten _ = ⊥

-- a write failed, behind a front of what goes with some status, or of the replies to the first lines of the script
abbrev pub FailsSession : List ℕ → Devices → Devices → Type 0
FailsSession path old new = Rose old.out.faults new.out.faults
    × (((status : Status) × TellsSession path old new (AppendsPrefix old.out.written new.out.written) status)
    ⊎ ((d : Declaration) × IsDeclaredAt old.files.content path d × IsCutOff d old new))

-- memory ran out: nothing is written, or the replies to the lines before one that may ask for memory
abbrev pub LacksMemory : List ℕ → Devices → Devices → Type 0
LacksMemory path old new = (new.out ≡ old.out)
    ⊎ ((d : Declaration) × IsDeclaredAt old.files.content path d × OfScript old.input.left (IsInterrupted d old new (Appends old.out.written new.out.written)))

-- what `session` prints, and when it ends with which status
abbrev pub Conducted : List ℕ → Devices → Devices → Status → Type 0
Conducted path old new result = TellsSession path old new (Appends old.out.written new.out.written) result
    ⊎ ((result ≡ WriteFault) × FailsSession path old new) ⊎ ((result ≡ Memory) × LacksMemory path old new)
