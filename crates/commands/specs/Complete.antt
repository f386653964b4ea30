-- When all that the words of a run ask for is lawful, and how the run then ends.
use Rattle.std.specs.Prelude.{◌≡◌, ◌⊎◌, ◌≤◌, ℕ, ℤ, List, length, Option, IsSomeAnd, All}
use Rattle.ports.specs.Content.{Rose}
use Rattle.ports.specs.Files.{Content}
use Rattle.ports.specs.Lines.{most_taken}
use Rattle.problem_model.specs.Problem.{ProblemLists}
use Rattle.problem_model.specs.Nodes.{Reading, AreReadings}
use Rattle.problem.specs.Line.{HasEvent}
use Rattle.cert.specs.declared.certificate.Cert.{Cert}
use Rattle.cert.specs.ReadsExecution.{IsTextOf}
use Rattle.decl.specs.Declaration.{Declaration}
use Rattle.decl.specs.Walk.{IsDocumentOf}
use Rattle.cert_check.specs.declared.what.What.{What}
use Rattle.widen.specs.declared.widening.Widening.{Widening}
use Rattle.widen.specs.Named.{SaysWhat}
use Rattle.session.specs.Script.{Devices}
use Rattle.commands.specs.Asked.{Asked}
use Rattle.commands.specs.Asked.Asked.{Obey, Solve, Ends, Verify, Session, Trial, Widen, Judge, Blame, Thin, Mergecap, MergeDated, Help, Version, Nothing}
use Rattle.commands.specs.Trials.{IsNumber}
use Rattle.thinning.specs.Named.{IsKnown}
use Rattle.problem_commands.specs.Texts.{SpellsProblem, SpellsCert}
use Rattle.problem_commands.specs.Widening.{SpellsWidening}
use Rattle.problem_commands.specs.declared.status.Status.{Status}
use Rattle.problem_commands.specs.declared.status.Status.TheVariants.{Done, No, Memory, NoMerge}

-- ---- the files
-- the files tell that something is at the path, and that its bytes are such
abbrev pub Holds : Content → List ℕ → (List ℕ → Type 0) → Type 0
Holds files path P = IsSomeAnd files (λ all. IsSomeAnd (all path) P)

-- the file at the path is the text of a problem of which P holds
abbrev pub HoldsProblem : Content → List ℕ → (ProblemLists → Type 0) → Type 0
HoldsProblem files path P = (p : ProblemLists) × Holds files path (SpellsProblem p) × P p

-- the text is that of a value for each node of the problem, whether or not they obey its bounds
abbrev pub IsExecutionText : ProblemLists → List ℕ → Type 0
IsExecutionText p text = (readings : List Reading) × (values : List ℤ) × AreReadings p readings × IsTextOf p readings values text

-- the text is that of a certificate of the problem, whether or not it shows what it should
abbrev pub IsCertText : ProblemLists → List ℕ → Type 0
IsCertText p text = (c : Cert) × SpellsCert p c text

-- the text is that of a widening of the problem, whether or not it shows what it should
abbrev pub IsWideningText : ProblemLists → List ℕ → Type 0
IsWideningText p text = (what : What) × (w : Widening) × SpellsWidening p what w text

-- the file at the path declares something, and the script is not too long
abbrev pub HasScript : Content → List ℕ → Option (List ℕ) → Type 0
HasScript files decl script = ((d : Declaration) × Holds files decl (λ bytes. IsDocumentOf bytes d)) × IsSomeAnd script (λ bytes. length bytes ≤ most_taken)

-- ---- the run
-- something that there is was asked for; no file that is named is absent or refused, and events and clocks by name are ones of the
-- problem; a script is not too long
abbrev pub IsLawfulInput : Asked → Content → Option (List ℕ) → Type 0
IsLawfulInput (Obey problem exec) files script = HoldsProblem files problem (λ p. Holds files exec (IsExecutionText p))
IsLawfulInput (Solve problem) files script = HoldsProblem files problem (λ p. Unit {0})
IsLawfulInput (Ends problem first second) files script = HoldsProblem files problem (λ p. ((from : ℕ) × HasEvent p from first) × ((to : ℕ) × HasEvent p to second))
IsLawfulInput (Verify problem cert) files script = HoldsProblem files problem (λ p. Holds files cert (IsCertText p))
IsLawfulInput (Session decl) files script = HasScript files decl script
IsLawfulInput (Trial number) files script = (n : ℕ) × IsNumber n number
IsLawfulInput (Widen problem ws) files script = HoldsProblem files problem (λ p. (what : What) × SaysWhat p ws what)
IsLawfulInput (Judge problem widening) files script = HoldsProblem files problem (λ p. Holds files widening (IsWideningText p))
IsLawfulInput (Blame problem) files script = HoldsProblem files problem (λ p. Unit {0})
IsLawfulInput (Thin problem names) files script = HoldsProblem files problem (λ p. All (IsKnown p) names)
IsLawfulInput (Mergecap decl) files script = HasScript files decl script
IsLawfulInput (MergeDated decl event) files script = HasScript files decl script
IsLawfulInput Help files script = Unit {0}
IsLawfulInput Version files script = Unit {0}
IsLawfulInput Nothing files script = ⊥

-- no count of faults rose, of files, input and output
pub record IsFaultless (old new : Devices) : Type 0 where
  pub files : Rose old.files.faults new.files.faults → ⊥
  pub input : Rose old.input.faults new.input.faults → ⊥
  pub out : Rose old.out.faults new.out.faults → ⊥

-- the status is 0, 1 or 9, or 12, which has the reason why packets are not merged
abbrev pub IsAnswered : Status → Type 0
IsAnswered status = (status ≡ Done) ⊎ (status ≡ No) ⊎ (status ≡ Memory) ⊎ (status ≡ NoMerge)
