-- What `widen` and `judge` print and answer.
use Rattle.std.specs.Prelude.{◌≡◌, ◌⊎◌, ℕ, List, codes}
use Rattle.ports.specs.Files.{FilesTold}
use Rattle.line_format.specs.Format.{Answers}
use Rattle.problem_model.specs.Problem.{ProblemLists}
use Rattle.problem_model.specs.Nodes.{Reading, AreReadings}
use Rattle.cert_check.specs.declared.answer.Part.{Part}
use Rattle.cert_check.specs.declared.answer.Reason.{Reason}
use Rattle.cert_check.specs.declared.answer.Answer.TheVariants as answers
use Rattle.cert_check.specs.declared.what.What.{What}
use Rattle.widen.specs.declared.widening.Widening.{Widening}
use Rattle.widen.specs.declared.widening.Widening.TheVariants.{Least, Never}
use Rattle.widen.specs.Named.{SaysWhat}
use Rattle.widen.specs.Least.{IsLeastWidening, HasNoWidening}
use Rattle.widen.specs.Widening.{ShowsWidening, IsJudged}
use Rattle.widen.specs.WideningFormat.{widening_format}
use Rattle.widen.specs.ReadsWidening.{IsWideningTextOf}
use Rattle.widen.specs.Found.{FindsWidening}
use Rattle.problem_commands.specs.Printing.{IsOnlyText}
use Rattle.problem_commands.specs.Refusal.{refused_answer, refused_text_line}
use Rattle.problem_commands.specs.Texts.{SpellsProblem, IsBadProblem, BothHave, MissesOne}
use Rattle.problem_commands.specs.ForProblem.{ForProblem}
use Rattle.problem_commands.specs.Verify.{no_line}
use Rattle.problem_commands.specs.WhatWords.{SaysNothing}
use Rattle.problem_commands.specs.declared.refusal.Refusal.{Refusal}
use Rattle.problem_commands.specs.declared.status.Status.{Status}
use Rattle.problem_commands.specs.declared.status.Status.TheVariants.{Done, No, BadProblem, BadCert, ReadFault, UnknownName}

-- ---- texts
-- the text is that of this widening of the problem, of what is named
abbrev pub SpellsWidening : ProblemLists → What → Widening → List ℕ → Type 0
SpellsWidening p what w text = (readings : List Reading) × AreReadings p readings × IsWideningTextOf p readings what w text

-- the text is that of no widening of p, for this cause
abbrev pub RefusesWidening : ProblemLists → List ℕ → Refusal → Type 0
RefusesWidening p text refusal = (readings : List Reading) × AreReadings p readings × Answers (widening_format p readings) text (refused_answer refusal)

-- what a widening says: that it is the least one, or that there is none
abbrev pub IsTrueOf : What → ProblemLists → Widening → Type 0
IsTrueOf what p (Least extra execution cycle) = IsLeastWidening what p extra
IsTrueOf what p (Never cycle) = HasNoWidening what p

-- ---- widen
-- the text of the least widening of this, with the earliest execution and the contradiction that show it, or that there is none
abbrev pub IsLeastText : ProblemLists → What → List ℕ → Type 0
IsLeastText p what text = (w : Widening) × IsTrueOf what p w × FindsWidening what p w × SpellsWidening p what w text

-- what is printed of a problem
abbrev pub TellsLeast : ProblemLists → What → Status → List ℕ → Type 0
TellsLeast p what status text = (status ≡ Done) × IsLeastText p what text

-- the same of what the words name, or that a name is no clock's
abbrev pub TellsLeastNamed : ProblemLists → List (List ℕ) → Status → List ℕ → Type 0
TellsLeastNamed p ws status text = ((what : What) × SaysWhat p ws what × TellsLeast p what status text) ⊎ (SaysNothing p ws × IsOnlyText (codes "unknown clock\n") UnknownName status text)

-- what `widen` prints, of what the words name, with which status, and when
abbrev pub WideningFound : List ℕ → List (List ℕ) → FilesTold → FilesTold → Status → List ℕ → Type 0
WideningFound problem ws = ForProblem (λ p. TellsLeastNamed p ws) problem

-- ---- judge
-- what `judge` prints of the widening and of what the text names, with which status, and when
abbrev pub WideningJudged : List ℕ → List ℕ → FilesTold → FilesTold → Status → List ℕ → Type 0
WideningJudged problem widening old new Done line = (p : ProblemLists) × (what : What) × (w : Widening)
    × BothHave old.content problem widening (λ text more. SpellsProblem p text × SpellsWidening p what w more × ShowsWidening what p w × IsTrueOf what p w)
    × (line ≡ codes "yes\n")
WideningJudged problem widening old new No line = (p : ProblemLists) × (what : What) × (w : Widening) × (part : Part) × (reason : Reason)
    × BothHave old.content problem widening (λ text more. SpellsProblem p text × SpellsWidening p what w more × (ShowsWidening what p w → ⊥) × IsJudged what p w (answers.No part reason))
    × (line ≡ no_line p part reason)
WideningJudged problem widening old new BadProblem line = IsBadProblem problem old.content line
WideningJudged problem widening old new BadCert line = (p : ProblemLists) × (refusal : Refusal)
    × BothHave old.content problem widening (λ text more. SpellsProblem p text × RefusesWidening p more refusal)
    × (line ≡ refused_text_line (codes "certificate") refusal)
WideningJudged problem widening old new ReadFault line = MissesOne problem widening old new × (line ≡ codes "read fault\n")
WideningJudged problem widening old new _ line = ⊥
