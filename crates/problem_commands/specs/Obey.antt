-- What `obey` prints and answers.
use Rattle.std.specs.Prelude.{◌≡◌, ℕ, ℤ, List, codes}
use Rattle.ports.specs.Files.{FilesTold}
use Rattle.problem_model.specs.declared.items.Bound.{Bound}
use Rattle.problem_model.specs.Problem.{ProblemLists}
use Rattle.problem_model.specs.Bounds.{Times, IsExecution}
use Rattle.problem_model.specs.ShortList.{IsFirstBroken}
use Rattle.problem_model.specs.BoundText.{broken_line}
use Rattle.cert_check.specs.declared.verdict.Verdict.{Verdict}
use Rattle.problem.specs.Listing.{listing_of}
use Rattle.cert.specs.Listed.{HasNames}
use Rattle.cert_check.specs.declared.verdict.Verdict.TheVariants.{Obeys, Broken}
use Rattle.problem_commands.specs.Printing.{IsOnlyText}
use Rattle.problem_commands.specs.Refusal.{refused_text_line}
use Rattle.problem_commands.specs.Texts.{SpellsProblem, SpellsExecution, RefusesExecution, IsBadProblem, BothHave, MissesOne}
use Rattle.problem_commands.specs.declared.refusal.Refusal.{Refusal}
use Rattle.problem_commands.specs.declared.status.Status.{Status}
use Rattle.problem_commands.specs.declared.status.Status.TheVariants.{Done, No, BadProblem, BadExec, ReadFault}

-- the clocks or the events of the bound that a verdict tells of have names
abbrev pub NamesVerdict : ProblemLists → Verdict → Type 0
NamesVerdict p Obeys = Unit {0}
NamesVerdict p (Broken b weight difference) = HasNames (listing_of p) b

-- what is printed of a verdict, and with which status
abbrev pub TellsVerdict : ProblemLists → Verdict → Status → List ℕ → Type 0
TellsVerdict p Obeys = IsOnlyText (codes "obeys\n") Done
TellsVerdict p (Broken b weight difference) = IsOnlyText (broken_line p b weight difference) No

-- what `obey` prints, with which status, and when
abbrev pub Obeyed : List ℕ → List ℕ → FilesTold → FilesTold → Status → List ℕ → Type 0
Obeyed problem exec old new Done line = (p : ProblemLists) × (x : Times)
    × BothHave old.content problem exec (λ text more. SpellsProblem p text × SpellsExecution p x more × IsExecution p x)
    × (line ≡ codes "obeys\n")
Obeyed problem exec old new No line = (p : ProblemLists) × (x : Times) × (b : Bound) × (weight : ℤ) × (difference : ℤ)
    × BothHave old.content problem exec (λ text more. SpellsProblem p text × SpellsExecution p x more × IsFirstBroken p x b weight difference)
    × (line ≡ broken_line p b weight difference)
Obeyed problem exec old new BadProblem line = IsBadProblem problem old.content line
Obeyed problem exec old new BadExec line = (p : ProblemLists) × (refusal : Refusal)
    × BothHave old.content problem exec (λ text more. SpellsProblem p text × RefusesExecution p more refusal)
    × (line ≡ refused_text_line (codes "execution") refusal)
Obeyed problem exec old new ReadFault line = MissesOne problem exec old new × (line ≡ codes "read fault\n")
Obeyed problem exec old new _ line = ⊥
