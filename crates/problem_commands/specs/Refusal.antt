-- Why a text is refused, and how that is printed.
use Rattle.std.specs.Prelude.{ℕ, List, [], ◌∷◌}
use Rattle.atto.specs.Decimal.{decimal_of}
use Rattle.line_format.specs.Words.{line_of}
use Rattle.line_format.specs.Format.{Answer}
use Rattle.line_format.specs.Format.Answer.{Faulty as FaultyAnswer, Long as LongAnswer}
use Rattle.line_format.specs.declared.fault.FaultKind.{FaultKind}
use Rattle.line_format.specs.declared.fault.FaultKind.TheVariants.{Syntax, Name, Range, Limit}
use Rattle.problem_commands.specs.declared.refusal.Refusal.{Refusal}
use Rattle.problem_commands.specs.declared.refusal.Refusal.TheVariants.{Faulty, Long}

-- the number of a kind of fault
abbrev pub kind_number : FaultKind → ℕ
kind_number Syntax = 1
kind_number Name = 2
kind_number Range = 3
kind_number Limit = 4

-- the number of the cause that is printed
abbrev pub printed_cause : Refusal → ℕ
printed_cause (Faulty kind line) = kind_number kind
printed_cause Long = 5

-- the line that is printed; a text that is too long has none
abbrev pub printed_line : Refusal → ℕ
printed_line (Faulty kind line) = line
printed_line Long = 0

-- what reading the text answers
abbrev pub refused_answer : {State : Type 0} → Refusal → Answer State
refused_answer (Faulty kind line) = FaultyAnswer kind line
refused_answer Long = LongAnswer

-- the line that says which text is refused and why
abbrev pub refused_text_line : List ℕ → Refusal → List ℕ
refused_text_line kind r = line_of (kind ∷ decimal_of (printed_cause r) ∷ decimal_of (printed_line r) ∷ [])
