-- Why a file gave no value, and how that is told.
use Rattle.std.specs.Prelude.{◌≡◌, ◌<◌, ℕ, List, length, codes}
use Rattle.ports.specs.Files.{FilesTold, HasBytes}
use Rattle.line_format.specs.Format.{most_text_bytes}
use Rattle.line_format.specs.declared.fault.FaultKind.TheVariants as kinds
use Rattle.problem.specs.declared.errors.ProblemError.{ProblemError}
use Rattle.problem.specs.declared.errors.ProblemError.TheVariants as problems
use Rattle.cert.specs.declared.error.CertError.{CertError}
use Rattle.cert.specs.declared.error.CertError.TheVariants as certs
use Rattle.problem_commands.specs.Printing.{IsOnlyText}
use Rattle.problem_commands.specs.Refusal.{refused_text_line}
use Rattle.problem_commands.specs.Texts.{IsMissed}
use Rattle.problem_commands.specs.declared.refusal.Refusal.{Refusal}
use Rattle.problem_commands.specs.declared.refusal.Refusal.TheVariants as refusals
use Rattle.problem_commands.specs.declared.status.Status.{Status}
use Rattle.problem_commands.specs.declared.status.Status.TheVariants.{ReadFault}
use Rattle.problem_commands.specs.declared.texts.Unread.{Unread}
use Rattle.problem_commands.specs.declared.texts.Unread.TheVariants.{Refused, Fault, Memory}

-- the text is too long
abbrev pub IsLong : List ℕ → Refusal → Type 0
IsLong text refusal = (refusal ≡ refusals.Long) × (most_text_bytes < length text)

-- the text is refused, or memory ran out
abbrev pub IsRefusedFor : (List ℕ → Refusal → Type 0) → List ℕ → Unread → Type 0
IsRefusedFor Refuses text (Refused refusal) = Refuses text refusal
IsRefusedFor Refuses text Fault = ⊥
IsRefusedFor Refuses text Memory = Unit {0}

-- the text of the file is refused, or the file was not read, or memory ran out
abbrev pub IsUnread : (List ℕ → Refusal → Type 0) → List ℕ → FilesTold → FilesTold → Unread → Type 0
IsUnread Refuses path old new (Refused refusal) = HasBytes old.content path (λ text. Refuses text refusal)
IsUnread Refuses path old new Fault = IsMissed path old new
IsUnread Refuses path old new Memory = Unit {0}

-- what is printed of a file that gave no value, and with which status: the kind of its text, and the status of a refusal
abbrev pub TellsUnread : Unread → List ℕ → Status → Status → List ℕ → Type 0
TellsUnread (Refused refusal) kind refused = IsOnlyText (refused_text_line kind refusal) refused
TellsUnread Fault kind refused = IsOnlyText (codes "read fault\n") ReadFault
TellsUnread Memory kind refused = λ status text. ⊥

-- an error of reading a problem, as the program tells it
abbrev pub unread_problem : ProblemError → Unread
unread_problem (problems.Syntax line) = Refused (refusals.Faulty kinds.Syntax line)
unread_problem (problems.Name line) = Refused (refusals.Faulty kinds.Name line)
unread_problem (problems.Range line) = Refused (refusals.Faulty kinds.Range line)
unread_problem (problems.Limit line) = Refused (refusals.Faulty kinds.Limit line)
unread_problem problems.Long = Refused refusals.Long
unread_problem problems.Memory = Memory

-- an error of reading an execution or a certificate, as the program tells it
abbrev pub unread_cert : CertError → Unread
unread_cert (certs.Syntax line) = Refused (refusals.Faulty kinds.Syntax line)
unread_cert (certs.Name line) = Refused (refusals.Faulty kinds.Name line)
unread_cert (certs.Range line) = Refused (refusals.Faulty kinds.Range line)
unread_cert (certs.Limit line) = Refused (refusals.Faulty kinds.Limit line)
unread_cert certs.Long = Refused refusals.Long
unread_cert certs.Memory = Memory
