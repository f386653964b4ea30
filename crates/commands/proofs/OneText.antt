-- A text has one answer: what spells a value is refused for no cause.
use Rattle.std.proofs.Common.{◌≡◌, ℕ, List, Some, None, Ok, sym, ◌∙◌, ap, subst}
use Rattle.std.specs.Prelude.{◌↔◌}
use Rattle.line_format.specs.Format.{Answer, Answers}
use Rattle.line_format.specs.Format.Answer.{Found}
use Rattle.problem_model.specs.Problem.{ProblemLists, IsProblem}
use Rattle.problem_model.specs.Nodes.{Reading}
use Rattle.problem_model.proofs.OneList.{readings_one}
use Rattle.problem.specs.Reading.{AnswersProblem, Reads}
use Rattle.cert.specs.CertificateFormat.{certificate_format, said}
use Rattle.cert.specs.ExecutionFormat.{execution_format}
use Rattle.cert.proofs.Executions.{execution_one}
use Rattle.cert.proofs.Reading as executions
use Rattle.cert.proofs.CertReadable.{certificate_one}
use Rattle.cert.proofs.CertReading as certificates
use Rattle.decl.specs.Causes.{first}
use Rattle.decl.specs.Declaration.{Declaration}
use Rattle.decl.specs.Walk.{IsDocumentOf, IsFirstFault}
use Rattle.decl.specs.declared.errors.DeclError.{DeclError}
use Rattle.decl.specs.declared.errors.DeclError.TheVariants as faults
use Rattle.decl.specs.declared.errors.Section.{Section}
use Rattle.widen.specs.WideningFormat as widenings
use Rattle.widen.proofs.Readable.{widening_one}
use Rattle.widen.proofs.Reading as widened
use Rattle.commands.specs.Complete.{IsExecutionText, IsCertText, IsWideningText}
use Rattle.problem_commands.specs.Refusal.{refused_answer}
use Rattle.problem_commands.specs.Texts.{SpellsProblem, RefusesProblem, RefusesExecution, RefusesCert}
use Rattle.problem_commands.specs.Widening.{RefusesWidening}
use Rattle.problem_commands.specs.declared.refusal.Refusal.{Refusal}
use Rattle.problem_commands.specs.declared.refusal.Refusal.TheVariants as refusals

-- what a text says is no refusal
said_or_refused : {State : Type 0} (s : State) (refusal : Refusal) → Found s ≡ refused_answer refusal → ⊥
said_or_refused s (refusals.Faulty kind line) same = absurd cc
said_or_refused s refusals.Long same = absurd cc

found_one : (p q : ProblemLists) → Found p ≡ Found q → p ≡ q
found_one p q same = cc

-- the law of `problem`: a text has one answer, and it is a problem exactly where it reads as one
pub record HaveOneAnswer : Type 0 where
  pub one : (text : List ℕ) (a : Answer ProblemLists) (b : Answer ProblemLists) → AnswersProblem text a → AnswersProblem text b → a ≡ b
  pub found : (text : List ℕ) (p : ProblemLists) → AnswersProblem text (Found p) ↔ Reads text (Ok p)

module _ (law : HaveOneAnswer) where
  pub problems_one : (p q : ProblemLists) (text : List ℕ) → SpellsProblem p text → SpellsProblem q text → p ≡ q
  problems_one p q text x y = found_one p q (law.one text (Found p) (Found q) ((law.found text p).1 x) ((law.found text q).1 y))

  pub no_bad_problem : (p : ProblemLists) (text : List ℕ) (refusal : Refusal) → SpellsProblem p text → RefusesProblem text refusal → ⊥
  no_bad_problem p text refusal is refused = said_or_refused p refusal (law.one text (Found p) (refused_answer refusal) ((law.found text p).1 is) refused)

pub no_bad_execution : (p : ProblemLists) (text : List ℕ) (refusal : Refusal) → IsProblem p → IsExecutionText p text → RefusesExecution p text refusal → ⊥
no_bad_execution p text refusal lawful (readings, values, are, is) (others, are', refused) =
    let found = (executions.found_is p readings text values).0 is in
    let same = subst (λ (rs : List Reading). Answers (execution_format p rs) text (refused_answer refusal)) (readings_one p others readings are' are) refused in
    said_or_refused values refusal (execution_one p readings text (Found values) (refused_answer refusal) lawful are found same)

pub no_bad_cert : (p : ProblemLists) (text : List ℕ) (refusal : Refusal) → IsProblem p → IsCertText p text → RefusesCert p text refusal → ⊥
no_bad_cert p text refusal lawful (c, (readings, are, is)) (others, are', refused) =
    let found = (certificates.found_is p readings are c text).0 is in
    let same = subst (λ (rs : List Reading). Answers (certificate_format p rs) text (refused_answer refusal)) (readings_one p others readings are' are) refused in
    said_or_refused (said c) refusal (certificate_one p readings text (Found (said c)) (refused_answer refusal) lawful are found same)

pub no_bad_widening : (p : ProblemLists) (text : List ℕ) (refusal : Refusal) → IsProblem p → IsWideningText p text → RefusesWidening p text refusal → ⊥
no_bad_widening p text refusal lawful (what, w, (readings, are, is)) (others, are', refused) =
    let found = (widened.found_is p readings are what w text).0 is in
    let same = subst (λ (rs : List Reading). Answers (widenings.widening_format p rs) text (refused_answer refusal)) (readings_one p others readings are' are) refused in
    said_or_refused (widenings.said what w) refusal (widening_one p readings text (Found (widenings.said what w)) (refused_answer refusal) lawful are found same)

-- a declaration has no first fault
none_or_some : (e : DeclError) → None ≡ Some e → ⊥
none_or_some e same = absurd cc

pub no_bad_decl : (bytes : List ℕ) (d : Declaration) (number : ℕ) (section : Section) (index : ℕ) → IsDocumentOf bytes d → IsFirstFault bytes (faults.Fault number section index) → ⊥
no_bad_decl bytes d number section index is fault = none_or_some (faults.Fault number section index) (sym (ap first is.0) ∙ fault)
