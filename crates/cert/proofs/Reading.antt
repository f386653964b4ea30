-- From the lines of a text to what the whole text answers.
use Rattle.std.proofs.Common.{codes, ◌↔◌, ◌∷◌, ◌≡◌, ◌≤◌, ◌+◌, ℕ, List, [], ◌++◌, length, Some, Ok, Err, Result, refl, sym, ◌∙◌, ap, subst, arith, ℤ, append_assoc}
use Rattle.std.proofs.lemmas.List.{append-nil}
use Rattle.line_format.specs.Words.{line_of}
use Rattle.line_format.specs.Cut.{cut}
use Rattle.line_format.specs.Format.{Answers, Takes, most_text_bytes}
use Rattle.line_format.specs.Format.Answer.{Found}
use Rattle.line_format.specs.declared.fault.FaultKind.{FaultKind}
use Rattle.line_format.specs.declared.fault.FaultKind.TheVariants as kinds
use Rattle.line_format.specs.declared.fault.LineError.{LineError}
use Rattle.line_format.specs.declared.fault.LineError.TheVariants as lines
use Rattle.line_format.specs.declared.fault.Taken.TheVariants as taken
use Rattle.line_format.proofs.Reading.{Stands, fault_answers, end_answers, stands_on, stands_first}
use Rattle.problem_model.specs.declared.items.Clock.{Clock}
use Rattle.problem_model.specs.declared.items.Event.{Event}
use Rattle.problem_model.specs.Problem.{ProblemLists}
use Rattle.problem_model.specs.Nodes.{Reading, nodes_of}
use Rattle.problem_model.specs.ExecutionText.{execution_head, value_lines}
use Rattle.cert.specs.ExecutionFormat.{execution_format, AreValues}
use Rattle.cert.specs.ReadsExecution.{IsTextOf, ReadsOver, error_at}
use Rattle.cert.specs.declared.error.CertError.{CertError}
use Rattle.cert.proofs.Forms.{line_lacks}
use Rattle.cert.proofs.Taking.{value_lines-nil}

module _ (p : ProblemLists) (readings : List Reading) where
  abbrev Is : List ℕ → List ℕ → List ℤ → ℕ → Type 0
  Is = Stands (execution_format p readings) line_lacks

  pub first_stands : (lines : List ℕ) → length (line_of execution_head ++ lines) ≤ most_text_bytes → Is (line_of execution_head ++ lines) lines [] 2
  first_stands lines short =
      let head = ap (λ (t : List ℕ). line_of execution_head ++ t) (value_lines-nil p (nodes_of p readings)) ∙ append-nil (line_of execution_head) in
      stands_first (execution_format p readings) line_lacks (line_of execution_head ++ lines) lines [] short refl head refl (record { fit = λ k d inside. absurd (omega (arith, inside)); few = omega arith })

  kind_reads : (text rest body after : List ℕ) (s t : List ℤ) (n : ℕ) (kind : FaultKind) → Is text rest s n → cut 10 rest ≡ Some (body, after) → Takes (execution_format p readings) s body (Err (lines.Fault kind)) t →
      ReadsOver p readings text (Err (error_at (lines.Fault kind) n))
  kind_reads text rest body after s t n kinds.Syntax stands parts r = fault_answers (execution_format p readings) line_lacks text rest body after s t n kinds.Syntax stands parts r
  kind_reads text rest body after s t n kinds.Name stands parts r = fault_answers (execution_format p readings) line_lacks text rest body after s t n kinds.Name stands parts r
  kind_reads text rest body after s t n kinds.Range stands parts r = fault_answers (execution_format p readings) line_lacks text rest body after s t n kinds.Range stands parts r
  kind_reads text rest body after s t n kinds.Limit stands parts r = r.4.2 tt

  pub fault_reads : (text rest body after : List ℕ) (s t : List ℤ) (n : ℕ) (e : LineError) → Is text rest s n → cut 10 rest ≡ Some (body, after) → Takes (execution_format p readings) s body (Err e) t →
      ReadsOver p readings text (Err (error_at e n))
  fault_reads text rest body after s t n lines.Memory stands parts r = tt
  fault_reads text rest body after s t n (lines.Fault kind) stands parts r = kind_reads text rest body after s t n kind stands parts r

  pub found_is : (text : List ℕ) (values : List ℤ) → IsTextOf p readings values text ↔ Answers (execution_format p readings) text (Found values)
  found_is text values =
      let whole = append_assoc (line_of execution_head) (value_lines p (nodes_of p readings) values) (line_of (codes "end" ∷ [])) in (
        λ is. (is.0, record { fit = is.2; few = omega (arith, is.1) }, is.1, is.3 ∙ sym whole),
        λ found. (found.0, found.2, found.1.fit, found.3 ∙ whole),
      )

  pub end_reads : (text rest body after : List ℕ) (s t : List ℤ) (n : ℕ) → Is text rest s n → cut 10 rest ≡ Some (body, after) → Takes (execution_format p readings) s body (Ok taken.End) t → after ≡ [] →
      ReadsOver p readings text (Ok t)
  end_reads text rest body after s t n stands parts r none =
      (found_is text t).1 (end_answers (execution_format p readings) line_lacks text rest body after s t n stands parts r none)

  -- the lines so far are the head and one for each value
  pub more_stands : (text rest body after : List ℕ) (s t : List ℤ) → Is text rest s (length s + 2) → cut 10 rest ≡ Some (body, after) → Takes (execution_format p readings) s body (Ok taken.Line) t → AreValues (length (nodes_of p readings)) t →
      Is text after t (length t + 2)
  more_stands text rest body after s t stands parts grows are =
      let on = stands_on (execution_format p readings) line_lacks text rest body after s t (length s + 2) stands parts grows are in
      record { is = on.is; number = omega arith; sound = are; short = stands.short }

-- only the names and the readings count, and there is one list of readings
pub reads_over : (p q : ProblemLists) (a b : List Reading) (text : List ℕ) (r : Result (List ℤ) CertError) → q.clocks ≡ p.clocks → q.events ≡ p.events → a ≡ b → ReadsOver q a text r → ReadsOver p b text r
reads_over p q a b text r clocks events same reads =
    let first = subst (λ (cs : List Clock). ReadsOver (record { clocks = cs; follows = []; events = q.events; messages = [] }) a text r) clocks reads in
    let second = subst (λ (es : List Event). ReadsOver (record { clocks = p.clocks; follows = []; events = es; messages = [] }) a text r) events first in
    subst (λ (rs : List Reading). ReadsOver p rs text r) same second
