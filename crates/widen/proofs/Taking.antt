-- What taking a line does to what is said so far.
use Rattle.std.proofs.Common.{◌≡◌, ℕ, List, [], ◌∷◌, ◌++◌, Option, Some, None, Result, Ok, Err, ap, ℤ}
use Rattle.line_format.specs.Words.{words}
use Rattle.line_format.specs.Format.{Format, Takes, FaultIn}
use Rattle.line_format.specs.declared.fault.FaultKind.TheVariants as kinds
use Rattle.line_format.specs.declared.fault.LineError.{LineError}
use Rattle.line_format.specs.declared.fault.LineError.TheVariants as errors
use Rattle.line_format.specs.declared.fault.Taken.{Taken}
use Rattle.line_format.specs.declared.fault.Taken.TheVariants as taken
use Rattle.problem_model.specs.Problem.{ProblemLists}
use Rattle.problem_model.specs.Nodes.{Reading}
use Rattle.cert.specs.declared.chain.Step.{Step}
use Rattle.cert.specs.ExecutionFormat.{ExecutionLine, execution_format}
use Rattle.cert.specs.ExecutionFormat.ExecutionLine.{EventLine, ReadingLine, EndLine}
use Rattle.cert.specs.CertificateFormat.{certificate_format}
use Rattle.cert.specs.CertificateFormat.CertLine.{CycleLine, RunLine, EndsLine, SideLine, StepLine, InsideLine, NodeLine}
use Rattle.cert.specs.CertificateFormat.Said.{CycleSaid}
use Rattle.cert_check.specs.declared.what.What.{What}
use Rattle.widen.specs.WideningFormat.{WideningLine, WideningSaid, IsWhole, MayBegin, MayRun, MayStand, widening_format}
use Rattle.widen.specs.WideningFormat.WideningLine.{LeastLine, PartLine}
use Rattle.widen.specs.WideningFormat.WideningSaid.{Said}
use Rattle.widen.proofs.Growing.{times_grow, steps_grow}

module _ (p : ProblemLists) (readings : List Reading) where
  abbrev format : Format WideningSaid WideningLine
  format = widening_format p readings

  -- before a cycle its first line may stand, or the line of a node
  pub before_cycle : (C : WideningLine → Type 0) (what : What) (extra : Option ℕ) (values : List ℤ) (line : WideningLine) → (MayBegin p readings extra values → C (PartLine CycleLine))
      → ((l : ExecutionLine) → MayRun p readings extra values l → C (PartLine (NodeLine l))) → MayStand p readings (Said what extra values None) line → C line
  before_cycle C what extra values (LeastLine e named) begins runs may = absurd may
  before_cycle C what extra values (PartLine CycleLine) begins runs may = begins may
  before_cycle C what extra values (PartLine RunLine) begins runs may = absurd may
  before_cycle C what extra values (PartLine (EndsLine a b)) begins runs may = absurd may
  before_cycle C what extra values (PartLine (SideLine side v)) begins runs may = absurd may
  before_cycle C what extra values (PartLine (StepLine n z)) begins runs may = absurd may
  before_cycle C what extra values (PartLine (InsideLine c)) begins runs may = absurd may
  before_cycle C what extra values (PartLine (NodeLine l)) begins runs may = runs l may

  -- ---- the line of a node, before all nodes have theirs
  module _ (what : What) (extra : ℕ) (vs ws : List ℤ) (body : List ℕ) (more : IsWhole p readings vs → ⊥) where
    value_syntax : FaultIn (execution_format p readings) vs body kinds.Syntax → (l : ExecutionLine) → MayRun p readings (Some extra) vs l → format.IsSpelled (PartLine (NodeLine l)) → body ≡ words (format.line_words (PartLine (NodeLine l))) → ⊥
    value_syntax fault (EventLine name z) may spelled is = fault (EventLine name z) may spelled is
    value_syntax fault (ReadingLine clock m z) may spelled is = fault (ReadingLine clock m z) may spelled is
    value_syntax fault EndLine may spelled is = more may.1

    node_syntax : FaultIn (execution_format p readings) vs body kinds.Syntax → FaultIn format (Said what (Some extra) vs None) body kinds.Syntax
    node_syntax fault line may =
        before_cycle (λ (line : WideningLine). format.IsSpelled line → body ≡ words (format.line_words line) → ⊥) what (Some extra) vs line (λ begins spelled is. more begins.1) (value_syntax fault) may

    pub node_taken : (r : Result Taken LineError) → Takes (execution_format p readings) vs body r ws → Takes format (Said what (Some extra) vs None) body r (Said what (Some extra) ws None)
    node_taken (Ok taken.Line) takes = times_grow p readings what (Some extra) vs ws (body ++ 10 ∷ []) takes
    node_taken (Ok taken.End) takes = absurd (more takes.1)
    node_taken (Err errors.Memory) takes = tt
    node_taken (Err (errors.Fault kinds.Syntax)) takes = node_syntax takes
    node_taken (Err (errors.Fault kinds.Name)) (EventLine name z, may, spelled, is, r) = (PartLine (NodeLine (EventLine name z)), may, spelled, is, r)
    node_taken (Err (errors.Fault kinds.Name)) (ReadingLine clock m z, may, spelled, is, r) = (PartLine (NodeLine (ReadingLine clock m z)), may, spelled, is, r)
    node_taken (Err (errors.Fault kinds.Name)) (EndLine, may, spelled, is, r) = absurd (more may)
    node_taken (Err (errors.Fault kinds.Range)) (EventLine name z, may, spelled, is, r) = (PartLine (NodeLine (EventLine name z)), may, spelled, is, r)
    node_taken (Err (errors.Fault kinds.Range)) (ReadingLine clock m z, may, spelled, is, r) = (PartLine (NodeLine (ReadingLine clock m z)), may, spelled, is, r)
    node_taken (Err (errors.Fault kinds.Range)) (EndLine, may, spelled, is, r) = absurd (more may)
    node_taken (Err (errors.Fault kinds.Limit)) (l, may, spelled, is, r) = absurd (r.2 tt)

  -- it is no end
  pub node_line : (vs ws : List ℤ) (body : List ℕ) (t : Taken) → (IsWhole p readings vs → ⊥) → Takes (execution_format p readings) vs body (Ok t) ws → Takes (execution_format p readings) vs body (Ok taken.Line) ws
  node_line vs ws body taken.Line more takes = takes
  node_line vs ws body taken.End more takes = absurd (more takes.1)

  -- ---- the line of a step, or the end: as in a certificate
  module _ (what : What) (extra : Option ℕ) (values : List ℤ) (old new : List Step) (body : List ℕ) where
    step_syntax : FaultIn (certificate_format p readings) (CycleSaid old) body kinds.Syntax → FaultIn format (Said what extra values (Some old)) body kinds.Syntax
    step_syntax fault (LeastLine e named) may spelled is = may
    step_syntax fault (PartLine line) may spelled is = fault line may spelled is

    pub step_taken : (r : Result Taken LineError) → Takes (certificate_format p readings) (CycleSaid old) body r (CycleSaid new) → Takes format (Said what extra values (Some old)) body r (Said what extra values (Some new))
    step_taken (Ok taken.Line) takes = steps_grow p readings what extra values old new (body ++ 10 ∷ []) takes
    step_taken (Ok taken.End) (same, may, is) = (let steps : new ≡ old = cc in ap (λ (xs : List Step). Said what extra values (Some xs)) steps, may, is)
    step_taken (Err errors.Memory) takes = tt
    step_taken (Err (errors.Fault kinds.Syntax)) takes = step_syntax takes
    step_taken (Err (errors.Fault kinds.Name)) (line, may, spelled, is, r) = (PartLine line, may, spelled, is, r)
    step_taken (Err (errors.Fault kinds.Range)) (line, may, spelled, is, r) = (PartLine line, may, spelled, is, r)
    step_taken (Err (errors.Fault kinds.Limit)) (line, may, spelled, is, r) = (PartLine line, may, spelled, is, r)
