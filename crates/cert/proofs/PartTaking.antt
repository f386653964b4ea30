-- What taking a line does to an end of a certificate.
use Rattle.std.proofs.Common.{◌≡◌, ◌<◌, ℕ, List, [], ◌∷◌, ◌++◌, length, Option, Some, None, Result, Ok, Err, codes, IsTrue, nat_eq, ◌↔◌, refl, sym, ◌∙◌, ap, subst, arith, ℤ, length-append}
use Rattle.std.specs.Prelude.{SomeIff, IfSome}
use Rattle.std.proofs.lemmas.List.Elements.{All-push}
use Rattle.std.proofs.lemmas.List.Quantifiers.{all_pairs_push}
use Rattle.atto.specs.Number.{FitsUnits}
use Rattle.line_format.specs.Words.{words, line_of}
use Rattle.line_format.specs.Cut.{cut}
use Rattle.line_format.specs.Format.{Takes, FaultIn}
use Rattle.line_format.specs.declared.fault.FaultKind.TheVariants as kinds
use Rattle.line_format.specs.declared.fault.LineError.{LineError}
use Rattle.line_format.specs.declared.fault.LineError.TheVariants as errors
use Rattle.line_format.specs.declared.fault.Taken.{Taken}
use Rattle.line_format.specs.declared.fault.Taken.TheVariants as taken
use Rattle.line_format.proofs.Cutting.{cut_takes}
use Rattle.problem_model.specs.declared.items.Clock.{Clock}
use Rattle.problem_model.specs.declared.items.Event.{Event}
use Rattle.problem_model.specs.Name.{IsClockName}
use Rattle.problem_model.specs.Problem.{ProblemLists}
use Rattle.problem_model.specs.Nodes.{Reading, nodes_of}
use Rattle.cert.specs.declared.chain.Step.{Step}
use Rattle.cert.specs.ExecutionFormat.{execution_format}
use Rattle.cert.specs.CertificateText.{IsStepOf, inside_line}
use Rattle.cert.specs.EndLists.{Limited, Unlimited}
use Rattle.cert.specs.CertificateFormat.{NamedBound, cert_words, IsSpelled, AreSteps, AreInside}
use Rattle.cert.specs.CertificateFormat.CertLine.{CycleLine, RunLine, EndsLine, SideLine, StepLine, InsideLine, NodeLine}
use Rattle.cert.specs.SaidStep.{NoStep, SaysInside, NoInside}
use Rattle.cert.specs.TakesPart.{TakesStep, TakesInside, EndGrows, EndFault, TakesInEnd}
use Rattle.cert.proofs.CertGrowing.{step_spelled, clock_at_name, clock_inside, path_grows, inside_grows, limited_grows, unlimited_grows}

-- ---- the line of a clock inside
pub inside_says : (body a b : List ℕ) (o : Option (List ℕ)) → cut 32 body ≡ Some (a, b) → a ≡ codes "inside" → SomeIff o (IsClockName b) b → IfSome o (λ name. SaysInside body name)
inside_says body a b None parts is named = tt
inside_says body a b (Some name) parts is named = record {
  named = subst IsClockName (sym named.1) named.0;
  is = (cut_takes 32 body (a, b) parts).0 ∙ rw (is, named.1) refl;
}

-- two numbers are compared as those that they are
pub test_is : (a b m n : ℕ) → a ≡ m → b ≡ n → IsTrue (nat_eq a b) ↔ (m ≡ n)
test_is a b m n x y = ((λ t. let e : a ≡ b = grind (arith, t) in sym x ∙ e ∙ y), (λ e. let same : a ≡ b = x ∙ e ∙ sym y in grind (arith, same)))

-- ---- only the clocks, the events and the readings count
pub takes_over : (p q : ProblemLists) (a b : List Reading) (vs ws : List ℤ) (body : List ℕ) (r : Result Taken LineError) → q.clocks ≡ p.clocks → q.events ≡ p.events → a ≡ b →
    Takes (execution_format q a) vs body r ws → Takes (execution_format p b) vs body r ws
takes_over p q a b vs ws body r clocks events same takes =
    let first = subst (λ (cs : List Clock). Takes (execution_format (record { clocks = cs; follows = []; events = q.events; messages = [] }) a) vs body r ws) clocks takes in
    let second = subst (λ (es : List Event). Takes (execution_format (record { clocks = p.clocks; follows = []; events = es; messages = [] }) a) vs body r ws) events first in
    subst (λ (rs : List Reading). Takes (execution_format p rs) vs body r ws) same second

pub same_count : (p q : ProblemLists) (a b : List Reading) → q.events ≡ p.events → a ≡ b → length (nodes_of q a) ≡ length (nodes_of p b)
same_count p q a b events same =
    ap (λ (es : List Event). length (nodes_of (record { clocks = q.clocks; follows = []; events = es; messages = [] }) a)) events
    ∙ ap (λ (rs : List Reading). length (nodes_of (record { clocks = q.clocks; follows = []; events = p.events; messages = [] }) rs)) same

-- ---- steps and clocks more
pub no_steps : (p : ProblemLists) → AreSteps p []
no_steps p = record { declared = λ k d inside. absurd (omega (arith, inside)); weights = λ k d inside. absurd (omega (arith, inside)); few = omega arith }

pub steps_more : (p : ProblemLists) (old new : List Step) (n : NamedBound) (z : ℤ) → TakesStep p old n z (Ok tt) new → AreSteps p old → AreSteps p new
steps_more p old new n z (b, named, declared, fits, room, is) are =
    let s : Step = record { bound = b; weight = z } in
    subst (AreSteps p) (sym is) (record {
      declared = All-push (IsStepOf p) old s are.declared declared;
      weights = All-push (λ x. FitsUnits x.weight) old s are.weights fits;
      few = let e = length-append old (s ∷ []) in omega (arith, room, e);
    })

pub inside_more : (p : ProblemLists) (old new : List ℕ) (name : List ℕ) → TakesInside p old name (Ok tt) new → AreInside p old → AreInside p new
inside_more p old new name (k, at, behind, is) are =
    subst (AreInside p) (sym is) (record {
      known = All-push (λ i. i < length p.clocks) old k are.known (clock_inside p.clocks k name at);
      rising = all_pairs_push (λ i j. i < j) old k are.rising (λ i d inside. behind i d inside);
    })

module _ (p : ProblemLists) (readings : List Reading) where
  -- ---- the line of a node
  limited_syntax : (v : ℤ) (path : List Step) (vs : List ℤ) (body : List ℕ) → (vs ≡ [] → NoStep body) → FaultIn (execution_format p readings) vs body kinds.Syntax → EndFault p readings (Limited v path vs) body kinds.Syntax
  limited_syntax v path vs body none fault CycleLine may spelled is = may
  limited_syntax v path vs body none fault RunLine may spelled is = may
  limited_syntax v path vs body none fault (EndsLine a b) may spelled is = may
  limited_syntax v path vs body none fault (SideLine side w) may spelled is = may
  limited_syntax v path vs body none fault (StepLine n z) may spelled is = none may n z spelled is
  limited_syntax v path vs body none fault (InsideLine c) may spelled is = may
  limited_syntax v path vs body none fault (NodeLine l) may spelled is = fault l may spelled is

  unlimited_syntax : (inside : List ℕ) (vs : List ℤ) (body : List ℕ) → (vs ≡ [] → NoInside body) → FaultIn (execution_format p readings) vs body kinds.Syntax → EndFault p readings (Unlimited inside vs) body kinds.Syntax
  unlimited_syntax inside vs body none fault CycleLine may spelled is = may
  unlimited_syntax inside vs body none fault RunLine may spelled is = may
  unlimited_syntax inside vs body none fault (EndsLine a b) may spelled is = may
  unlimited_syntax inside vs body none fault (SideLine side w) may spelled is = may
  unlimited_syntax inside vs body none fault (StepLine n z) may spelled is = may
  unlimited_syntax inside vs body none fault (InsideLine c) may spelled is = none may c spelled is
  unlimited_syntax inside vs body none fault (NodeLine l) may spelled is = fault l may spelled is

  pub value_in_path : (v : ℤ) (path : List Step) (vs ws : List ℤ) (body : List ℕ) (r : Result Taken LineError) → (vs ≡ [] → NoStep body) → Takes (execution_format p readings) vs body r ws →
      TakesInEnd p readings (Limited v path vs) body r (Limited v path ws)
  value_in_path v path vs ws body (Ok taken.Line) none takes = limited_grows p readings v path vs ws (body ++ 10 ∷ []) takes
  value_in_path v path vs ws body (Ok taken.End) none takes = (ap (Limited v path) takes.0, takes.1, takes.2)
  value_in_path v path vs ws body (Err errors.Memory) none takes = tt
  value_in_path v path vs ws body (Err (errors.Fault kinds.Syntax)) none takes = limited_syntax v path vs body none takes
  value_in_path v path vs ws body (Err (errors.Fault kinds.Name)) none (l, may, spelled, is, r) = (NodeLine l, may, spelled, is, r)
  value_in_path v path vs ws body (Err (errors.Fault kinds.Range)) none (l, may, spelled, is, r) = (NodeLine l, may, spelled, is, r)
  value_in_path v path vs ws body (Err (errors.Fault kinds.Limit)) none (l, may, spelled, is, r) = absurd (r.2 tt)

  pub value_in_cut : (inside : List ℕ) (vs ws : List ℤ) (body : List ℕ) (r : Result Taken LineError) → (vs ≡ [] → NoInside body) → Takes (execution_format p readings) vs body r ws →
      TakesInEnd p readings (Unlimited inside vs) body r (Unlimited inside ws)
  value_in_cut inside vs ws body (Ok taken.Line) none takes = unlimited_grows p readings inside vs ws (body ++ 10 ∷ []) takes
  value_in_cut inside vs ws body (Ok taken.End) none takes = (ap (Unlimited inside) takes.0, takes.1, takes.2)
  value_in_cut inside vs ws body (Err errors.Memory) none takes = tt
  value_in_cut inside vs ws body (Err (errors.Fault kinds.Syntax)) none takes = unlimited_syntax inside vs body none takes
  value_in_cut inside vs ws body (Err (errors.Fault kinds.Name)) none (l, may, spelled, is, r) = (NodeLine l, may, spelled, is, r)
  value_in_cut inside vs ws body (Err (errors.Fault kinds.Range)) none (l, may, spelled, is, r) = (NodeLine l, may, spelled, is, r)
  value_in_cut inside vs ws body (Err (errors.Fault kinds.Limit)) none (l, may, spelled, is, r) = absurd (r.2 tt)

  -- ---- the line of a step
  pub step_in_path : (v : ℤ) (old new : List Step) (vs : List ℤ) (n : NamedBound) (z : ℤ) (body : List ℕ) → vs ≡ [] → body ≡ words (cert_words (StepLine n z)) → TakesStep p old n z (Ok tt) new →
      EndGrows p readings (Limited v old vs) (Limited v new vs) (body ++ 10 ∷ [])
  step_in_path v old new vs n z body none is (b, named, declared, fits, room, grown) =
      rw (none, grown) (path_grows p readings v old (record { bound = b; weight = z }) (body ++ 10 ∷ []) (ap (λ (t : List ℕ). t ++ 10 ∷ []) is ∙ step_spelled p n b z named))

  pub step_fault_in_path : (v : ℤ) (old new : List Step) (vs ws : List ℤ) (n : NamedBound) (z : ℤ) (body : List ℕ) (e : LineError) → vs ≡ [] → IsSpelled (StepLine n z) → body ≡ words (cert_words (StepLine n z)) →
      TakesStep p old n z (Err e) new → TakesInEnd p readings (Limited v old vs) body (Err e) (Limited v new ws)
  step_fault_in_path v old new vs ws n z body errors.Memory none spelled is takes = tt
  step_fault_in_path v old new vs ws n z body (errors.Fault kinds.Syntax) none spelled is takes = absurd takes
  step_fault_in_path v old new vs ws n z body (errors.Fault kinds.Name) none spelled is takes = (StepLine n z, none, spelled, is, takes)
  step_fault_in_path v old new vs ws n z body (errors.Fault kinds.Range) none spelled is takes = (StepLine n z, none, spelled, is, takes)
  step_fault_in_path v old new vs ws n z body (errors.Fault kinds.Limit) none spelled is takes = (StepLine n z, none, spelled, is, takes)

  -- ---- the line of a clock inside
  pub inside_in_cut : (old new : List ℕ) (vs : List ℤ) (name body : List ℕ) → vs ≡ [] → SaysInside body name → TakesInside p old name (Ok tt) new →
      EndGrows p readings (Unlimited old vs) (Unlimited new vs) (body ++ 10 ∷ [])
  inside_in_cut old new vs name body none says (k, at, behind, grown) =
      let spelled : body ++ 10 ∷ [] ≡ inside_line p k = ap (λ (t : List ℕ). t ++ 10 ∷ []) says.is ∙ ap (λ (c : List ℕ). line_of (cert_words (InsideLine c))) (clock_at_name p.clocks k name at) in
      rw (none, grown) (inside_grows p readings old k (body ++ 10 ∷ []) spelled)

  pub inside_fault_in_cut : (old new : List ℕ) (vs ws : List ℤ) (name body : List ℕ) (e : LineError) → vs ≡ [] → SaysInside body name → TakesInside p old name (Err e) new →
      TakesInEnd p readings (Unlimited old vs) body (Err e) (Unlimited new ws)
  inside_fault_in_cut old new vs ws name body errors.Memory none says takes = tt
  inside_fault_in_cut old new vs ws name body (errors.Fault kinds.Syntax) none says takes = absurd takes
  inside_fault_in_cut old new vs ws name body (errors.Fault kinds.Name) none says takes = (InsideLine name, none, says.named, says.is, takes)
  inside_fault_in_cut old new vs ws name body (errors.Fault kinds.Range) none says takes = (InsideLine name, none, says.named, says.is, takes)
  inside_fault_in_cut old new vs ws name body (errors.Fault kinds.Limit) none says takes = absurd (takes.2 tt)
