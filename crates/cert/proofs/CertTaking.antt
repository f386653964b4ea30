-- What taking a line does to what a certificate says so far.
use Rattle.std.proofs.Common.{◌≡◌, ℕ, List, [], ◌∷◌, ◌++◌, length, Option, Some, None, Result, Ok, Err, codes, refl, sym, ◌∙◌, ap, subst, arith, ℤ}
use Rattle.std.specs.Prelude.{IfSome}
use Rattle.std.proofs.lemmas.Option.{slice_get_within}
use Rattle.atto.specs.Number.{FitsUnits}
use Rattle.line_format.specs.Words.{words, line_of}
use Rattle.line_format.specs.Cut.{cut, fields}
use Rattle.line_format.specs.Format.{Format, Takes, FaultIn, Grows}
use Rattle.line_format.specs.declared.fault.FaultKind.{FaultKind}
use Rattle.line_format.specs.declared.fault.FaultKind.TheVariants as kinds
use Rattle.line_format.specs.declared.fault.LineError.{LineError}
use Rattle.line_format.specs.declared.fault.LineError.TheVariants as errors
use Rattle.line_format.specs.declared.fault.Taken.TheVariants as taken
use Rattle.line_format.proofs.Cutting.{cut_takes, cut_again}
use Rattle.line_format.proofs.Fields.{fields_again, fields_take}
use Rattle.line_format.proofs.Lacking.{lacks_test}
use Rattle.problem_model.specs.declared.items.Node.TheVariants as nodes
use Rattle.problem_model.specs.Name.{IsEventName}
use Rattle.problem_model.specs.Problem.{ProblemLists}
use Rattle.problem_model.specs.Nodes.{Reading, nodes_of}
use Rattle.problem.specs.Line.{HasEvent}
use Rattle.cert.specs.declared.chain.Step.{Step}
use Rattle.cert.specs.declared.certificate.EndProof.{EndProof}
use Rattle.cert.specs.declared.heads.EndsWords.{EndsWords}
use Rattle.cert.specs.declared.kinds.Side.{Side}
use Rattle.cert.specs.declared.kinds.Side.TheVariants.{Upper, Lower}
use Rattle.cert.specs.ExecutionFormat.{ExecutionLine, execution_format, AreValues}
use Rattle.cert.specs.ExecutionFormat.ExecutionLine.{EventLine, ReadingLine, EndLine}
use Rattle.cert.specs.CertificateFormat.{CertLine, NamedBound, Said, cert_words, side_word, limit_word, IsBoundSpelled, MayStand, MayStandIn, AreEvents, IsSound, IsSoundEnd, IsWhole, certificate_format}
use Rattle.cert.specs.EndLists.{EndLists, end_lists, Limited, Unlimited}
use Rattle.cert.specs.CertificateFormat.CertLine.{CycleLine, RunLine, EndsLine, SideLine, StepLine, InsideLine, NodeLine}
use Rattle.cert.specs.CertificateFormat.Said.{NoneSaid, CycleSaid, RunSaid, EventsSaid, UpperSaid, EndsSaid}
use Rattle.cert.specs.SaidStep.{EndsParts, SaysEnds, NoEnds}
use Rattle.cert.specs.TakesPart.{RefusedBy, TakesStep, TakesInEnd, begun, HasLimit, BeginsEnd}
use Rattle.cert.proofs.CertLines.{side_lacks}
use Rattle.cert.proofs.CertGrowing.{step_spelled, event_inside, cycle_grows, run_begins, events_begin, upper_begins, lower_begins}
use Rattle.cert.proofs.Lacking.{event_name_lacks}
use Rattle.cert.proofs.Places.{length-nodes_of}
use Rattle.cert.proofs.PartTaking.{no_steps}
use Rattle.cert.proofs.StepForms.{same_parts}

-- ---- the events
ends_fields : (body a b : List ℕ) → IsEventName a → IsEventName b → body ≡ words (cert_words (EndsLine a b)) → fields 2 body ≡ Some (codes "ends" ∷ a ∷ b ∷ [])
ends_fields body a b x y is = rw is (fields_again 2 (codes "ends" ∷ a ∷ b ∷ []) refl (lacks_test 32 (codes "ends") refl, (event_name_lacks 32 a (omega arith) x, tt)))

pub ends_not_three : (body : List ℕ) → fields 2 body ≡ None → NoEnds body
ends_not_three body none a b x y is = let f = ends_fields body a b x y is in cc

pub ends_other : (body u v w : List ℕ) → fields 2 body ≡ Some (u ∷ v ∷ w ∷ []) → (u ≡ codes "ends" → ⊥) → NoEnds body
ends_other body u v w three other a b x y is = let f = ends_fields body a b x y is in other (cc)

pub ends_not_names : (body u v w : List ℕ) → fields 2 body ≡ Some (u ∷ v ∷ w ∷ []) → (IsEventName v → IsEventName w → ⊥) → NoEnds body
ends_not_names body u v w three none a b x y is =
    let f = ends_fields body a b x y is in
    let v-is : a ≡ v = cc in
    let w-is : b ≡ w = cc in
    none (rw v-is at x) (rw w-is at y)

pub ends_says : (body u v w : List ℕ) (r : EndsWords) → fields 2 body ≡ Some (u ∷ v ∷ w ∷ []) → u ≡ codes "ends" → EndsParts v w r → SaysEnds body r
ends_says body u v w r three is named = record {
  p_named = named.p_named;
  q_named = named.q_named;
  is = (fields_take 2 body (u ∷ v ∷ w ∷ []) three).0 ∙ rw (is, named.p_is, named.q_is) refl;
}

-- ---- limits
side_cut : (body : List ℕ) (side : Side) (v : Option ℤ) → body ≡ words (cert_words (SideLine side v)) → cut 32 body ≡ Some (side_word side, limit_word side v)
side_cut body side v is = rw is (cut_again 32 (side_word side) (limit_word side v) (side_lacks 32 side (omega arith)))

module _ (body a b : List ℕ) (side : Side) (parts : cut 32 body ≡ Some (a, b)) (is : a ≡ side_word side) where
  says_line : (v : Option ℤ) → b ≡ limit_word side v → body ≡ words (cert_words (SideLine side v))
  says_line v limit = (cut_takes 32 body (a, b) parts).0 ∙ rw (is, limit) refl

  says_limit : (v : Option ℤ) → body ≡ words (cert_words (SideLine side v)) → b ≡ limit_word side v
  says_limit v whole = (same_parts a b (side_word side) (limit_word side v) (cut 32 body) parts (side_cut body side v whole)).1

  pub side_begins : (r : Result EndProof LineError) → HasLimit side b r → BeginsEnd side body r
  side_begins (Ok e) (v, limit, fits, begins) = (v, says_line v limit, fits, begins)
  side_begins (Err errors.Memory) limit = tt
  side_begins (Err (errors.Fault kinds.Syntax)) limit = λ v whole. limit v (says_limit v whole)
  side_begins (Err (errors.Fault kinds.Name)) limit = limit
  side_begins (Err (errors.Fault kinds.Range)) (v, limit, fits) = (v, says_line v limit, fits)
  side_begins (Err (errors.Fault kinds.Limit)) limit = limit

-- ---- the whole
module _ {State Line : Type 0} (f : Format State Line) where
  pub line_fault : (s : State) (body : List ℕ) (line : Line) (kind : FaultKind) → f.MayStand s line → f.IsSpelled line → body ≡ words (f.line_words line) →
      RefusedBy (f.NamesFit s line) (f.NumbersFit line) (f.HasRoom s line) kind → FaultIn f s body kind
  line_fault s body line kinds.Syntax may spelled is r = absurd r
  line_fault s body line kinds.Name may spelled is r = (line, may, spelled, is, r)
  line_fault s body line kinds.Range may spelled is r = (line, may, spelled, is, r)
  line_fault s body line kinds.Limit may spelled is r = (line, may, spelled, is, r)

  -- a fault is told whatever follows
  pub fault_keeps : (s t u : State) (body : List ℕ) (e : LineError) → Takes f s body (Err e) t → Takes f s body (Err e) u
  fault_keeps s t u body errors.Memory takes = tt
  fault_keeps s t u body (errors.Fault kind) takes = takes

module _ (p : ProblemLists) (readings : List Reading) where
  abbrev format : Format Said CertLine
  format = certificate_format p readings

  -- ---- a cycle
  pub step_in_cycle : (old new : List Step) (n : NamedBound) (z : ℤ) (body : List ℕ) → body ≡ words (cert_words (StepLine n z)) → TakesStep p old n z (Ok tt) new → Takes format (CycleSaid old) body (Ok taken.Line) (CycleSaid new)
  step_in_cycle old new n z body is (b, named, declared, fits, room, grown) =
      rw grown (cycle_grows p readings old (record { bound = b; weight = z }) (body ++ 10 ∷ []) (ap (λ (t : List ℕ). t ++ 10 ∷ []) is ∙ step_spelled p n b z named))

  pub step_fault_in_cycle : (old new : List Step) (n : NamedBound) (z : ℤ) (body : List ℕ) (e : LineError) → IsBoundSpelled n → body ≡ words (cert_words (StepLine n z)) → TakesStep p old n z (Err e) new → Takes format (CycleSaid old) body (Err e) (CycleSaid new)
  step_fault_in_cycle old new n z body errors.Memory spelled is takes = tt
  step_fault_in_cycle old new n z body (errors.Fault kind) spelled is takes = line_fault format (CycleSaid old) body (StepLine n z) kind tt spelled is takes

  -- ---- a run
  run_syntax : (vs : List ℤ) (body : List ℕ) → FaultIn (execution_format p readings) vs body kinds.Syntax → FaultIn format (RunSaid vs) body kinds.Syntax
  run_syntax vs body fault CycleLine may spelled is = may
  run_syntax vs body fault RunLine may spelled is = may
  run_syntax vs body fault (EndsLine a b) may spelled is = may
  run_syntax vs body fault (SideLine side v) may spelled is = may
  run_syntax vs body fault (StepLine n z) may spelled is = may
  run_syntax vs body fault (InsideLine c) may spelled is = may
  run_syntax vs body fault (NodeLine l) may spelled is = fault l may spelled is

  pub run_fault : (vs ws : List ℤ) (body : List ℕ) (e : LineError) → Takes (execution_format p readings) vs body (Err e) ws → Takes format (RunSaid vs) body (Err e) (RunSaid vs)
  run_fault vs ws body errors.Memory takes = tt
  run_fault vs ws body (errors.Fault kinds.Syntax) takes = run_syntax vs body takes
  run_fault vs ws body (errors.Fault kinds.Name) (l, may, spelled, is, r) = (NodeLine l, may, spelled, is, r)
  run_fault vs ws body (errors.Fault kinds.Range) (l, may, spelled, is, r) = (NodeLine l, may, spelled, is, r)
  run_fault vs ws body (errors.Fault kinds.Limit) (l, may, spelled, is, r) = absurd (r.2 tt)

  pub none_fit : (n : ℕ) → AreValues n []
  none_fit n = record { fit = λ k d inside. absurd (omega (arith, inside)); few = omega arith }

  pub run_taken : (vs : List ℤ) (body : List ℕ) → vs ≡ [] → body ≡ codes "run" → Takes format NoneSaid body (Ok taken.Line) (RunSaid vs) × IsSound p readings (RunSaid vs)
  run_taken vs body none is = rw (none, is) (run_begins p readings, none_fit (length (nodes_of p readings)))

  -- ---- the events
  pub events_taken : (j k : ℕ) (w : EndsWords) (body : List ℕ) → SaysEnds body w → HasEvent p j w.p → HasEvent p k w.q → Takes format NoneSaid body (Ok taken.Line) (EventsSaid j k) × IsSound p readings (EventsSaid j k)
  events_taken j k w body says at at' = (
    subst (Grows format NoneSaid (EventsSaid j k)) (sym (ap (λ (t : List ℕ). t ++ 10 ∷ []) says.is)) (events_begin p readings j k w.p w.q at at'),
    (event_inside p.events j w.p at, event_inside p.events k w.q at'),
  )

  pub events_refused : (w : EndsWords) (body : List ℕ) → SaysEnds body w → ((j k : ℕ) → HasEvent p j w.p → HasEvent p k w.q → ⊥) → FaultIn format NoneSaid body kinds.Name
  events_refused w body says none = (EndsLine w.p w.q, tt, (says.p_named, says.q_named), says.is, λ names. none names.0 names.1 names.2 names.3)

  -- ---- ends begin
  begun_sound : (e : EndLists) (v : Option ℤ) → e ≡ begun v → IfSome v FitsUnits → IsSoundEnd p readings e
  begun_sound e v is fits = subst (IsSoundEnd p readings) (sym is) (sound v fits)
    where
      sound : (v : Option ℤ) → IfSome v FitsUnits → IsSoundEnd p readings (begun v)
      sound None fits = (record { known = λ k d inside. absurd (omega (arith, inside)); rising = λ i j d below inside. absurd (omega (arith, inside)) }, none_fit _)
      sound (Some z) fits = (fits, no_steps p, none_fit _)

  pub upper_taken : (a b : ℕ) (e : EndProof) (body : List ℕ) → AreEvents p a b → BeginsEnd Upper body (Ok e) → Takes format (EventsSaid a b) body (Ok taken.Line) (UpperSaid a b (end_lists e)) × IsSound p readings (UpperSaid a b (end_lists e))
  upper_taken a b e body known (v, is, fits, begins) = (
    subst (λ (t : List ℕ). Grows format (EventsSaid a b) (UpperSaid a b (end_lists e)) (t ++ 10 ∷ [])) (sym is)
        (subst (λ (x : EndLists). Grows format (EventsSaid a b) (UpperSaid a b x) (line_of (cert_words (SideLine Upper v)))) (sym begins) (upper_begins p readings a b v)),
    (known, begun_sound (end_lists e) v begins fits),
  )

  upper_syntax : (a b : ℕ) (body : List ℕ) → ((v : Option ℤ) → body ≡ words (cert_words (SideLine Upper v)) → ⊥) → FaultIn format (EventsSaid a b) body kinds.Syntax
  upper_syntax a b body none CycleLine may spelled is = may
  upper_syntax a b body none RunLine may spelled is = may
  upper_syntax a b body none (EndsLine c d) may spelled is = may
  upper_syntax a b body none (SideLine Upper v) may spelled is = none v is
  upper_syntax a b body none (SideLine Lower v) may spelled is = may
  upper_syntax a b body none (StepLine n z) may spelled is = may
  upper_syntax a b body none (InsideLine c) may spelled is = may
  upper_syntax a b body none (NodeLine l) may spelled is = may

  pub upper_not : (a b : ℕ) (body : List ℕ) (e : LineError) → BeginsEnd Upper body (Err e) → Takes format (EventsSaid a b) body (Err e) (EventsSaid a b)
  upper_not a b body errors.Memory begins = tt
  upper_not a b body (errors.Fault kinds.Syntax) begins = upper_syntax a b body begins
  upper_not a b body (errors.Fault kinds.Name) begins = absurd begins
  upper_not a b body (errors.Fault kinds.Range) (v, is, fits) = (SideLine Upper v, tt, tt, is, (tt, fits))
  upper_not a b body (errors.Fault kinds.Limit) begins = absurd begins

  pub lower_taken : (a b : ℕ) (u : EndLists) (e : EndProof) (body : List ℕ) → IsSound p readings (UpperSaid a b u) → IsWhole p readings u → BeginsEnd Lower body (Ok e) →
      Takes format (UpperSaid a b u) body (Ok taken.Line) (EndsSaid a b u (end_lists e)) × IsSound p readings (EndsSaid a b u (end_lists e))
  lower_taken a b u e body sound whole (v, is, fits, begins) = (
    subst (λ (t : List ℕ). Grows format (UpperSaid a b u) (EndsSaid a b u (end_lists e)) (t ++ 10 ∷ [])) (sym is)
        (subst (λ (x : EndLists). Grows format (UpperSaid a b u) (EndsSaid a b u x) (line_of (cert_words (SideLine Lower v)))) (sym begins) (lower_begins p readings a b u v)),
    (sound.0, (sound.1, whole), begun_sound (end_lists e) v begins fits),
  )

  -- where each node has its real time, no line of the part may follow
  no_step : (a b : ℕ) (vs : List ℤ) → AreEvents p a b → length vs ≡ length (nodes_of p readings) → vs ≡ [] → ⊥
  no_step a b vs known whole none = let count = length-nodes_of p readings in let empty = ap length none in omega (arith, count, empty, whole, known.0)

  pub no_value : (vs : List ℤ) (l : ExecutionLine) → length vs ≡ length (nodes_of p readings) → MayStand p readings (RunSaid vs) (NodeLine l) → (l ≡ EndLine → ⊥) → ⊥
  no_value vs (EventLine name z) whole may other = let within = slice_get_within (nodes_of p readings) (length vs) (nodes.Event may.0) may.1 in omega (arith, within, whole)
  no_value vs (ReadingLine clock m z) whole may other = let within = slice_get_within (nodes_of p readings) (length vs) (nodes.Reading may.0 may.1) may.2 in omega (arith, within, whole)
  no_value vs EndLine whole may other = other refl

  lower_syntax : (a b : ℕ) (u : EndLists) (body : List ℕ) → AreEvents p a b → IsWhole p readings u → ((v : Option ℤ) → body ≡ words (cert_words (SideLine Lower v)) → ⊥) → FaultIn format (UpperSaid a b u) body kinds.Syntax
  lower_syntax a b u body known whole none (SideLine Lower v) may spelled is = none v is
  lower_syntax a b (Limited w path vs) body known whole none CycleLine may spelled is = may
  lower_syntax a b (Limited w path vs) body known whole none RunLine may spelled is = may
  lower_syntax a b (Limited w path vs) body known whole none (EndsLine c d) may spelled is = may
  lower_syntax a b (Limited w path vs) body known whole none (SideLine Upper v) may spelled is = may
  lower_syntax a b (Limited w path vs) body known whole none (StepLine n z) may spelled is = no_step a b vs known whole may
  lower_syntax a b (Limited w path vs) body known whole none (InsideLine c) may spelled is = may
  lower_syntax a b (Limited w path vs) body known whole none (NodeLine (EventLine name z)) may spelled is = no_value vs (EventLine name z) whole may (λ e. cc)
  lower_syntax a b (Limited w path vs) body known whole none (NodeLine (ReadingLine clock m z)) may spelled is = no_value vs (ReadingLine clock m z) whole may (λ e. cc)
  lower_syntax a b (Limited w path vs) body known whole none (NodeLine EndLine) may spelled is = may
  lower_syntax a b (Unlimited inside vs) body known whole none CycleLine may spelled is = may
  lower_syntax a b (Unlimited inside vs) body known whole none RunLine may spelled is = may
  lower_syntax a b (Unlimited inside vs) body known whole none (EndsLine c d) may spelled is = may
  lower_syntax a b (Unlimited inside vs) body known whole none (SideLine Upper v) may spelled is = may
  lower_syntax a b (Unlimited inside vs) body known whole none (StepLine n z) may spelled is = may
  lower_syntax a b (Unlimited inside vs) body known whole none (InsideLine c) may spelled is = no_step a b vs known whole may
  lower_syntax a b (Unlimited inside vs) body known whole none (NodeLine (EventLine name z)) may spelled is = no_value vs (EventLine name z) whole may (λ e. cc)
  lower_syntax a b (Unlimited inside vs) body known whole none (NodeLine (ReadingLine clock m z)) may spelled is = no_value vs (ReadingLine clock m z) whole may (λ e. cc)
  lower_syntax a b (Unlimited inside vs) body known whole none (NodeLine EndLine) may spelled is = may

  pub lower_not : (a b : ℕ) (u : EndLists) (body : List ℕ) (e : LineError) → IsSound p readings (UpperSaid a b u) → IsWhole p readings u → BeginsEnd Lower body (Err e) → Takes format (UpperSaid a b u) body (Err e) (UpperSaid a b u)
  lower_not a b u body errors.Memory sound whole begins = tt
  lower_not a b u body (errors.Fault kinds.Syntax) sound whole begins = lower_syntax a b u body sound.0 whole begins
  lower_not a b u body (errors.Fault kinds.Name) sound whole begins = absurd begins
  lower_not a b u body (errors.Fault kinds.Range) sound whole (v, is, fits) = (SideLine Lower v, whole, tt, is, (tt, fits))
  lower_not a b u body (errors.Fault kinds.Limit) sound whole begins = absurd begins

  -- ---- the upper part goes on
  upper_in : (a b : ℕ) (u : EndLists) (line : CertLine) → (IsWhole p readings u → ⊥) → MayStand p readings (UpperSaid a b u) line → MayStandIn p readings u line
  upper_in a b u CycleLine more may = may
  upper_in a b u RunLine more may = may
  upper_in a b u (EndsLine c d) more may = may
  upper_in a b u (SideLine Upper v) more may = may
  upper_in a b u (SideLine Lower v) more may = absurd (more may)
  upper_in a b u (StepLine n z) more may = may
  upper_in a b u (InsideLine c) more may = may
  upper_in a b u (NodeLine (EventLine name z)) more may = may
  upper_in a b u (NodeLine (ReadingLine clock m z)) more may = may
  upper_in a b u (NodeLine EndLine) more may = absurd may

  in_upper : (a b : ℕ) (u : EndLists) (line : CertLine) → (IsWhole p readings u → ⊥) → MayStandIn p readings u line → MayStand p readings (UpperSaid a b u) line
  in_upper a b u CycleLine more may = may
  in_upper a b u RunLine more may = may
  in_upper a b u (EndsLine c d) more may = may
  in_upper a b u (SideLine Upper v) more may = may
  in_upper a b (Limited w path vs) (SideLine Lower v) more may = absurd may
  in_upper a b (Unlimited inside vs) (SideLine Lower v) more may = absurd may
  in_upper a b u (StepLine n z) more may = may
  in_upper a b u (InsideLine c) more may = may
  in_upper a b u (NodeLine (EventLine name z)) more may = may
  in_upper a b u (NodeLine (ReadingLine clock m z)) more may = may
  in_upper a b (Limited w path vs) (NodeLine EndLine) more may = absurd (more may)
  in_upper a b (Unlimited inside vs) (NodeLine EndLine) more may = absurd (more may)

  pub upper_fault : (a b : ℕ) (u t : EndLists) (body : List ℕ) (e : LineError) → (IsWhole p readings u → ⊥) → TakesInEnd p readings u body (Err e) t → Takes format (UpperSaid a b u) body (Err e) (UpperSaid a b u)
  upper_fault a b u t body errors.Memory more takes = tt
  upper_fault a b u t body (errors.Fault kinds.Syntax) more takes = λ line may spelled is. takes line (upper_in a b u line more may) spelled is
  upper_fault a b u t body (errors.Fault kinds.Name) more (line, may, spelled, is, r) = (line, in_upper a b u line more may, spelled, is, r)
  upper_fault a b u t body (errors.Fault kinds.Range) more (line, may, spelled, is, r) = (line, in_upper a b u line more may, spelled, is, r)
  upper_fault a b u t body (errors.Fault kinds.Limit) more (line, may, spelled, is, r) = (line, in_upper a b u line more may, spelled, is, r)
