-- A certificate's text has one answer.
use Rattle.std.proofs.Common.{◌≡◌, ◌⊎◌, ◌<◌, inl, inr, ℕ, suc, List, [], ◌∷◌, ◌++◌, length, Option, Some, None, refl, sym, ◌∙◌, ap, subst, arith, ℤ, length-append}
use Rattle.std.specs.Prelude.{IfSome}
use Rattle.atto.specs.Number.{FitsUnits}
use Rattle.line_format.specs.Words.{line_of}
use Rattle.line_format.specs.Format.{Answers, Answer}
use Rattle.line_format.proofs.Readable.{IsStep, IsReadable}
use Rattle.line_format.proofs.OneAnswer.{answers_one}
use Rattle.problem_model.specs.declared.items.Bound.{Bound}
use Rattle.problem_model.specs.Problem.{ProblemLists, IsProblem}
use Rattle.problem_model.specs.ProblemText.{clock_name, event_name}
use Rattle.problem_model.specs.Nodes.{Reading, AreReadings, nodes_of}
use Rattle.problem.specs.Line.{HasClock, HasEvent}
use Rattle.cert.specs.declared.chain.Step.{Step}
use Rattle.cert.specs.declared.kinds.Side.TheVariants.{Upper, Lower}
use Rattle.cert.specs.ExecutionFormat as executions
use Rattle.cert.specs.ExecutionFormat.{ExecutionLine, AreValues}
use Rattle.cert.specs.ExecutionFormat.ExecutionLine.{EventLine, ReadingLine, EndLine}
use Rattle.cert.specs.CertificateText.{IsStepOf}
use Rattle.cert.specs.CertificateFormat.{CertLine, Said, Names, cert_words, IsSpelled, NumbersFit, HasRoomIn, NamesFitIn, MayStand, AreSteps, AreInside, IsSound, IsSoundEnd, IsWhole, AreEvents, said_size, end_steps, end_inside, end_values, certificate_format}
use Rattle.cert.specs.EndLists.{EndLists, Limited, Unlimited}
use Rattle.cert.specs.CertificateFormat.CertLine.{CycleLine, RunLine, EndsLine, SideLine, StepLine, InsideLine, NodeLine}
use Rattle.cert.specs.CertificateFormat.Said.{NoneSaid, CycleSaid, RunSaid, EventsSaid, UpperSaid, EndsSaid}
use Rattle.cert.specs.TakesPart.{EndGrows, begun}
use Rattle.cert.proofs.Lasts.{ended, all_init, all_last, pairs_init, pairs_last}
use Rattle.cert.proofs.Places.{are_named, event_named, clock_named}
use Rattle.cert.proofs.Executions as timed
use Rattle.cert.proofs.CertLines.{cert_lacks, cert_line_one}
use Rattle.cert.proofs.CertGrowing.{clock_one, event_one, names_one, clock_has, event_has, declared_named, step_spelled, path_grows, inside_grows, limited_grows, unlimited_grows, upper_grows, ends_grow, cycle_grows, run_grows, cycle_begins, run_begins, events_begin, upper_begins, lower_begins}

-- ---- what a line adds
abbrev pub EndAdds : ProblemLists → EndLists → CertLine → EndLists → Type 0
EndAdds p (Limited v path values) (StepLine n z) t = (b : Bound) × Names p n b × (t ≡ Limited v (path ++ record { bound = b; weight = z } ∷ []) values)
EndAdds p (Limited v path values) (NodeLine l) t = (ws : List ℤ) × timed.Adds values l ws × (t ≡ Limited v path ws)
EndAdds p (Unlimited inside values) (InsideLine c) t = (k : ℕ) × HasClock p k c × (t ≡ Unlimited (inside ++ k ∷ []) values)
EndAdds p (Unlimited inside values) (NodeLine l) t = (ws : List ℤ) × timed.Adds values l ws × (t ≡ Unlimited inside ws)
EndAdds p e line t = ⊥

abbrev pub Adds : ProblemLists → List Reading → Said → CertLine → Said → Type 0
Adds p readings NoneSaid CycleLine t = t ≡ CycleSaid []
Adds p readings NoneSaid RunLine t = t ≡ RunSaid []
Adds p readings NoneSaid (EndsLine a b) t = (j : ℕ) × (k : ℕ) × HasEvent p j a × HasEvent p k b × (t ≡ EventsSaid j k)
Adds p readings (CycleSaid steps) (StepLine n z) t = (b : Bound) × Names p n b × (t ≡ CycleSaid (steps ++ record { bound = b; weight = z } ∷ []))
Adds p readings (RunSaid values) (NodeLine l) t = (ws : List ℤ) × timed.Adds values l ws × (t ≡ RunSaid ws)
Adds p readings (EventsSaid a b) (SideLine Upper v) t = t ≡ UpperSaid a b (begun v)
Adds p readings (UpperSaid a b u) (SideLine Lower v) t = t ≡ EndsSaid a b u (begun v)
Adds p readings (UpperSaid a b u) line t = (e : EndLists) × EndAdds p u line e × (t ≡ UpperSaid a b e)
Adds p readings (EndsSaid a b u l) line t = (e : EndLists) × EndAdds p l line e × (t ≡ EndsSaid a b u e)
Adds p readings s line t = ⊥

module _ (p : ProblemLists) (readings : List Reading) (lawful : IsProblem p) where
  end_one : (e : EndLists) (line : CertLine) (t u : EndLists) → EndAdds p e line t → EndAdds p e line u → t ≡ u
  end_one (Limited v path vs) (StepLine n z) t u x y =
      x.2 ∙ ap (λ (b : Bound). Limited v (path ++ record { bound = b; weight = z } ∷ []) vs) (names_one p lawful n x.0 y.0 x.1 y.1) ∙ sym y.2
  end_one (Limited v path vs) (NodeLine l) t u x y = x.2 ∙ ap (Limited v path) (timed.adds_one vs l x.0 y.0 x.1 y.1) ∙ sym y.2
  end_one (Unlimited inside vs) (InsideLine c) t u x y = x.2 ∙ ap (λ (k : ℕ). Unlimited (inside ++ k ∷ []) vs) (clock_one p lawful x.0 y.0 c x.1 y.1) ∙ sym y.2
  end_one (Unlimited inside vs) (NodeLine l) t u x y = x.2 ∙ ap (Unlimited inside) (timed.adds_one vs l x.0 y.0 x.1 y.1) ∙ sym y.2
  end_one (Limited v path vs) CycleLine t u x y = absurd x
  end_one (Limited v path vs) RunLine t u x y = absurd x
  end_one (Limited v path vs) (EndsLine a b) t u x y = absurd x
  end_one (Limited v path vs) (SideLine side w) t u x y = absurd x
  end_one (Limited v path vs) (InsideLine c) t u x y = absurd x
  end_one (Unlimited inside vs) CycleLine t u x y = absurd x
  end_one (Unlimited inside vs) RunLine t u x y = absurd x
  end_one (Unlimited inside vs) (EndsLine a b) t u x y = absurd x
  end_one (Unlimited inside vs) (SideLine side w) t u x y = absurd x
  end_one (Unlimited inside vs) (StepLine n z) t u x y = absurd x

  upper_one : (a b : ℕ) (e : EndLists) (line : CertLine) (t u : Said) → ((f : EndLists) × EndAdds p e line f × (t ≡ UpperSaid a b f)) → ((f : EndLists) × EndAdds p e line f × (u ≡ UpperSaid a b f)) → t ≡ u
  upper_one a b e line t u x y = x.2 ∙ ap (UpperSaid a b) (end_one e line x.0 y.0 x.1 y.1) ∙ sym y.2

  pub adds_one : (s : Said) (line : CertLine) (t u : Said) → Adds p readings s line t → Adds p readings s line u → t ≡ u
  adds_one NoneSaid CycleLine t u x y = x ∙ sym y
  adds_one NoneSaid RunLine t u x y = x ∙ sym y
  adds_one NoneSaid (EndsLine a b) t u x y =
      x.4 ∙ ap (λ (j : ℕ). EventsSaid j x.1) (event_one p lawful x.0 y.0 a x.2 y.2) ∙ ap (λ (k : ℕ). EventsSaid y.0 k) (event_one p lawful x.1 y.1 b x.3 y.3) ∙ sym y.4
  adds_one NoneSaid (SideLine side v) t u x y = absurd x
  adds_one NoneSaid (StepLine n z) t u x y = absurd x
  adds_one NoneSaid (InsideLine c) t u x y = absurd x
  adds_one NoneSaid (NodeLine l) t u x y = absurd x
  adds_one (CycleSaid steps) (StepLine n z) t u x y = x.2 ∙ ap (λ (b : Bound). CycleSaid (steps ++ record { bound = b; weight = z } ∷ [])) (names_one p lawful n x.0 y.0 x.1 y.1) ∙ sym y.2
  adds_one (CycleSaid steps) CycleLine t u x y = absurd x
  adds_one (CycleSaid steps) RunLine t u x y = absurd x
  adds_one (CycleSaid steps) (EndsLine a b) t u x y = absurd x
  adds_one (CycleSaid steps) (SideLine side v) t u x y = absurd x
  adds_one (CycleSaid steps) (InsideLine c) t u x y = absurd x
  adds_one (CycleSaid steps) (NodeLine l) t u x y = absurd x
  adds_one (RunSaid vs) (NodeLine l) t u x y = x.2 ∙ ap RunSaid (timed.adds_one vs l x.0 y.0 x.1 y.1) ∙ sym y.2
  adds_one (RunSaid vs) CycleLine t u x y = absurd x
  adds_one (RunSaid vs) RunLine t u x y = absurd x
  adds_one (RunSaid vs) (EndsLine a b) t u x y = absurd x
  adds_one (RunSaid vs) (SideLine side v) t u x y = absurd x
  adds_one (RunSaid vs) (StepLine n z) t u x y = absurd x
  adds_one (RunSaid vs) (InsideLine c) t u x y = absurd x
  adds_one (EventsSaid a b) (SideLine Upper v) t u x y = x ∙ sym y
  adds_one (EventsSaid a b) (SideLine Lower v) t u x y = absurd x
  adds_one (EventsSaid a b) CycleLine t u x y = absurd x
  adds_one (EventsSaid a b) RunLine t u x y = absurd x
  adds_one (EventsSaid a b) (EndsLine c d) t u x y = absurd x
  adds_one (EventsSaid a b) (StepLine n z) t u x y = absurd x
  adds_one (EventsSaid a b) (InsideLine c) t u x y = absurd x
  adds_one (EventsSaid a b) (NodeLine l) t u x y = absurd x
  adds_one (UpperSaid a b e) (SideLine Lower v) t u x y = x ∙ sym y
  adds_one (UpperSaid a b e) (SideLine Upper v) t u x y = upper_one a b e (SideLine Upper v) t u x y
  adds_one (UpperSaid a b e) CycleLine t u x y = upper_one a b e CycleLine t u x y
  adds_one (UpperSaid a b e) RunLine t u x y = upper_one a b e RunLine t u x y
  adds_one (UpperSaid a b e) (EndsLine c d) t u x y = upper_one a b e (EndsLine c d) t u x y
  adds_one (UpperSaid a b e) (StepLine n z) t u x y = upper_one a b e (StepLine n z) t u x y
  adds_one (UpperSaid a b e) (InsideLine c) t u x y = upper_one a b e (InsideLine c) t u x y
  adds_one (UpperSaid a b e) (NodeLine l) t u x y = upper_one a b e (NodeLine l) t u x y
  adds_one (EndsSaid a b e l) line t u x y = x.2 ∙ ap (EndsSaid a b e) (end_one l line x.0 y.0 x.1 y.1) ∙ sym y.2

  end_adds : (s t : Said) → Adds p readings s (NodeLine EndLine) t → ⊥
  end_adds NoneSaid t x = x
  end_adds (CycleSaid steps) t x = x
  end_adds (RunSaid vs) t x = x.1
  end_adds (EventsSaid a b) t x = x
  end_adds (UpperSaid a b (Limited v path vs)) t x = x.1.1
  end_adds (UpperSaid a b (Unlimited inside vs)) t x = x.1.1
  end_adds (EndsSaid a b e (Limited v path vs)) t x = x.1.1
  end_adds (EndsSaid a b e (Unlimited inside vs)) t x = x.1.1

-- ---- the last line
module _ (p : ProblemLists) (readings : List Reading) (lawful : IsProblem p) (are : AreReadings p readings) where
  abbrev nodes : ℕ
  nodes = length (nodes_of p readings)

  -- the end e is one line smaller than t
  record Before (e : EndLists) (line : CertLine) (t : EndLists) : Type 0 where
    sound : IsSoundEnd p readings e
    upper : (a b : ℕ) → MayStand p readings (UpperSaid a b e) line
    lower : (a b : ℕ) (u : EndLists) → MayStand p readings (EndsSaid a b u e) line
    spelled : IsSpelled line
    names : NamesFitIn p readings (end_inside e) (end_values e) line
    numbers : NumbersFit line
    room : HasRoomIn (end_steps e) line
    adds_upper : (a b : ℕ) → Adds p readings (UpperSaid a b e) line (UpperSaid a b t)
    adds_lower : (a b : ℕ) (u : EndLists) → Adds p readings (EndsSaid a b u e) line (EndsSaid a b u t)
    grows : EndGrows p readings e t (line_of (cert_words line))

  abbrev EndLast : EndLists → Type 0
  EndLast t = ((v : Option ℤ) × (t ≡ begun v) × IfSome v FitsUnits) ⊎ ((e : EndLists) × (line : CertLine) × Before e line t)

  abbrev pub Value : List ℤ → ExecutionLine → List ℤ → Type 0
  Value vs l ws = IsStep (executions.execution_format p readings) timed.Adds vs l ws

  limited_before : (v : ℤ) (path : List Step) (vs ws : List ℤ) (l : ExecutionLine) → IsSoundEnd p readings (Limited v path vs) → Value vs l ws → Before (Limited v path vs) (NodeLine l) (Limited v path ws)
  limited_before v path vs ws (EventLine name z) sound step = record {
    sound = sound;
    upper = λ a b. step.may;
    lower = λ a b u. step.may;
    spelled = step.spelled;
    names = step.names;
    numbers = step.numbers;
    room = tt;
    adds_upper = λ a b. (Limited v path ws, (ws, step.adds, refl), refl);
    adds_lower = λ a b u. (Limited v path ws, (ws, step.adds, refl), refl);
    grows = limited_grows p readings v path vs ws _ step.grows;
  }
  limited_before v path vs ws (ReadingLine clock m z) sound step = record {
    sound = sound;
    upper = λ a b. step.may;
    lower = λ a b u. step.may;
    spelled = step.spelled;
    names = step.names;
    numbers = step.numbers;
    room = tt;
    adds_upper = λ a b. (Limited v path ws, (ws, step.adds, refl), refl);
    adds_lower = λ a b u. (Limited v path ws, (ws, step.adds, refl), refl);
    grows = limited_grows p readings v path vs ws _ step.grows;
  }
  limited_before v path vs ws EndLine sound step = absurd step.adds

  unlimited_before : (inside : List ℕ) (vs ws : List ℤ) (l : ExecutionLine) → IsSoundEnd p readings (Unlimited inside vs) → Value vs l ws → Before (Unlimited inside vs) (NodeLine l) (Unlimited inside ws)
  unlimited_before inside vs ws (EventLine name z) sound step = record {
    sound = sound;
    upper = λ a b. step.may;
    lower = λ a b u. step.may;
    spelled = step.spelled;
    names = step.names;
    numbers = step.numbers;
    room = tt;
    adds_upper = λ a b. (Unlimited inside ws, (ws, step.adds, refl), refl);
    adds_lower = λ a b u. (Unlimited inside ws, (ws, step.adds, refl), refl);
    grows = unlimited_grows p readings inside vs ws _ step.grows;
  }
  unlimited_before inside vs ws (ReadingLine clock m z) sound step = record {
    sound = sound;
    upper = λ a b. step.may;
    lower = λ a b u. step.may;
    spelled = step.spelled;
    names = step.names;
    numbers = step.numbers;
    room = tt;
    adds_upper = λ a b. (Unlimited inside ws, (ws, step.adds, refl), refl);
    adds_lower = λ a b u. (Unlimited inside ws, (ws, step.adds, refl), refl);
    grows = unlimited_grows p readings inside vs ws _ step.grows;
  }
  unlimited_before inside vs ws EndLine sound step = absurd step.adds

  steps_init : (steps : List Step) (s : Step) → AreSteps p (steps ++ s ∷ []) → AreSteps p steps
  steps_init steps s are = record {
    declared = all_init (IsStepOf p) steps s are.declared;
    weights = all_init (λ x. FitsUnits x.weight) steps s are.weights;
    few = omega (arith, are.few, length-append steps (s ∷ []));
  }

  inside_init : (inside : List ℕ) (k : ℕ) → AreInside p (inside ++ k ∷ []) → AreInside p inside
  inside_init inside k are = record {
    known = all_init (λ i. i < length p.clocks) inside k are.known;
    rising = pairs_init (λ i j. i < j) inside k are.rising;
  }

  none_are : AreValues nodes []
  none_are = record { fit = λ k d inside. absurd (omega (arith, inside)); few = omega arith }

  path_before : (v : ℤ) (path : List Step) (s : Step) → FitsUnits v → AreSteps p (path ++ s ∷ []) → (line : CertLine) × Before (Limited v path []) line (Limited v (path ++ s ∷ []) [])
  path_before v path s fits steps =
      let named = declared_named p lawful s.bound (all_last (IsStepOf p) path s steps.declared) in (
        StepLine named.0 s.weight,
        record {
          sound = (fits, steps_init path s steps, none_are);
          upper = λ a b. refl;
          lower = λ a b u. refl;
          spelled = named.2;
          names = (s.bound, named.1, all_last (IsStepOf p) path s steps.declared);
          numbers = all_last (λ x. FitsUnits x.weight) path s steps.weights;
          room = omega (arith, steps.few, length-append path (s ∷ []));
          adds_upper = λ a b. (Limited v (path ++ s ∷ []) [], (s.bound, named.1, refl), refl);
          adds_lower = λ a b u. (Limited v (path ++ s ∷ []) [], (s.bound, named.1, refl), refl);
          grows = path_grows p readings v path s _ (step_spelled p named.0 s.bound s.weight named.1);
        },
      )

  inside_before : (inside : List ℕ) (k : ℕ) → AreInside p (inside ++ k ∷ []) → (line : CertLine) × Before (Unlimited inside []) line (Unlimited (inside ++ k ∷ []) [])
  inside_before inside k cut =
      let known = all_last (λ i. i < length p.clocks) inside k cut.known in
      let at = clock_has p.clocks k known in (
        InsideLine (clock_name p.clocks k),
        record {
          sound = (inside_init inside k cut, none_are);
          upper = λ a b. refl;
          lower = λ a b u. refl;
          spelled = clock_named p.clocks k lawful.formed.clock_names known;
          names = (k, at, λ i d within. pairs_last (λ i j. i < j) inside k cut.rising i d within);
          numbers = tt;
          room = tt;
          adds_upper = λ a b. (Unlimited (inside ++ k ∷ []) [], (k, at, refl), refl);
          adds_lower = λ a b u. (Unlimited (inside ++ k ∷ []) [], (k, at, refl), refl);
          grows = inside_grows p readings inside k _ refl;
        },
      )

  pub value_last : (z : ℤ) (zs : List ℤ) → AreValues nodes (z ∷ zs) → (front : List ℤ) × (l : ExecutionLine) × Value front l (z ∷ zs)
  value_last z zs all = let r = timed.last_line p readings (are_named p readings lawful are) (z ∷ zs) (length zs) all refl in (r.0, r.1, r.3)

  end_last : (t : EndLists) → IsSoundEnd p readings t → EndLast t
  end_last (Limited v path (z ∷ zs)) sound =
      let r = value_last z zs sound.2 in
      inr (Limited v path r.0, NodeLine r.1, limited_before v path r.0 (z ∷ zs) r.1 (sound.0, sound.1, r.2.sound) r.2)
  end_last (Limited v path []) sound =
      elim (ended path) [
        | inr s ↦
            let r = path_before v s.front s.last sound.0 (subst (AreSteps p) s.is sound.1) in
            inr (Limited v s.front [], r.0, subst (λ (steps : List Step). Before (Limited v s.front []) r.0 (Limited v steps [])) (sym s.is) r.1)
        | inl none ↦ inl (Some v, ap (λ (steps : List Step). Limited v steps []) none, sound.0)
      ]
  end_last (Unlimited inside (z ∷ zs)) sound =
      let r = value_last z zs sound.1 in
      inr (Unlimited inside r.0, NodeLine r.1, unlimited_before inside r.0 (z ∷ zs) r.1 (sound.0, r.2.sound) r.2)
  end_last (Unlimited inside []) sound =
      elim (ended inside) [
        | inr s ↦
            let r = inside_before s.front s.last (subst (AreInside p) s.is sound.0) in
            inr (Unlimited s.front [], r.0, subst (λ (ks : List ℕ). Before (Unlimited s.front []) r.0 (Unlimited ks [])) (sym s.is) r.1)
        | inl none ↦ inl (None, ap (λ (ks : List ℕ). Unlimited ks []) none, tt)
      ]

  abbrev pub OneLine : Said → CertLine → Said → Type 0
  OneLine s line t = IsStep (certificate_format p readings) (Adds p readings) s line t

  abbrev LastLine : Said → Type 0
  LastLine t = (s : Said) × (line : CertLine) × OneLine s line t

  -- a list of steps is empty, or a step of a cycle more
  pub step_last : (steps : List Step) → AreSteps p steps → (steps ≡ []) ⊎ ((front : List Step) × (line : CertLine) × OneLine (CycleSaid front) line (CycleSaid steps))
  step_last steps all =
      elim (ended steps) [
        | inl none ↦ inl none
        | inr s ↦
            let whole = subst (AreSteps p) s.is all in
            let declared = all_last (IsStepOf p) s.front s.last whole.declared in
            let named = declared_named p lawful s.last.bound declared in
            inr (
              s.front,
              StepLine named.0 s.last.weight,
              subst (λ (xs : List Step). OneLine (CycleSaid s.front) (StepLine named.0 s.last.weight) (CycleSaid xs)) (sym s.is) (record {
                sound = steps_init s.front s.last whole;
                may = tt;
                spelled = named.2;
                names = (s.last.bound, named.1, declared);
                numbers = all_last (λ x. FitsUnits x.weight) s.front s.last whole.weights;
                room = omega (arith, whole.few, length-append s.front (s.last ∷ []));
                adds = (s.last.bound, named.1, refl);
                grows = cycle_grows p readings s.front s.last _ (step_spelled p named.0 s.last.bound s.last.weight named.1);
              }),
            )
      ]

  cycle_last : (steps : List Step) → AreSteps p steps → LastLine (CycleSaid steps)
  cycle_last steps all =
      elim (step_last steps all) [
        | inl none ↦ subst (λ (xs : List Step). LastLine (CycleSaid xs)) (sym none) (
          NoneSaid,
          CycleLine,
          record { sound = tt; may = tt; spelled = tt; names = tt; numbers = tt; room = tt; adds = refl; grows = cycle_begins p readings },
        )
        | inr (front, line, step) ↦ (CycleSaid front, line, step)
      ]

  run_last : (vs : List ℤ) → AreValues nodes vs → LastLine (RunSaid vs)
  run_last [] all = (NoneSaid, RunLine, record { sound = tt; may = tt; spelled = tt; names = tt; numbers = tt; room = tt; adds = refl; grows = run_begins p readings })
  run_last (z ∷ zs) all =
      let r = value_last z zs all in
      let step = r.2 in (
        RunSaid r.0,
        NodeLine r.1,
        record {
          sound = step.sound;
          may = step.may;
          spelled = step.spelled;
          names = step.names;
          numbers = step.numbers;
          room = tt;
          adds = (z ∷ zs, step.adds, refl);
          grows = run_grows p readings r.0 (z ∷ zs) _ step.grows;
        },
      )

  events_last : (a b : ℕ) → AreEvents p a b → LastLine (EventsSaid a b)
  events_last a b known =
      let at = event_has p.events a known.0 in
      let at' = event_has p.events b known.1 in (
        NoneSaid,
        EndsLine (event_name p.events a) (event_name p.events b),
        record {
          sound = tt;
          may = tt;
          spelled = (event_named p.events a lawful.formed.event_names known.0, event_named p.events b lawful.formed.event_names known.1);
          names = (a, b, at, at');
          numbers = tt;
          room = tt;
          adds = (a, b, at, at', refl);
          grows = events_begin p readings a b (event_name p.events a) (event_name p.events b) at at';
        },
      )

  upper_last : (a b : ℕ) (e : EndLists) → AreEvents p a b → IsSoundEnd p readings e → LastLine (UpperSaid a b e)
  upper_last a b e known sound =
      elim (end_last e sound) [
        | inl (v, is, fits) ↦ subst (λ (x : EndLists). LastLine (UpperSaid a b x)) (sym is) (
          EventsSaid a b,
          SideLine Upper v,
          record { sound = known; may = tt; spelled = tt; names = tt; numbers = fits; room = tt; adds = refl; grows = upper_begins p readings a b v },
        )
        | inr (f, line, before) ↦ (
          UpperSaid a b f,
          line,
          record {
            sound = (known, before.sound);
            may = before.upper a b;
            spelled = before.spelled;
            names = before.names;
            numbers = before.numbers;
            room = before.room;
            adds = before.adds_upper a b;
            grows = upper_grows p readings a b f e _ before.grows;
          },
        )
      ]

  ends_last : (a b : ℕ) (u e : EndLists) → AreEvents p a b → IsSoundEnd p readings u × IsWhole p readings u → IsSoundEnd p readings e → LastLine (EndsSaid a b u e)
  ends_last a b u e known upper sound =
      elim (end_last e sound) [
        | inl (v, is, fits) ↦ subst (λ (x : EndLists). LastLine (EndsSaid a b u x)) (sym is) (
          UpperSaid a b u,
          SideLine Lower v,
          record { sound = (known, upper.0); may = upper.1; spelled = tt; names = tt; numbers = fits; room = tt; adds = refl; grows = lower_begins p readings a b u v },
        )
        | inr (f, line, before) ↦ (
          EndsSaid a b u f,
          line,
          record {
            sound = (known, upper, before.sound);
            may = before.lower a b u;
            spelled = before.spelled;
            names = before.names;
            numbers = before.numbers;
            room = before.room;
            adds = before.adds_lower a b u;
            grows = ends_grow p readings a b u f e _ before.grows;
          },
        )
      ]

  some_last : (t : Said) (n : ℕ) → IsSound p readings t → said_size t ≡ suc n → LastLine t
  some_last NoneSaid n sound len = absurd (omega (arith, len))
  some_last (CycleSaid steps) n sound len = cycle_last steps sound
  some_last (RunSaid vs) n sound len = run_last vs sound
  some_last (EventsSaid a b) n sound len = events_last a b sound
  some_last (UpperSaid a b e) n sound len = upper_last a b e sound.0 sound.1
  some_last (EndsSaid a b u e) n sound len = ends_last a b u e sound.0 sound.1 sound.2

  last_line : (t : Said) (n : ℕ) → IsSound p readings t → said_size t ≡ suc n → (s : Said) × (line : CertLine) × (said_size s ≡ n) × OneLine s line t
  last_line t n sound len =
      let r = some_last t n sound len in
      let lines = r.2.grows.lines in
      (r.0, r.1, omega (arith, lines, len), r.2)

  start_only : (s : Said) → said_size s ≡ 0 → s ≡ NoneSaid
  start_only NoneSaid len = refl
  start_only (CycleSaid steps) len = absurd (omega (arith, len))
  start_only (RunSaid vs) len = absurd (omega (arith, len))
  start_only (EventsSaid a b) len = absurd (omega (arith, len))
  start_only (UpperSaid a b e) len = absurd (omega (arith, len))
  start_only (EndsSaid a b u e) len = absurd (omega (arith, len))

  readable : IsReadable (certificate_format p readings) (Adds p readings) NoneSaid said_size
  readable = record {
    lacks = cert_lacks;
    one_line = cert_line_one;
    one_next = λ s line t u sound x y. adds_one p readings lawful s line t u x y;
    end_spelled = tt;
    end_fits = λ s. (tt, tt, tt);
    end_adds = λ s t x. end_adds p readings lawful s t x;
    start_text = refl;
    start_size = λ s sound len. start_only s len;
    last_line = last_line;
  }

pub certificate_one : (p : ProblemLists) (readings : List Reading) (text : List ℕ) (a b : Answer Said) → IsProblem p → AreReadings p readings →
    Answers (certificate_format p readings) text a → Answers (certificate_format p readings) text b → a ≡ b
certificate_one p readings text a b lawful are = answers_one (certificate_format p readings) (Adds p readings) NoneSaid said_size (readable p readings lawful are) text a b
