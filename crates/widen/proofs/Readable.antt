-- A widening's text has one answer.
use Rattle.std.proofs.Common.{◌≡◌, ◌⊎◌, ◌<◌, ◌^◌, inl, inr, ℕ, suc, List, [], ◌∷◌, Option, Some, None, Result, Ok, Err, refl, sym, ◌∙◌, ap, subst, arith, ℤ}
use Rattle.std.specs.Prelude.{IfSome}
use Rattle.line_format.specs.Format.{Answers, Answer}
use Rattle.line_format.specs.Format.Answer.{Found, Faulty}
use Rattle.line_format.specs.declared.fault.FaultKind.TheVariants as kinds
use Rattle.line_format.proofs.Readable.{IsStep, IsReadable}
use Rattle.line_format.proofs.OneAnswer.{answers_one}
use Rattle.problem_model.specs.Problem.{ProblemLists, IsProblem}
use Rattle.problem_model.specs.Nodes.{Reading, AreReadings}
use Rattle.cert.specs.declared.chain.Step.{Step}
use Rattle.cert.specs.declared.error.CertError.{CertError}
use Rattle.cert.specs.declared.error.CertError.TheVariants as errors
use Rattle.cert.specs.ExecutionFormat as executions
use Rattle.cert.specs.ExecutionFormat.{ExecutionLine}
use Rattle.cert.specs.ExecutionFormat.ExecutionLine.{EventLine, ReadingLine, EndLine}
use Rattle.cert.specs.CertificateFormat.CertLine.{CycleLine, RunLine, EndsLine, SideLine, StepLine, InsideLine, NodeLine}
use Rattle.cert.specs.CertificateFormat.Said.{CycleSaid}
use Rattle.cert.proofs.Executions as timed
use Rattle.cert.proofs.CertReadable as certified
use Rattle.cert_check.specs.declared.what.What.{What}
use Rattle.widen.specs.declared.widening.Widening.{Widening}
use Rattle.widen.specs.declared.widening.StatedWidening.{StatedWidening}
use Rattle.widen.specs.declared.widening.Widening.TheVariants.{Least, Never}
use Rattle.widen.specs.Named.{NamesWhat, stated_words, StatesWhat}
use Rattle.widen.specs.WideningFormat.{WideningLine, WideningSaid, AreTimes, IsCycle, IsSound, said, said_size, widening_format}
use Rattle.widen.specs.WideningFormat.WideningLine.{LeastLine, PartLine}
use Rattle.widen.specs.WideningFormat.WideningSaid.{NoneSaid, Said}
use Rattle.widen.specs.ReadsWidening.{IsWideningTextOf, ReadsWideningOver}
use Rattle.widen.proofs.Naming.{what_one, what_spelled}
use Rattle.widen.proofs.Lines.{widening_lacks, widening_line_one}
use Rattle.widen.proofs.Growing.{least_begins, times_grow, cycle_begins, steps_grow}
use Rattle.widen.proofs.Reading.{found_is}

-- ---- what a line adds
abbrev Adds : ProblemLists → List Reading → WideningSaid → WideningLine → WideningSaid → Type 0
Adds p readings NoneSaid (LeastLine e named) t = (what : What) × StatesWhat p named what × (t ≡ Said what e [] None)
Adds p readings (Said what e vs None) (PartLine (NodeLine l)) t = (ws : List ℤ) × timed.Adds vs l ws × (t ≡ Said what e ws None)
Adds p readings (Said what e vs None) (PartLine CycleLine) t = t ≡ Said what e vs (Some [])
Adds p readings (Said what e vs (Some steps)) (PartLine line) t = (new : List Step) × certified.Adds p readings (CycleSaid steps) line (CycleSaid new) × (t ≡ Said what e vs (Some new))
Adds p readings s line t = ⊥

same_steps : (a b : List Step) → CycleSaid a ≡ CycleSaid b → a ≡ b
same_steps a b is = cc

module _ (p : ProblemLists) (readings : List Reading) (lawful : IsProblem p) where
  adds_one : (s : WideningSaid) (line : WideningLine) (t u : WideningSaid) → Adds p readings s line t → Adds p readings s line u → t ≡ u
  adds_one NoneSaid (LeastLine e named) t u x y = x.2 ∙ ap (λ (w : What). Said w e [] None) (what_one p lawful x.0 y.0 named x.1 y.1) ∙ sym y.2
  adds_one NoneSaid (PartLine line) t u x y = absurd x
  adds_one (Said what e vs None) (LeastLine f named) t u x y = absurd x
  adds_one (Said what e vs None) (PartLine CycleLine) t u x y = x ∙ sym y
  adds_one (Said what e vs None) (PartLine RunLine) t u x y = absurd x
  adds_one (Said what e vs None) (PartLine (EndsLine a b)) t u x y = absurd x
  adds_one (Said what e vs None) (PartLine (SideLine side v)) t u x y = absurd x
  adds_one (Said what e vs None) (PartLine (StepLine n z)) t u x y = absurd x
  adds_one (Said what e vs None) (PartLine (InsideLine c)) t u x y = absurd x
  adds_one (Said what e vs None) (PartLine (NodeLine l)) t u x y = x.2 ∙ ap (λ (ws : List ℤ). Said what e ws None) (timed.adds_one vs l x.0 y.0 x.1 y.1) ∙ sym y.2
  adds_one (Said what e vs (Some steps)) (LeastLine f named) t u x y = absurd x
  adds_one (Said what e vs (Some steps)) (PartLine line) t u x y =
      x.2 ∙ ap (λ (xs : List Step). Said what e vs (Some xs)) (same_steps x.0 y.0 (certified.adds_one p readings lawful (CycleSaid steps) line (CycleSaid x.0) (CycleSaid y.0) x.1 y.1)) ∙ sym y.2

  end_adds : (s t : WideningSaid) → Adds p readings s (PartLine (NodeLine EndLine)) t → ⊥
  end_adds NoneSaid t x = x
  end_adds (Said what e vs None) t x = x.1
  end_adds (Said what e vs (Some steps)) t x = x.1

-- ---- the last line
module _ (p : ProblemLists) (readings : List Reading) (lawful : IsProblem p) (are : AreReadings p readings) where
  abbrev OneLine : WideningSaid → WideningLine → WideningSaid → Type 0
  OneLine s line t = IsStep (widening_format p readings) (Adds p readings) s line t

  abbrev LastLine : WideningSaid → Type 0
  LastLine t = (s : WideningSaid) × (line : WideningLine) × OneLine s line t

  -- the line of the widening
  extra_fits : (e : Option ℕ) → AreTimes p readings e [] → IfSome e (λ n. n < 2 ^ 62)
  extra_fits None times = tt
  extra_fits (Some e) times = times.0

  least_last : (what : What) (e : Option ℕ) → AreTimes p readings e [] → NamesWhat p what → LastLine (Said what e [] None)
  least_last what e times named = (
    NoneSaid,
    LeastLine e (stated_words p what),
    record {
      sound = tt;
      may = tt;
      spelled = what_spelled p lawful what named;
      names = (what, (named, refl));
      numbers = extra_fits e times;
      room = tt;
      adds = (what, (named, refl), refl);
      grows = least_begins p readings what e;
    },
  )

  -- the line of a node
  abbrev Value : List ℤ → ExecutionLine → List ℤ → Type 0
  Value vs l ws = IsStep (executions.execution_format p readings) timed.Adds vs l ws

  time_last : (what : What) (e : ℕ) (vs ws : List ℤ) (l : ExecutionLine) → e < 2 ^ 62 → NamesWhat p what → Value vs l ws → LastLine (Said what (Some e) ws None)
  time_last what e vs ws (EventLine name z) within named step = (
    Said what (Some e) vs None,
    PartLine (NodeLine (EventLine name z)),
    record {
      sound = ((within, step.sound), tt, named);
      may = step.may;
      spelled = step.spelled;
      names = step.names;
      numbers = step.numbers;
      room = tt;
      adds = (ws, step.adds, refl);
      grows = times_grow p readings what (Some e) vs ws _ step.grows;
    },
  )
  time_last what e vs ws (ReadingLine clock m z) within named step = (
    Said what (Some e) vs None,
    PartLine (NodeLine (ReadingLine clock m z)),
    record {
      sound = ((within, step.sound), tt, named);
      may = step.may;
      spelled = step.spelled;
      names = step.names;
      numbers = step.numbers;
      room = tt;
      adds = (ws, step.adds, refl);
      grows = times_grow p readings what (Some e) vs ws _ step.grows;
    },
  )
  time_last what e vs ws EndLine within named step = absurd step.adds

  times_last : (what : What) (e : Option ℕ) (vs : List ℤ) → AreTimes p readings e vs → NamesWhat p what → LastLine (Said what e vs None)
  times_last what e [] times named = least_last what e times named
  times_last what None (z ∷ zs) times named = absurd cc
  times_last what (Some e) (z ∷ zs) times named = let r = certified.value_last p readings lawful are z zs times.1 in time_last what e r.0 (z ∷ zs) r.1 times.0 named r.2

  -- the line of a step, or the first line of a cycle
  cycle_last : (what : What) (e : Option ℕ) (vs : List ℤ) (steps : List Step) → AreTimes p readings e vs → IsCycle p readings e vs (Some steps) → NamesWhat p what → LastLine (Said what e vs (Some steps))
  cycle_last what e vs steps times cycle named =
      elim (certified.step_last p readings lawful are steps cycle.1) [
        | inl none ↦ subst (λ (xs : List Step). LastLine (Said what e vs (Some xs))) (sym none) (
          Said what e vs None,
          PartLine CycleLine,
          record { sound = (times, tt, named); may = cycle.0; spelled = tt; names = tt; numbers = tt; room = tt; adds = refl; grows = cycle_begins p readings what e vs },
        )
        | inr (front, line, step) ↦ (
          Said what e vs (Some front),
          PartLine line,
          record {
            sound = (times, (cycle.0, step.sound), named);
            may = step.may;
            spelled = step.spelled;
            names = step.names;
            numbers = step.numbers;
            room = step.room;
            adds = (steps, step.adds, refl);
            grows = steps_grow p readings what e vs front steps _ step.grows;
          },
        )
      ]

  some_last : (t : WideningSaid) (n : ℕ) → IsSound p readings t → said_size t ≡ suc n → LastLine t
  some_last NoneSaid n sound len = absurd (omega (arith, len))
  some_last (Said what e vs None) n sound len = times_last what e vs sound.0 sound.2
  some_last (Said what e vs (Some steps)) n sound len = cycle_last what e vs steps sound.0 sound.1 sound.2

  last_line : (t : WideningSaid) (n : ℕ) → IsSound p readings t → said_size t ≡ suc n → (s : WideningSaid) × (line : WideningLine) × (said_size s ≡ n) × OneLine s line t
  last_line t n sound len =
      let r = some_last t n sound len in
      let lines = r.2.grows.lines in
      (r.0, r.1, omega (arith, lines, len), r.2)

  start_only : (s : WideningSaid) → said_size s ≡ 0 → s ≡ NoneSaid
  start_only NoneSaid len = refl
  start_only (Said what e vs cycle) len = absurd (omega (arith, len))

  readable : IsReadable (widening_format p readings) (Adds p readings) NoneSaid said_size
  readable = record {
    lacks = widening_lacks;
    one_line = widening_line_one;
    one_next = λ s line t u sound x y. adds_one p readings lawful s line t u x y;
    end_spelled = tt;
    end_fits = λ s. (tt, tt, tt);
    end_adds = λ s t x. end_adds p readings lawful s t x;
    start_text = refl;
    start_size = λ s sound len. start_only s len;
    last_line = last_line;
  }

pub widening_one : (p : ProblemLists) (readings : List Reading) (text : List ℕ) (a b : Answer WideningSaid) → IsProblem p → AreReadings p readings →
    Answers (widening_format p readings) text a → Answers (widening_format p readings) text b → a ≡ b
widening_one p readings text a b lawful are = answers_one (widening_format p readings) (Adds p readings) NoneSaid said_size (readable p readings lawful are) text a b

-- ---- what was written is read again
same_widening : (a b : What) (v w : Widening) → said a v ≡ said b w → (a ≡ b) × (v ≡ w)
same_widening a b (Least e x c) (Least f y d) is = (cc, cc)
same_widening a b (Never c) (Never d) is = (cc, cc)
same_widening a b (Least e x c) (Never d) is = absurd cc
same_widening a b (Never c) (Least f y d) is = absurd cc

same_stated : (s t : StatedWidening) → (s.what ≡ t.what) × (s.widening ≡ t.widening) → s ≡ t
same_stated s t is = ap (λ (a : What). record { what = a; widening = s.widening }) is.0 ∙ ap (λ (v : Widening). record { what = t.what; widening = v }) is.1

said_of : Answer WideningSaid → WideningSaid
said_of (Found s) = s
said_of (Faulty kind n) = NoneSaid
said_of Answer.Long = NoneSaid

module _ (p : ProblemLists) (readings : List Reading) (lawful : IsProblem p) (are : AreReadings p readings) where
  pub read_again : (w : StatedWidening) (text : List ℕ) (result : Result StatedWidening CertError) → IsWideningTextOf p readings w.what w.widening text → ReadsWideningOver p readings text result → (result ≡ Ok w) ⊎ (result ≡ Err errors.Memory)
  unfolding said_of
  read_again w text (Ok v) is reads =
      let same = widening_one p readings text (Found (said v.what v.widening)) (Found (said w.what w.widening)) lawful are ((found_is p readings are v.what v.widening text).0 reads) ((found_is p readings are w.what w.widening text).0 is) in
      inl (ap Ok (same_stated v w (same_widening v.what w.what v.widening w.widening (ap said_of same))))
  read_again w text (Err errors.Memory) is reads = inr refl
  read_again w text (Err errors.Long) is reads = absurd (omega (arith, is.0, reads))
  read_again w text (Err (errors.Syntax n)) is reads = absurd (let e = widening_one p readings text (Found (said w.what w.widening)) (Faulty kinds.Syntax n) lawful are ((found_is p readings are w.what w.widening text).0 is) reads in cc)
  read_again w text (Err (errors.Name n)) is reads = absurd (let e = widening_one p readings text (Found (said w.what w.widening)) (Faulty kinds.Name n) lawful are ((found_is p readings are w.what w.widening text).0 is) reads in cc)
  read_again w text (Err (errors.Range n)) is reads = absurd (let e = widening_one p readings text (Found (said w.what w.widening)) (Faulty kinds.Range n) lawful are ((found_is p readings are w.what w.widening text).0 is) reads in cc)
  read_again w text (Err (errors.Limit n)) is reads = absurd (let e = widening_one p readings text (Found (said w.what w.widening)) (Faulty kinds.Limit n) lawful are ((found_is p readings are w.what w.widening text).0 is) reads in cc)
