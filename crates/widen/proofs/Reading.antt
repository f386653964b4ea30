-- From the lines of a text to what the whole text answers.
use Rattle.std.proofs.Common.{◌≡◌, ◌≢◌, ◌↔◌, ◌<◌, ◌≤◌, ◌+◌, ◌^◌, ℕ, List, [], ◌∷◌, ◌++◌, length, Option, Some, None, Ok, Err, codes, refl, sym, ◌∙◌, ap, subst, arith, ℤ, append_assoc, append-nil}
use Rattle.line_format.specs.Words.{words, line_of}
use Rattle.line_format.specs.Cut.{cut}
use Rattle.line_format.specs.Format.{Format, Answers, Takes, whole_text, most_text_bytes}
use Rattle.line_format.specs.Format.Front.{Open, Closed}
use Rattle.line_format.specs.Format.Answer.{Found, Faulty}
use Rattle.line_format.specs.declared.fault.FaultKind.{FaultKind}
use Rattle.line_format.specs.declared.fault.FaultKind.TheVariants as kinds
use Rattle.line_format.specs.declared.fault.LineError.{LineError}
use Rattle.line_format.specs.declared.fault.LineError.TheVariants as lines
use Rattle.line_format.specs.declared.fault.Taken.TheVariants as taken
use Rattle.line_format.proofs.Reading.{Stands, fault_answers, cut_answers, stands_on}
use Rattle.problem_model.specs.Problem.{ProblemLists}
use Rattle.problem_model.specs.Nodes.{Reading, AreReadings, nodes_of}
use Rattle.cert.specs.ExecutionFormat.{ExecutionLine}
use Rattle.cert.specs.ExecutionFormat.ExecutionLine.{EventLine, ReadingLine, EndLine}
use Rattle.cert.specs.CertificateFormat.CertLine.{NodeLine}
use Rattle.cert.specs.ReadsExecution.{error_at}
use Rattle.cert.proofs.CertGrowing.{values_none}
use Rattle.cert.proofs.PartTaking.{no_steps}
use Rattle.cert.proofs.CertTaking.{none_fit, no_value}
use Rattle.cert.proofs.CertReading.{whole_from, values_from}
use Rattle.cert_check.specs.declared.what.What.{What}
use Rattle.widen.specs.declared.widening.Widening.{Widening}
use Rattle.widen.specs.declared.widening.Widening.TheVariants.{Least, Never}
use Rattle.widen.specs.Named.{NamesWhat, stated_words, StatesWhat, AreStated}
use Rattle.widen.specs.Widening.{IsWideningOf}
use Rattle.widen.specs.WideningText.{widening_head, least_words, least_line, cycle_lines, widening_text}
use Rattle.widen.specs.WideningFormat.{WideningLine, WideningSaid, line_words, IsSpelled, IsWhole, MayBegin, MayRun, MayStand, AreTimes, IsSound, said, said_lines, widening_format}
use Rattle.widen.specs.WideningFormat.WideningLine.{LeastLine, PartLine}
use Rattle.widen.specs.WideningFormat.WideningSaid.{NoneSaid, Said}
use Rattle.widen.specs.ReadsWidening.{FitsWidening, IsWideningTextOf, RefusesText}
use Rattle.widen.specs.declared.read.Extra.{Extra}
use Rattle.widen.specs.declared.read.Extra.TheVariants as extras
use Rattle.widen.specs.declared.read.Extra.TheVariants.{Of, TooMuch}
use Rattle.widen.specs.ReadsLines.{IsStated, IsStatedIn, IsBehind}
use Rattle.widen.proofs.Lines.{widening_lacks}
use Rattle.widen.proofs.Growing.{GrowsTo, least_begins, cycle_begins}
use Rattle.widen.proofs.Taking.{before_cycle}

module _ (p : ProblemLists) (readings : List Reading) where
  abbrev format : Format WideningSaid WideningLine
  format = widening_format p readings

  abbrev text_of : WideningSaid → List ℕ
  text_of s = line_of widening_head ++ said_lines p readings s

  abbrev Behind : List ℕ → List ℕ → WideningSaid → ℕ → Type 0
  Behind = IsBehind p readings

  pub stands_of : (text rest : List ℕ) (s : WideningSaid) (n : ℕ) → Behind text rest s n → Stands format widening_lacks text rest s n
  stands_of text rest s n b = record { is = b.is; number = omega (arith, b.number); sound = b.sound; short = b.short }

  pub behind_of : (text rest : List ℕ) (s : WideningSaid) (n : ℕ) → Stands format widening_lacks text rest s n → Behind text rest s n
  behind_of text rest s n b = record { is = b.is; number = omega (arith, b.number); sound = b.sound; short = b.short }

  -- ---- a line of known words
  pub word_on : (text rest more : List ℕ) (s t : WideningSaid) (n : ℕ) (ws : List (List ℕ)) → Behind text rest s n → rest ≡ line_of ws ++ more → GrowsTo p readings s t (line_of ws) → IsSound p readings t → Behind text more t (n + 1)
  word_on text rest more s t n ws b is grows sound = record {
    is = b.is ∙ ap (λ (r : List ℕ). text_of s ++ r) is ∙ sym (append_assoc (text_of s) (line_of ws) more) ∙ ap (λ (x : List ℕ). x ++ more) (sym grows.text);
    number = omega (arith, b.number, grows.lines);
    sound = sound;
    short = b.short;
  }

  pub only_line : (text rest : List ℕ) (s : WideningSaid) (n : ℕ) (ws : List (List ℕ)) → Behind text rest s n → ((line : WideningLine) → MayStand p readings s line → line_words line ≡ ws) → ((more : List ℕ) → rest ≡ line_of ws ++ more → ⊥) → Answers format text (Faulty kinds.Syntax n)
  only_line text rest s n ws b only none = (
    b.short,
    record {
      front = Open s;
      sound = b.sound;
      rest = rest;
      is = b.is;
      number = omega (arith, b.number);
      fault = λ line begins. none begins.more (begins.is ∙ ap (λ (w : List (List ℕ)). line_of w ++ begins.more) (only line begins.may));
    },
  )

  pub end_found : (text rest after : List ℕ) (s : WideningSaid) (n : ℕ) → Behind text rest s n → rest ≡ line_of (codes "end" ∷ []) ++ after → after ≡ [] → MayStand p readings s (PartLine (NodeLine EndLine)) → Answers format text (Found s)
  end_found text rest after s n b is none may =
      (b.short, b.sound, may, b.is ∙ ap (λ (r : List ℕ). text_of s ++ r) (is ∙ ap (λ (x : List ℕ). line_of (codes "end" ∷ []) ++ x) none ∙ append-nil (line_of (codes "end" ∷ []))))

  pub end_more : (text rest after : List ℕ) (s : WideningSaid) (n : ℕ) → Behind text rest s n → rest ≡ line_of (codes "end" ∷ []) ++ after → after ≢ [] → MayStand p readings s (PartLine (NodeLine EndLine)) → Answers format text (Faulty kinds.Syntax (n + 1))
  end_more text rest after s n b is some may = (
    b.short,
    record {
      front = Closed s;
      sound = (b.sound, may);
      rest = after;
      is = b.is ∙ ap (λ (r : List ℕ). text_of s ++ r) is ∙ sym (append_assoc (text_of s) (line_of (codes "end" ∷ [])) after);
      number = omega (arith, b.number);
      fault = (refl, some);
    },
  )

  -- ---- what alone may stand
  whole_end : (extra : ℕ) (vs : List ℤ) → IsWhole p readings vs → (l : ExecutionLine) → MayRun p readings (Some extra) vs l → (l ≡ EndLine) × (extra ≡ 0)
  whole_end extra vs whole (EventLine name z) may = absurd (no_value p readings vs (EventLine name z) whole may (λ e. cc))
  whole_end extra vs whole (ReadingLine clock m z) may = absurd (no_value p readings vs (ReadingLine clock m z) whole may (λ e. cc))
  whole_end extra vs whole EndLine may = (refl, may.0)

  abbrev Words : List (List ℕ) → WideningLine → Type 0
  Words ws line = line_words line ≡ ws

  pub only_cycle : (what : What) (line : WideningLine) → MayStand p readings (Said what None [] None) line → line_words line ≡ codes "cycle" ∷ []
  only_cycle what line may = before_cycle p readings (Words (codes "cycle" ∷ [])) what None [] line (λ begins. refl) (λ l runs. absurd runs) may

  pub only_cycle_above : (what : What) (extra : ℕ) (vs : List ℤ) → 0 < extra → IsWhole p readings vs → (line : WideningLine) → MayStand p readings (Said what (Some extra) vs None) line → line_words line ≡ codes "cycle" ∷ []
  only_cycle_above what extra vs above whole line may =
      before_cycle p readings (Words (codes "cycle" ∷ [])) what (Some extra) vs line (λ begins. refl) (λ l runs. absurd (let end = whole_end extra vs whole l runs in omega (arith, above, end.1))) may

  pub only_end : (what : What) (vs : List ℤ) → IsWhole p readings vs → (line : WideningLine) → MayStand p readings (Said what (Some 0) vs None) line → line_words line ≡ codes "end" ∷ []
  only_end what vs whole line may =
      before_cycle p readings (Words (codes "end" ∷ [])) what (Some 0) vs line (λ begins. absurd (omega (arith, begins.0))) (λ l runs. ap (λ (x : ExecutionLine). line_words (PartLine (NodeLine x))) (whole_end 0 vs whole l runs).0) may

  -- ---- faults of lines
  kind_refuses : (text : List ℕ) (kind : FaultKind) (n : ℕ) → Answers format text (Faulty kind n) → RefusesText p readings text (error_at (lines.Fault kind) n)
  kind_refuses text kinds.Syntax n fault = fault
  kind_refuses text kinds.Name n fault = fault
  kind_refuses text kinds.Range n fault = fault
  kind_refuses text kinds.Limit n fault = fault

  pub fault_refuses : (text rest body after : List ℕ) (s t : WideningSaid) (n : ℕ) (e : LineError) → Behind text rest s n → cut 10 rest ≡ Some (body, after) → Takes format s body (Err e) t → RefusesText p readings text (error_at e n)
  fault_refuses text rest body after s t n lines.Memory b parts r = tt
  fault_refuses text rest body after s t n (lines.Fault kind) b parts r = kind_refuses text kind n (fault_answers format widening_lacks text rest body after s t n kind (stands_of text rest s n b) parts r)

  pub cut_refuses : (text rest : List ℕ) (s : WideningSaid) (n : ℕ) → Behind text rest s n → cut 10 rest ≡ None → Answers format text (Faulty kinds.Syntax n)
  cut_refuses text rest s n b none = cut_answers format widening_lacks text rest s n (stands_of text rest s n b) none

  pub line_on : (text rest body after : List ℕ) (s t : WideningSaid) (n : ℕ) → Behind text rest s n → cut 10 rest ≡ Some (body, after) → Takes format s body (Ok taken.Line) t → IsSound p readings t → Behind text after t (n + 1)
  line_on text rest body after s t n b parts r sound = behind_of text after t (n + 1) (stands_on format widening_lacks text rest body after s t n (stands_of text rest s n b) parts r sound)

  -- ---- a cycle begins
  pub cycle_on : (text rest more : List ℕ) (what : What) (extra : Option ℕ) (vs : List ℤ) (n : ℕ) → Behind text rest (Said what extra vs None) n → rest ≡ line_of (codes "cycle" ∷ []) ++ more → MayBegin p readings extra vs
      → Behind text more (Said what extra vs (Some [])) (n + 1)
  cycle_on text rest more what extra vs n b is may = word_on text rest more (Said what extra vs None) (Said what extra vs (Some [])) n (codes "cycle" ∷ []) b is (cycle_begins p readings what extra vs) (b.sound.0, (may, no_steps p), b.sound.2)

  -- ---- the text of what is said is that of the widening
  text_is : (what : What) (w : Widening) → whole_text format (said what w) ≡ widening_text p (nodes_of p readings) what w
  text_is what (Least extra execution cycle) = refl
  text_is what (Never cycle) = ap (λ (t : List ℕ). (line_of widening_head ++ (t ++ cycle_lines p (Some cycle))) ++ line_of (codes "end" ∷ []))
      (ap (λ (v : List ℕ). least_line p what None ++ v) (values_none p readings) ∙ append-nil (least_line p what None))

  module _ (are : AreReadings p readings) where
    sound_from : (what : What) (w : Widening) → IsWideningOf p w → FitsWidening w → NamesWhat p what → IsSound p readings (said what w) × MayStand p readings (said what w) (PartLine (NodeLine EndLine))
    sound_from what (Least extra execution None) of fits named = (((fits.0, values_from p readings are execution of.0 fits.1), tt, named), (of.1, whole_from p readings are execution of.0))
    sound_from what (Least extra execution (Some cycle)) of fits named =
        (((fits.0, values_from p readings are execution of.0 fits.1), ((of.1.0, whole_from p readings are execution of.0), record { declared = of.1.1; weights = fits.2.0; few = fits.2.1 }), named), tt)
    sound_from what (Never cycle) of fits named = ((refl, (tt, record { declared = of; weights = fits.0; few = fits.1 }), named), tt)

    named_back : (what : What) (w : Widening) → IsSound p readings (said what w) → NamesWhat p what
    named_back what (Least extra execution cycle) sound = sound.2
    named_back what (Never cycle) sound = sound.2

    sound_back : (what : What) (w : Widening) → IsSound p readings (said what w) → MayStand p readings (said what w) (PartLine (NodeLine EndLine)) → IsWideningOf p w × FitsWidening w
    sound_back what (Least extra execution None) sound may = (((readings, are, may.1), may.0), (sound.0.0, sound.0.1.fit, tt))
    sound_back what (Least extra execution (Some cycle)) sound may =
        (((readings, are, sound.1.0.1), (sound.1.0.0, sound.1.1.declared)), (sound.0.0, sound.0.1.fit, (sound.1.1.weights, sound.1.1.few)))
    sound_back what (Never cycle) sound may = (sound.1.1.declared, (sound.1.1.weights, sound.1.1.few))

    pub found_is : (what : What) (w : Widening) (text : List ℕ) → IsWideningTextOf p readings what w text ↔ Answers format text (Found (said what w))
    found_is what w text = (
      λ is. let s = sound_from what w is.1 is.2 is.4 in (is.0, s.0, s.1, is.3 ∙ sym (text_is what w)),
      λ found. let s = sound_back what w found.1 found.2 in (found.0, s.0, s.1, found.3 ∙ text_is what w, named_back what w found.1),
    )

-- ---- the line of the widening
module _ (p : ProblemLists) (readings : List Reading) (text whole body rest : List ℕ) (b : IsBehind p readings text whole NoneSaid 2) (parts : cut 10 whole ≡ Some (body, rest)) where
  pub least_on : (what : What) (extra : Option ℕ) → body ≡ words (least_words extra (stated_words p what)) → AreTimes p readings extra [] → NamesWhat p what → IsBehind p readings text rest (Said what extra [] None) 3
  least_on what extra is times named =
      line_on p readings text whole body rest NoneSaid (Said what extra [] None) 2 b parts (subst (λ (w : List ℕ). GrowsTo p readings NoneSaid (Said what extra [] None) (w ++ 10 ∷ [])) (sym is) (least_begins p readings what extra)) (times, tt, named)

  pub least_over : (named : List (List ℕ)) (extra : ℕ) → AreStated named → (what : What) → StatesWhat p named what → body ≡ words (least_words (Some extra) named) → 2 ^ 62 ≤ extra → Answers (widening_format p readings) text (Faulty kinds.Range 2)
  least_over named extra stated what says is over =
      fault_refuses p readings text whole body rest NoneSaid NoneSaid 2 (lines.Fault kinds.Range) b parts
      (LeastLine (Some extra) named, tt, stated, is, ((what, says), (λ less. let under : extra < 2 ^ 62 = less in omega (arith, under, over))))

  pub not_named : (named : List (List ℕ)) (extra : Option ℕ) → AreStated named → ((what : What) → StatesWhat p named what → ⊥) → body ≡ words (least_words extra named) → Answers (widening_format p readings) text (Faulty kinds.Name 2)
  not_named named extra stated none is = fault_refuses p readings text whole body rest NoneSaid NoneSaid 2 (lines.Fault kinds.Name) b parts (LeastLine extra named, tt, stated, is, (λ names. none names.0 names.1))

  pub not_least : ((extra : Option ℕ) (named : List (List ℕ)) → AreStated named → body ≡ words (least_words extra named) → ⊥) → Answers (widening_format p readings) text (Faulty kinds.Syntax 2)
  not_least none = fault_refuses p readings text whole body rest NoneSaid NoneSaid 2 (lines.Fault kinds.Syntax) b parts misspelled
    where
      misspelled : (line : WideningLine) → MayStand p readings NoneSaid line → IsSpelled line → body ≡ words (line_words line) → ⊥
      misspelled (LeastLine extra named) may spelled is = none extra named spelled is
      misspelled (PartLine line) may spelled is = may

-- what the line states
pub stated_in : (p : ProblemLists) (readings : List Reading) (text whole body rest : List ℕ) → IsBehind p readings text whole NoneSaid 2 → cut 10 whole ≡ Some (body, rest)
    → (named : List (List ℕ)) → AreStated named → (what : What) → StatesWhat p named what
    → (s : Extra) (extra : Option ℕ) → body ≡ words (least_words extra named) → IsStated extra s → IsStatedIn p readings text rest what s
stated_in p readings text whole body rest b parts named stated what says (Of e) extra is (same, within) =
    least_on p readings text whole body rest b parts what (Some e) (is ∙ ap (λ (o : Option ℕ). words (least_words o named)) same ∙ ap (λ (ws : List (List ℕ)). words (least_words (Some e) ws)) says.1) (within, none_fit p readings (length (nodes_of p readings))) says.0
stated_in p readings text whole body rest b parts named stated what says TooMuch extra is (e, same, over) =
    least_over p readings text whole body rest b parts named e stated what says (is ∙ ap (λ (o : Option ℕ). words (least_words o named)) same) over
stated_in p readings text whole body rest b parts named stated what says extras.Never extra is same =
    least_on p readings text whole body rest b parts what None (is ∙ ap (λ (o : Option ℕ). words (least_words o named)) same ∙ ap (λ (ws : List (List ℕ)). words (least_words None ws)) says.1) refl says.0

pub first_line : (p : ProblemLists) (readings : List Reading) (rest : List ℕ) → length (line_of widening_head ++ rest) ≤ most_text_bytes → IsBehind p readings (line_of widening_head ++ rest) rest NoneSaid 2
first_line p readings rest short = record { is = refl; number = refl; sound = tt; short = short }

-- ---- a widening of 0
pub zero_on : (p : ProblemLists) (readings : List Reading) (text rest : List ℕ) (what : What) (extra n m : ℕ) (values : List ℤ) → extra ≡ 0 → n ≡ m → IsBehind p readings text rest (Said what (Some extra) values None) n
    → IsBehind p readings text rest (Said what (Some 0) values None) m
zero_on p readings text rest what extra n m values zero same b =
    subst (λ (k : ℕ). IsBehind p readings text rest (Said what (Some 0) values None) k) same (subst (λ (e : ℕ). IsBehind p readings text rest (Said what (Some e) values None) n) zero b)

pub zero_found : (p : ProblemLists) (readings : List Reading) → AreReadings p readings → (text : List ℕ) (what : What) (extra : ℕ) (values : List ℤ) → extra ≡ 0 → Answers (widening_format p readings) text (Found (Said what (Some 0) values None))
    → IsWideningTextOf p readings what (Least extra values None) text
zero_found p readings are text what extra values zero found =
    (found_is p readings are what (Least extra values None) text).1 (subst (λ (e : ℕ). Answers (widening_format p readings) text (Found (Said what (Some e) values None))) (sym zero) found)
