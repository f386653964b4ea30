-- A text has one answer over the readings of a problem.
use Rattle.std.proofs.Common.{◌≡◌, ◌<◌, ◌+◌, ◌-◌, inl, inr, ℕ, zero, suc, List, [], ◌∷◌, ◌++◌, length, All, refl, sym, ◌∙◌, ap, subst, arith, ℤ, pos, length-append}
use Rattle.std.specs.List.{slice_index_or}
use Rattle.std.proofs.lemmas.Bool.{cases_lt}
use Rattle.std.proofs.lemmas.List.{nil_from_length, append-nil}
use Rattle.std.proofs.lemmas.List.Elements.{Contains-get_or}
use Rattle.std.proofs.Math.Seq.{get_or-append_seam}
use Rattle.std.proofs.Math.ListN.{get_or-append}
use Rattle.atto.specs.Number.{FitsUnits}
use Rattle.line_format.specs.Words.{line_of}
use Rattle.line_format.specs.Format.{Answers, Answer}
use Rattle.line_format.proofs.Readable.{IsStep, IsReadable}
use Rattle.line_format.proofs.OneAnswer.{answers_one}
use Rattle.problem_model.specs.declared.items.Node.TheVariants as nodes
use Rattle.problem_model.specs.Problem.{ProblemLists, IsProblem}
use Rattle.problem_model.specs.Nodes.{Reading, AreReadings, nodes_of}
use Rattle.problem_model.specs.ProblemText.{clock_name, event_name}
use Rattle.problem_model.specs.ExecutionText.{execution_head}
use Rattle.cert.specs.ExecutionFormat.{ExecutionLine, execution_format, AreValues}
use Rattle.cert.specs.ExecutionFormat.ExecutionLine.{EventLine, ReadingLine, EndLine}
use Rattle.cert.specs.NodeLists.{AreNamed}
use Rattle.cert.proofs.Forms.{line_lacks, one_line}
use Rattle.cert.proofs.Places.{are_named, length-nodes_of, event_stands, reading_stands, event_named, clock_named, same_default}
use Rattle.cert.proofs.Taking.{value_grows, value_lines-nil}

-- ---- a list that is not empty has a last item
pub record Snoc (xs : List ℤ) (n : ℕ) : Type 0 where
  pub front : List ℤ
  pub last : ℤ
  pub is : xs ≡ front ++ last ∷ []
  pub len : length front ≡ n

pub snoc : (xs : List ℤ) (n : ℕ) → length xs ≡ suc n → Snoc xs n
snoc [] n len = absurd (omega (arith, len))
snoc (x ∷ []) n len = record { front = []; last = x; is = refl; len = omega (arith, len) }
snoc (x ∷ y ∷ xs) zero len = absurd (omega (arith, len))
snoc (x ∷ y ∷ xs) (suc n) len = let r = snoc (y ∷ xs) n (omega (arith, len)) in record { front = x ∷ r.front; last = r.last; is = ap (λ ys. x ∷ ys) r.is; len = ap suc r.len }

init_fit : (xs : List ℤ) (y : ℤ) → All FitsUnits (xs ++ y ∷ []) → All FitsUnits xs
init_fit xs y all k d inside = subst FitsUnits (get_or-append xs (y ∷ []) d k inside) (all k d (omega (arith, inside, length-append xs (y ∷ []))))

last_fits : (xs : List ℤ) (y : ℤ) → All FitsUnits (xs ++ y ∷ []) → FitsUnits y
last_fits xs y all = subst FitsUnits (get_or-append_seam xs y [] (pos 0)) (all (length xs) (pos 0) (omega (arith, length-append xs (y ∷ []))))

-- the values with one more
abbrev pub Adds : List ℤ → ExecutionLine → List ℤ → Type 0
Adds values (EventLine name value) more = more ≡ values ++ value ∷ []
Adds values (ReadingLine clock stamp value) more = more ≡ values ++ value ∷ []
Adds values EndLine more = ⊥

pub adds_one : (values : List ℤ) (line : ExecutionLine) (a b : List ℤ) → Adds values line a → Adds values line b → a ≡ b
adds_one values (EventLine name value) a b x y = x ∙ sym y
adds_one values (ReadingLine clock stamp value) a b x y = x ∙ sym y
adds_one values EndLine a b x y = absurd x

module _ (p : ProblemLists) (readings : List Reading) (named : AreNamed (record { problem = p; readings = readings })) where
  abbrev pub Step : List ℤ → ExecutionLine → List ℤ → Type 0
  Step = IsStep (execution_format p readings) Adds

  less : (front : List ℤ) (v : ℤ) → AreValues (length (nodes_of p readings)) (front ++ v ∷ []) → AreValues (length (nodes_of p readings)) front
  less front v are = record { fit = init_fit front v are.fit; few = omega (arith, are.few, length-append front (v ∷ [])) }

  event_step : (front : List ℤ) (v : ℤ) → AreValues (length (nodes_of p readings)) (front ++ v ∷ []) → length front < length p.events →
      Step front (EventLine (event_name p.events (length front)) v) (front ++ v ∷ [])
  event_step front v are inside =
      let at = event_stands p readings (length front) inside in record {
        sound = less front v are;
        may = (length front, at);
        spelled = event_named p.events (length front) named.event_names inside;
        names = (length front, at, refl);
        numbers = last_fits front v are.fit;
        room = tt;
        adds = refl;
        grows = value_grows p readings front (nodes.Event (length front)) v at;
      }

  reading_step : (front : List ℤ) (v : ℤ) (m : ℕ) (r : Reading) → AreValues (length (nodes_of p readings)) (front ++ v ∷ []) → length front ≡ length p.events + m → m < length readings → slice_index_or readings m r ≡ r → r.0 < length p.clocks →
      Step front (ReadingLine (clock_name p.clocks r.0) r.1 v) (front ++ v ∷ [])
  reading_step front v m r are place inside there known =
      let at = reading_stands p readings (length front) m r place inside there in record {
        sound = less front v are;
        may = (r.0, r.1, at);
        spelled = clock_named p.clocks r.0 named.clock_names known;
        names = (r.0, at, refl);
        numbers = last_fits front v are.fit;
        room = tt;
        adds = refl;
        grows = value_grows p readings front (nodes.Reading r.0 r.1) v at;
      }

  abbrev pub Last : List ℤ → ℕ → Type 0
  Last values n = (r : List ℤ) × (line : ExecutionLine) × (length r ≡ n) × Step r line values

  pub last_value : (front : List ℤ) (v : ℤ) → AreValues (length (nodes_of p readings)) (front ++ v ∷ []) → Last (front ++ v ∷ []) (length front)
  last_value front v are =
      elim (cases_lt (length front) (length p.events)) [
        | inl inside ↦ (front, EventLine (event_name p.events (length front)) v, refl, event_step front v are inside)
        | inr beyond ↦
            let m = length front - length p.events in
            let place : length front ≡ length p.events + m = omega (arith, beyond) in
            let inside : m < length readings = omega (arith, are.few, length-append front (v ∷ []), length-nodes_of p readings, place) in
            let r = slice_index_or readings m (0, 0) in
            let has = Contains-get_or readings m (0, 0) inside in
            (front, ReadingLine (clock_name p.clocks r.0) r.1 v, refl, reading_step front v m r are place inside (same_default readings m (0, 0) r inside) (named.known m (0, 0) inside))
      ]

  pub last_line : (values : List ℤ) (n : ℕ) → AreValues (length (nodes_of p readings)) values → length values ≡ suc n → Last values n
  last_line values n are len =
      let s = snoc values n len in
      let whole = last_value s.front s.last (subst (AreValues (length (nodes_of p readings))) s.is are) in
      subst (λ (k : ℕ). Last values k) s.len (subst (λ (vs : List ℤ). Last vs (length s.front)) (sym s.is) whole)

  readable : IsReadable (execution_format p readings) Adds [] length
  readable = record {
    lacks = line_lacks;
    one_line = one_line;
    one_next = λ values line a b are x y. adds_one values line a b x y;
    end_spelled = tt;
    end_fits = λ values. (tt, tt, tt);
    end_adds = λ values more adds. adds;
    start_text = ap (λ (t : List ℕ). line_of execution_head ++ t) (value_lines-nil p (nodes_of p readings)) ∙ append-nil (line_of execution_head);
    start_size = λ values are none. nil_from_length values none;
    last_line = last_line;
  }

pub execution_one : (p : ProblemLists) (readings : List Reading) (text : List ℕ) (a b : Answer (List ℤ)) → IsProblem p → AreReadings p readings →
    Answers (execution_format p readings) text a → Answers (execution_format p readings) text b → a ≡ b
execution_one p readings text a b lawful are = answers_one (execution_format p readings) Adds [] length (readable p readings (are_named p readings lawful are)) text a b
