-- What one line more does to the text of a certificate.
use Rattle.std.proofs.Common.{◌≡◌, ◌≢◌, ◌<◌, ◌+◌, inl, inr, ℕ, zero, suc, List, [], ◌∷◌, ◌++◌, length, map, get_or, slice_get, Option, Some, None, codes, refl, sym, ◌∙◌, ap, subst, arith, ℤ, append_assoc, append-nil, length-append}
use Rattle.std.specs.Prelude.{AllPairs, Contains}
use Rattle.std.specs.List.{flat_map}
use Rattle.std.proofs.lemmas.Bool.{cases_lt}
use Rattle.std.proofs.lemmas.Grind.{flat_map-append}
use Rattle.std.proofs.lemmas.List.{append_cancel_left}
use Rattle.std.proofs.lemmas.List.Elements.{All-contains}
use Rattle.std.proofs.lemmas.Option.{slice_get_within}
use Rattle.atto.specs.NsText.{ns_text}
use Rattle.line_format.specs.Words.{line_of}
use Rattle.line_format.specs.Format.{Grows}
use Rattle.problem_model.specs.declared.items.Clock.{Clock}
use Rattle.problem_model.specs.declared.items.Event.{Event}
use Rattle.problem_model.specs.declared.items.Message.{Message}
use Rattle.problem_model.specs.declared.items.Bound.{Bound}
use Rattle.problem_model.specs.declared.items.Bound.TheVariants as bounds
use Rattle.problem_model.specs.Name.{IsEventName, IsClockName}
use Rattle.problem_model.specs.Problem.{ProblemLists, IsProblem}
use Rattle.problem_model.specs.ProblemText.{clock_name, event_name}
use Rattle.problem_model.specs.BoundText.{bound_words}
use Rattle.problem_model.specs.Bounds.{IsReading}
use Rattle.problem_model.specs.Nodes.{Reading, nodes_of}
use Rattle.problem_model.specs.ExecutionText.{execution_head, value_lines}
use Rattle.problem.specs.Line.{HasClock, HasEvent}
use Rattle.cert.specs.declared.chain.Step.{Step}
use Rattle.cert.specs.declared.kinds.Extreme.TheVariants.{Most, Least}
use Rattle.cert.specs.declared.kinds.StampBound.TheVariants.{Late, Early}
use Rattle.cert.specs.declared.kinds.Side.{Side}
use Rattle.cert.specs.declared.kinds.Side.TheVariants.{Upper, Lower}
use Rattle.cert.specs.Listed.{certificate_head}
use Rattle.cert.specs.ExecutionFormat.{execution_format}
use Rattle.cert.specs.CertificateText.{step_line, inside_line}
use Rattle.cert.specs.CertificateFormat.{NamedBound, Said, Names, IsDeclared, IsBoundSpelled, cert_words, named_words, end_size, side_line, side_lines, events_line, certificate_format}
use Rattle.cert.specs.EndLists.{EndLists, Limited, Unlimited}
use Rattle.cert.specs.CertificateFormat.CertLine.{CycleLine, RunLine, EndsLine, SideLine, StepLine}
use Rattle.cert.specs.CertificateFormat.NamedBound.{Span, Stamp, Follow, Delay}
use Rattle.cert.specs.CertificateFormat.Said.{NoneSaid, CycleSaid, RunSaid, EventsSaid, UpperSaid, EndsSaid}
use Rattle.cert.specs.TakesPart.{EndGrows, begun}
use Rattle.cert.proofs.Places.{event_named, clock_named}
use Rattle.cert.proofs.Taking.{value_lines-nil}

-- ---- names of the clocks and events at places
pub clock_at_name : (cs : List Clock) (k : ℕ) (name : List ℕ) → slice_get (map (λ c. c.name) cs) k ≡ Some name → name ≡ clock_name cs k
clock_at_name [] k name at = absurd cc
clock_at_name (c ∷ cs) zero name at = let is : c.name ≡ name = cc in sym is
clock_at_name (c ∷ cs) (suc k) name at = clock_at_name cs k name at

pub event_at_name : (es : List Event) (k : ℕ) (name : List ℕ) → slice_get (map (λ e. e.name) es) k ≡ Some name → name ≡ event_name es k
event_at_name [] k name at = absurd cc
event_at_name (e ∷ es) zero name at = let is : e.name ≡ name = cc in sym is
event_at_name (e ∷ es) (suc k) name at = event_at_name es k name at

pub clock_has : (cs : List Clock) (k : ℕ) → k < length cs → slice_get (map (λ c. c.name) cs) k ≡ Some (clock_name cs k)
clock_has [] k inside = absurd (omega (arith, inside))
clock_has (c ∷ cs) zero inside = refl
clock_has (c ∷ cs) (suc k) inside = clock_has cs k (omega (arith, inside))

pub event_has : (es : List Event) (k : ℕ) → k < length es → slice_get (map (λ e. e.name) es) k ≡ Some (event_name es k)
event_has [] k inside = absurd (omega (arith, inside))
event_has (e ∷ es) zero inside = refl
event_has (e ∷ es) (suc k) inside = event_has es k (omega (arith, inside))

pub clock_inside : (cs : List Clock) (k : ℕ) (name : List ℕ) → slice_get (map (λ c. c.name) cs) k ≡ Some name → k < length cs
clock_inside [] k name at = absurd cc
clock_inside (c ∷ cs) zero name at = omega arith
clock_inside (c ∷ cs) (suc k) name at = omega (arith, clock_inside cs k name at)

pub event_inside : (es : List Event) (k : ℕ) (name : List ℕ) → slice_get (map (λ e. e.name) es) k ≡ Some name → k < length es
event_inside [] k name at = absurd cc
event_inside (e ∷ es) zero name at = omega arith
event_inside (e ∷ es) (suc k) name at = omega (arith, event_inside es k name at)

-- the key of an item, where items with one key are one
module _ {A : Type 0} (key : A → List ℕ) where
  key_at : (xs : List A) (k : ℕ) (d : A) (name : List ℕ) → slice_get (map key xs) k ≡ Some name → (k < length xs) × (key (get_or xs k d) ≡ name)
  key_at [] k d name at = absurd cc
  key_at (x ∷ xs) zero d name at = (omega arith, cc)
  key_at (x ∷ xs) (suc k) d name at = let r = key_at xs k d name at in (omega (arith, r.0), r.1)

  pub place_one : (xs : List A) (d : A) → AllPairs (λ a b. key a ≢ key b) xs → (j k : ℕ) (name : List ℕ) → slice_get (map key xs) j ≡ Some name → slice_get (map key xs) k ≡ Some name → j ≡ k
  place_one xs d differ j k name at at' =
      let a = key_at xs j d name at in
      let b = key_at xs k d name at' in
      elim (cases_lt j k) [
        | inl lt ↦ absurd (differ j k d lt b.0 (a.1 ∙ sym b.1))
        | inr le ↦ elim (cases_lt k j) [
          | inl lt ↦ absurd (differ k j d lt a.0 (b.1 ∙ sym a.1))
          | inr le' ↦ omega (arith, le, le')
        ]
      ]

event_none : Event
event_none = record { name = []; clock = 0; stamp = 0; bounds = None }

clock_none : Clock
clock_none = record { name = []; rate = record { short = 0; long = 0 }; early = 0; late = 0 }

pub clock_one : (p : ProblemLists) → IsProblem p → (j k : ℕ) (name : List ℕ) → HasClock p j name → HasClock p k name → j ≡ k
clock_one p lawful j k name at at' = place_one (λ c. c.name) p.clocks clock_none lawful.formed.clocks_differ j k name at at'

pub event_one : (p : ProblemLists) → IsProblem p → (j k : ℕ) (name : List ℕ) → HasEvent p j name → HasEvent p k name → j ≡ k
event_one p lawful j k name at at' = place_one (λ e. e.name) p.events event_none lawful.formed.events_differ j k name at at'

-- ---- the words of a bound are those of its names
pub names_words : (p : ProblemLists) (n : NamedBound) (b : Bound) → Names p n b → named_words n ≡ bound_words p b
names_words p (Span Most clock s t) b named = rw (named.2, clock_at_name p.clocks named.0 clock named.1) refl
names_words p (Span Least clock s t) b named = rw (named.2, clock_at_name p.clocks named.0 clock named.1) refl
names_words p (Stamp Late event) b named = rw (named.2, event_at_name p.events named.0 event named.1) refl
names_words p (Stamp Early event) b named = rw (named.2, event_at_name p.events named.0 event named.1) refl
names_words p (Follow earlier s later t) b named = rw (named.4, clock_at_name p.clocks named.0 earlier named.2, clock_at_name p.clocks named.1 later named.3) refl
names_words p (Delay Most send receive) b named = rw (named.4, event_at_name p.events named.0 send named.2, event_at_name p.events named.1 receive named.3) refl
names_words p (Delay Least send receive) b named = rw (named.4, event_at_name p.events named.0 send named.2, event_at_name p.events named.1 receive named.3) refl

pub step_spelled : (p : ProblemLists) (n : NamedBound) (b : Bound) (z : ℤ) → Names p n b → line_of (cert_words (StepLine n z)) ≡ step_line p (record { bound = b; weight = z })
step_spelled p n b z named = ap (λ (ws : List (List ℕ)). line_of (codes "step" ∷ ws ++ ns_text z ∷ [])) (names_words p n b named)

pub names_one : (p : ProblemLists) → IsProblem p → (n : NamedBound) (b b' : Bound) → Names p n b → Names p n b' → b ≡ b'
names_one p lawful (Span Most clock s t) b b' x y = let same = clock_one p lawful x.0 y.0 clock x.1 y.1 in x.2 ∙ ap (λ (k : ℕ). bounds.SpanMost k s t) same ∙ sym y.2
names_one p lawful (Span Least clock s t) b b' x y = let same = clock_one p lawful x.0 y.0 clock x.1 y.1 in x.2 ∙ ap (λ (k : ℕ). bounds.SpanLeast k s t) same ∙ sym y.2
names_one p lawful (Stamp Late event) b b' x y = let same = event_one p lawful x.0 y.0 event x.1 y.1 in x.2 ∙ ap bounds.Late same ∙ sym y.2
names_one p lawful (Stamp Early event) b b' x y = let same = event_one p lawful x.0 y.0 event x.1 y.1 in x.2 ∙ ap bounds.Early same ∙ sym y.2
names_one p lawful (Follow earlier s later t) b b' x y =
    let one = clock_one p lawful x.0 y.0 earlier x.2 y.2 in
    let two = clock_one p lawful x.1 y.1 later x.3 y.3 in
    x.4 ∙ ap (λ (j : ℕ). bounds.Follow j s x.1 t) one ∙ ap (λ (k : ℕ). bounds.Follow y.0 s k t) two ∙ sym y.4
names_one p lawful (Delay Most send receive) b b' x y =
    let one = event_one p lawful x.0 y.0 send x.2 y.2 in
    let two = event_one p lawful x.1 y.1 receive x.3 y.3 in
    x.4 ∙ ap (λ (j : ℕ). bounds.DelayMost j x.1) one ∙ ap (λ (k : ℕ). bounds.DelayMost y.0 k) two ∙ sym y.4
names_one p lawful (Delay Least send receive) b b' x y =
    let one = event_one p lawful x.0 y.0 send x.2 y.2 in
    let two = event_one p lawful x.1 y.1 receive x.3 y.3 in
    x.4 ∙ ap (λ (j : ℕ). bounds.DelayLeast j x.1) one ∙ ap (λ (k : ℕ). bounds.DelayLeast y.0 k) two ∙ sym y.4

-- each declared bound has names
abbrev pub Named : ProblemLists → Bound → Type 0
Named p b = (n : NamedBound) × Names p n b × IsBoundSpelled n

clock_spelled : (p : ProblemLists) → IsProblem p → (k : ℕ) → k < length p.clocks → IsClockName (clock_name p.clocks k)
clock_spelled p lawful k inside = clock_named p.clocks k lawful.formed.clock_names inside

event_spelled : (p : ProblemLists) → IsProblem p → (k : ℕ) → k < length p.events → IsEventName (event_name p.events k)
event_spelled p lawful k inside = event_named p.events k lawful.formed.event_names inside

ends_known : (p : ProblemLists) → IsProblem p → (m : Message) (send receive : ℕ) → Contains p.messages m → m.send ≡ send → m.receive ≡ receive → (send < length p.events) × (receive < length p.events)
ends_known p lawful m send receive has s r =
    let sends : m.send < length p.events = subst (λ (x : Message). x.send < length p.events) has.2 (lawful.formed.sends has.0 m has.1) in
    let receives : m.receive < length p.events = subst (λ (x : Message). x.receive < length p.events) has.2 (lawful.formed.receives has.0 m has.1) in
    (omega (arith, sends, s), omega (arith, receives, r))

pub clock_read : (p : ProblemLists) → IsProblem p → (k s : ℕ) → IsReading p k s → k < length p.clocks
clock_read p lawful k s (e, has, clock, stamp) = subst (λ (j : ℕ). j < length p.clocks) clock (All-contains (λ (v : Event). v.clock < length p.clocks) p.events e lawful.formed.event_clocks has)

pub declared_named : (p : ProblemLists) → IsProblem p → (b : Bound) → IsDeclared p b → Named p b
declared_named p lawful (bounds.SpanMost k s t) (c, d) =
    let inside = slice_get_within p.clocks k d.0 d.1 in
    (Span Most (clock_name p.clocks k) s t, (k, clock_has p.clocks k inside, refl), clock_spelled p lawful k inside)
declared_named p lawful (bounds.SpanLeast k s t) (c, d) =
    let inside = slice_get_within p.clocks k d.0 d.1 in
    (Span Least (clock_name p.clocks k) s t, (k, clock_has p.clocks k inside, refl), clock_spelled p lawful k inside)
declared_named p lawful (bounds.Late k) (c, d) =
    let inside = slice_get_within p.events k d.0 d.2 in
    (Stamp Late (event_name p.events k), (k, event_has p.events k inside, refl), event_spelled p lawful k inside)
declared_named p lawful (bounds.Early k) (c, d) =
    let inside = slice_get_within p.events k d.0 d.2 in
    (Stamp Early (event_name p.events k), (k, event_has p.events k inside, refl), event_spelled p lawful k inside)
declared_named p lawful (bounds.Follow j s k t) (c, d) =
    let inside = clock_read p lawful j s d.4 in
    let inside' = clock_read p lawful k t d.5 in
    (Follow (clock_name p.clocks j) s (clock_name p.clocks k) t, (j, k, clock_has p.clocks j inside, clock_has p.clocks k inside', refl), (clock_spelled p lawful j inside, clock_spelled p lawful k inside'))
declared_named p lawful (bounds.DelayMost j k) (c, d) =
    let inside = ends_known p lawful d.0 j k d.2 d.3 d.4 in
    (Delay Most (event_name p.events j) (event_name p.events k), (j, k, event_has p.events j inside.0, event_has p.events k inside.1, refl), (event_spelled p lawful j inside.0, event_spelled p lawful k inside.1))
declared_named p lawful (bounds.DelayLeast j k) (c, d) =
    let inside = ends_known p lawful d.0 j k d.1 d.2 d.3 in
    (Delay Least (event_name p.events j) (event_name p.events k), (j, k, event_has p.events j inside.0, event_has p.events k inside.1, refl), (event_spelled p lawful j inside.0, event_spelled p lawful k inside.1))

-- ---- lists of lines
pub lines_push : {X : Type 0} (line : X → List ℕ) (xs : List X) (x : X) → flat_map line (xs ++ x ∷ []) ≡ flat_map line xs ++ line x
lines_push line xs x = flat_map-append line xs (x ∷ []) ∙ ap (λ (t : List ℕ). flat_map line xs ++ t) (append-nil (line x))

behind_first : (h a l n m : List ℕ) → n ≡ [] → m ≡ a ++ l → h ++ m ++ n ≡ (h ++ a ++ n) ++ l
behind_first h a l n m none is = rw (none, is, append-nil (h ++ (a ++ l)), append-nil (h ++ a)) (sym (append_assoc h a l))

behind_second : (h a b l m : List ℕ) → m ≡ b ++ l → h ++ a ++ m ≡ (h ++ a ++ b) ++ l
behind_second h a b l m is = rw is (sym (append_assoc (h ++ a) b l))

pub behind_all : (h a b l m : List ℕ) → m ≡ b ++ l → h ++ (a ++ m) ≡ (h ++ (a ++ b)) ++ l
behind_all h a b l m is = rw is (ap (λ (t : List ℕ). h ++ t) (sym (append_assoc a b l)) ∙ sym (append_assoc h (a ++ b) l))

module _ (p : ProblemLists) (readings : List Reading) where
  -- ---- real times
  abbrev pub values_text : List ℤ → List ℕ
  values_text values = value_lines p (nodes_of p readings) values

  pub values_none : values_text [] ≡ []
  values_none = value_lines-nil p (nodes_of p readings)

  pub values_grow : (vs ws : List ℤ) (line : List ℕ) → Grows (execution_format p readings) vs ws line → (values_text ws ≡ values_text vs ++ line) × (length ws ≡ length vs + 1)
  values_grow vs ws line grows = (
    append_cancel_left (line_of execution_head) (values_text ws) (values_text vs ++ line) (grows.text ∙ append_assoc (line_of execution_head) (values_text vs) line),
    omega (arith, grows.lines),
  )

  -- ---- ends
  pub path_grows : (v : ℤ) (path : List Step) (s : Step) (line : List ℕ) → line ≡ step_line p s → EndGrows p readings (Limited v path []) (Limited v (path ++ s ∷ []) []) line
  path_grows v path s line is = record {
    text = λ side. behind_first (side_line side (Some v)) (flat_map (step_line p) path) line (values_text []) (flat_map (step_line p) (path ++ s ∷ [])) values_none
        (lines_push (step_line p) path s ∙ ap (λ (t : List ℕ). flat_map (step_line p) path ++ t) (sym is));
    size = omega (arith, length-append path (s ∷ []));
  }

  pub inside_grows : (inside : List ℕ) (k : ℕ) (line : List ℕ) → line ≡ inside_line p k → EndGrows p readings (Unlimited inside []) (Unlimited (inside ++ k ∷ []) []) line
  inside_grows inside k line is = record {
    text = λ side. behind_first (side_line side None) (flat_map (inside_line p) inside) line (values_text []) (flat_map (inside_line p) (inside ++ k ∷ [])) values_none
        (lines_push (inside_line p) inside k ∙ ap (λ (t : List ℕ). flat_map (inside_line p) inside ++ t) (sym is));
    size = omega (arith, length-append inside (k ∷ []));
  }

  pub limited_grows : (v : ℤ) (path : List Step) (vs ws : List ℤ) (line : List ℕ) → Grows (execution_format p readings) vs ws line → EndGrows p readings (Limited v path vs) (Limited v path ws) line
  limited_grows v path vs ws line grows =
      let g = values_grow vs ws line grows in record {
        text = λ side. behind_second (side_line side (Some v)) (flat_map (step_line p) path) (values_text vs) line (values_text ws) g.0;
        size = omega (arith, g.1);
      }

  pub unlimited_grows : (inside : List ℕ) (vs ws : List ℤ) (line : List ℕ) → Grows (execution_format p readings) vs ws line → EndGrows p readings (Unlimited inside vs) (Unlimited inside ws) line
  unlimited_grows inside vs ws line grows =
      let g = values_grow vs ws line grows in record {
        text = λ side. behind_second (side_line side None) (flat_map (inside_line p) inside) (values_text vs) line (values_text ws) g.0;
        size = omega (arith, g.1);
      }

  -- ---- the whole
  abbrev pub GrowsTo : Said → Said → List ℕ → Type 0
  GrowsTo = Grows (certificate_format p readings)

  abbrev pub head_text : List ℕ
  head_text = line_of certificate_head

  pub upper_grows : (a b : ℕ) (e t : EndLists) (line : List ℕ) → EndGrows p readings e t line → GrowsTo (UpperSaid a b e) (UpperSaid a b t) line
  upper_grows a b e t line grows = record {
    text = behind_all head_text (events_line p a b) (side_lines p readings Upper e) line (side_lines p readings Upper t) (grows.text Upper);
    lines = omega (arith, grows.size);
  }

  pub ends_grow : (a b : ℕ) (u e t : EndLists) (line : List ℕ) → EndGrows p readings e t line → GrowsTo (EndsSaid a b u e) (EndsSaid a b u t) line
  ends_grow a b u e t line grows = record {
    text = behind_all head_text (events_line p a b ++ side_lines p readings Upper u) (side_lines p readings Lower e) line (side_lines p readings Lower t) (grows.text Lower);
    lines = omega (arith, grows.size);
  }

  pub cycle_grows : (steps : List Step) (s : Step) (line : List ℕ) → line ≡ step_line p s → GrowsTo (CycleSaid steps) (CycleSaid (steps ++ s ∷ [])) line
  cycle_grows steps s line is = record {
    text = behind_all head_text (line_of (codes "cycle" ∷ [])) (flat_map (step_line p) steps) line (flat_map (step_line p) (steps ++ s ∷ []))
        (lines_push (step_line p) steps s ∙ ap (λ (t : List ℕ). flat_map (step_line p) steps ++ t) (sym is));
    lines = omega (arith, length-append steps (s ∷ []));
  }

  pub run_grows : (vs ws : List ℤ) (line : List ℕ) → Grows (execution_format p readings) vs ws line → GrowsTo (RunSaid vs) (RunSaid ws) line
  run_grows vs ws line grows =
      let g = values_grow vs ws line grows in record {
        text = behind_all head_text (line_of (codes "run" ∷ [])) (values_text vs) line (values_text ws) g.0;
        lines = omega (arith, g.1);
      }

  -- ---- first lines of a part
  begins : (h x y : List ℕ) → y ≡ [] → h ++ (x ++ y) ≡ (h ++ []) ++ x
  begins h x y none = rw (none, append-nil x, append-nil h) refl

  pub cycle_begins : GrowsTo NoneSaid (CycleSaid []) (line_of (cert_words CycleLine))
  cycle_begins = record { text = begins head_text (line_of (codes "cycle" ∷ [])) [] refl; lines = refl }

  pub run_begins : GrowsTo NoneSaid (RunSaid []) (line_of (cert_words RunLine))
  run_begins = record { text = begins head_text (line_of (codes "run" ∷ [])) (values_text []) values_none; lines = refl }

  pub events_begin : (j k : ℕ) (a b : List ℕ) → HasEvent p j a → HasEvent p k b → GrowsTo NoneSaid (EventsSaid j k) (line_of (cert_words (EndsLine a b)))
  events_begin j k a b at at' = record {
    text = rw (event_at_name p.events j a at, event_at_name p.events k b at') refl;
    lines = refl;
  }

  pub begun_text : (side : Side) (v : Option ℤ) → side_lines p readings side (begun v) ≡ side_line side v
  begun_text side None = rw values_none (append-nil (side_line side None ++ []) ∙ append-nil (side_line side None))
  begun_text side (Some v) = rw values_none (append-nil (side_line side (Some v) ++ []) ∙ append-nil (side_line side (Some v)))

  pub begun_size : (v : Option ℤ) → end_size (begun v) ≡ 1
  begun_size None = refl
  begun_size (Some v) = refl

  pub upper_begins : (a b : ℕ) (v : Option ℤ) → GrowsTo (EventsSaid a b) (UpperSaid a b (begun v)) (line_of (cert_words (SideLine Upper v)))
  upper_begins a b v = record {
    text = rw (begun_text Upper v) (sym (append_assoc head_text (events_line p a b) (side_line Upper v)));
    lines = omega (arith, begun_size v);
  }

  pub lower_begins : (a b : ℕ) (u : EndLists) (v : Option ℤ) → GrowsTo (UpperSaid a b u) (EndsSaid a b u (begun v)) (line_of (cert_words (SideLine Lower v)))
  lower_begins a b u v = record {
    text = rw (begun_text Lower v) (sym (append_assoc head_text (events_line p a b ++ side_lines p readings Upper u) (side_line Lower v)));
    lines = omega (arith, begun_size v);
  }
