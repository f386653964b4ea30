-- What taking a line does to the values so far.
use Rattle.std.proofs.Common.{◌≡◌, ◌<◌, ◌≤◌, ◌^◌, ℕ, List, [], ◌∷◌, ◌++◌, length, slice_get, Option, Some, None, refl, sym, ◌∙◌, ap, arith, ℤ, append_assoc, length-append}
use Rattle.std.specs.Prelude.{SomeIff}
use Rattle.std.specs.List.{zip, flat_map}
use Rattle.std.proofs.lemmas.Option.{slice_get_within}
use Rattle.std.proofs.lemmas.List.{append-nil}
use Rattle.std.proofs.lemmas.List.Elements.{All-push}
use Rattle.std.proofs.lemmas.Grind.{flat_map-append}
use Rattle.atto.specs.Number.{Counts, FitsUnits}
use Rattle.line_format.specs.Words.{line_of}
use Rattle.line_format.specs.Format.{FaultIn, Grows}
use Rattle.line_format.specs.declared.fault.FaultKind.TheVariants as kinds
use Rattle.problem_model.specs.declared.items.Node.{Node}
use Rattle.problem_model.specs.declared.items.Node.TheVariants as nodes
use Rattle.problem_model.specs.Problem.{ProblemLists}
use Rattle.problem_model.specs.Nodes.{Reading, nodes_of}
use Rattle.problem_model.specs.ProblemText.{clock_name, event_name}
use Rattle.problem_model.specs.ExecutionText.{execution_head, value_line, value_lines}
use Rattle.cert.specs.ExecutionFormat.{execution_format, AreValues, IsNext}
use Rattle.cert.specs.ExecutionFormat.ExecutionLine.{EventLine, ReadingLine}
use Rattle.cert.specs.Said.{SaysEvent, SaysReading}
use Rattle.cert.specs.declared.words.EventWords.{EventWords}
use Rattle.cert.specs.declared.words.ReadingWords.{ReadingWords}

-- ---- one value more
zip-nil : (ns : List Node) → zip {K = Node} {X = ℤ} ns [] ≡ []
zip-nil [] = refl
zip-nil (n ∷ ns) = refl

zip-push : (ns : List Node) (vs : List ℤ) (node : Node) (v : ℤ) → slice_get ns (length vs) ≡ Some node → zip ns (vs ++ v ∷ []) ≡ zip ns vs ++ (node, v) ∷ []
zip-push [] vs node v at = absurd cc
zip-push (n ∷ ns) [] node v at = let is : n ≡ node = cc in rw (is, zip-nil ns) refl
zip-push (n ∷ ns) (x ∷ vs) node v at = ap (λ ys. (n, x) ∷ ys) (zip-push ns vs node v at)

pub value_lines-nil : (p : ProblemLists) (ns : List Node) → value_lines p ns [] ≡ []
value_lines-nil p ns = rw (zip-nil ns) refl

pub value_lines-push : (p : ProblemLists) (ns : List Node) (vs : List ℤ) (node : Node) (v : ℤ) → slice_get ns (length vs) ≡ Some node → value_lines p ns (vs ++ v ∷ []) ≡ value_lines p ns vs ++ value_line p (node, v)
value_lines-push p ns vs node v at =
    ap (flat_map (value_line p)) (zip-push ns vs node v at) ∙ flat_map-append (value_line p) (zip ns vs) ((node, v) ∷ []) ∙ ap (λ (t : List ℕ). value_lines p ns vs ++ t) (append-nil (value_line p (node, v)))

some_event : (a b : ℕ) → Some (nodes.Event a) ≡ Some (nodes.Event b) → a ≡ b
some_event a b e = cc

some_reading : (a b s t : ℕ) → Some (nodes.Reading a s) ≡ Some (nodes.Reading b t) → (a ≡ b) × (s ≡ t)
some_reading a b s t e = let x : a ≡ b = cc in let y : s ≡ t = cc in (x, y)

not_both : (a b t : ℕ) → Some (nodes.Event a) ≡ Some (nodes.Reading b t) → ⊥
not_both a b t e = cc

pub held_same : (v : Option ℤ) (P : Type 0) (z x : ℤ) → v ≡ Some x → SomeIff v P z → P × (x ≡ z)
held_same None P z x is held = absurd cc
held_same (Some y) P z x is held = let same : y ≡ x = cc in (held.0, sym same ∙ held.1)

pub held_not : (v : Option ℤ) (P : Type 0) (z : ℤ) → v ≡ None → SomeIff v P z → P → ⊥
held_not None P z is held = held
held_not (Some y) P z is held = absurd cc

module _ (p : ProblemLists) (readings : List Reading) where
  pub value_grows : (values : List ℤ) (node : Node) (v : ℤ) → IsNext p readings values node → Grows (execution_format p readings) values (values ++ v ∷ []) (value_line p (node, v))
  value_grows values node v at = record {
    text = ap (λ (t : List ℕ). line_of execution_head ++ t) (value_lines-push p (nodes_of p readings) values node v at) ∙ sym (append_assoc (line_of execution_head) (value_lines p (nodes_of p readings) values) (value_line p (node, v)));
    lines = omega (arith, length-append values (v ∷ []));
  }

  pub values_more : (values : List ℤ) (node : Node) (v : ℤ) → IsNext p readings values node → FitsUnits v → AreValues (length (nodes_of p readings)) values → AreValues (length (nodes_of p readings)) (values ++ v ∷ [])
  values_more values node v at fits are = record {
    fit = All-push FitsUnits values v are.fit fits;
    few = omega (arith, slice_get_within (nodes_of p readings) (length values) node at, length-append values (v ∷ []));
  }

  -- ---- the place of an event
  pub event_other : (values : List ℤ) (event : ℕ) (name body : List ℕ) (w : EventWords) → IsNext p readings values (nodes.Event event) → name ≡ event_name p.events event → SaysEvent body w → (w.name ≡ name → ⊥) →
      FaultIn (execution_format p readings) values body kinds.Name
  event_other values event name body w at is says other =
      (EventLine w.name says.z, (event, at), says.named, says.is, λ fits. other (fits.2 ∙ ap (event_name p.events) (some_event fits.0 event (sym fits.1 ∙ at)) ∙ sym is))

  pub event_range : (values : List ℤ) (event : ℕ) (name body : List ℕ) (w : EventWords) → IsNext p readings values (nodes.Event event) → name ≡ event_name p.events event → SaysEvent body w → w.name ≡ name → w.value ≡ None →
      FaultIn (execution_format p readings) values body kinds.Range
  event_range values event name body w at is says same none =
      (EventLine w.name says.z, (event, at), says.named, says.is, ((event, at, same ∙ is), held_not w.value (FitsUnits says.z) says.z none says.held))

  pub event_taken : (values more : List ℤ) (event : ℕ) (name body : List ℕ) (w : EventWords) (v : ℤ) → IsNext p readings values (nodes.Event event) → name ≡ event_name p.events event → SaysEvent body w → w.name ≡ name → w.value ≡ Some v →
      more ≡ values ++ v ∷ [] → Grows (execution_format p readings) values more (body ++ 10 ∷ [])
  event_taken values more event name body w v at is says same some grown =
      let held = held_same w.value (FitsUnits says.z) says.z v some says.held in
      let spelled : body ++ 10 ∷ [] ≡ value_line p (nodes.Event event, v) = rw (says.is, same, is, held.1) refl in
      rw (grown, spelled) (value_grows values (nodes.Event event) v at)

  -- ---- the place of a reading
  pub reading_other : (values : List ℤ) (place stamp : ℕ) (name body : List ℕ) (w : ReadingWords) → IsNext p readings values (nodes.Reading place stamp) → name ≡ clock_name p.clocks place → (says : SaysReading body w) →
      (w.clock ≡ name → says.m ≡ stamp → ⊥) → FaultIn (execution_format p readings) values body kinds.Name
  reading_other values place stamp name body w at is says other = (
    ReadingLine w.clock says.m says.z,
    (place, stamp, at),
    says.named,
    says.is,
    λ fits.
        let one = some_reading fits.0 place says.m stamp (sym fits.1 ∙ at) in other (fits.2 ∙ ap (clock_name p.clocks) one.0 ∙ sym is) one.1,
  )

  pub reading_range : (values : List ℤ) (place stamp : ℕ) (name body : List ℕ) (w : ReadingWords) → IsNext p readings values (nodes.Reading place stamp) → name ≡ clock_name p.clocks place → (says : SaysReading body w) →
      w.clock ≡ name → says.m ≡ stamp → w.value ≡ None → FaultIn (execution_format p readings) values body kinds.Range
  reading_range values place stamp name body w at is says same reads none =
      let there : IsNext p readings values (nodes.Reading place says.m) = at ∙ ap (λ (m : ℕ). Some (nodes.Reading place m)) (sym reads) in
      (ReadingLine w.clock says.m says.z, (place, stamp, at), says.named, says.is, ((place, there, same ∙ is), held_not w.value (FitsUnits says.z) says.z none says.held))

  pub reading_taken : (values more : List ℤ) (place stamp : ℕ) (name body : List ℕ) (w : ReadingWords) (v : ℤ) → IsNext p readings values (nodes.Reading place stamp) → name ≡ clock_name p.clocks place → (says : SaysReading body w) →
      w.clock ≡ name → says.m ≡ stamp → w.value ≡ Some v → more ≡ values ++ v ∷ [] → Grows (execution_format p readings) values more (body ++ 10 ∷ [])
  reading_taken values more place stamp name body w v at is says same reads some grown =
      let held = held_same w.value (FitsUnits says.z) says.z v some says.held in
      let spelled : body ++ 10 ∷ [] ≡ value_line p (nodes.Reading place stamp, v) = rw (says.is, same, is, reads, held.1) refl in
      rw (grown, spelled) (value_grows values (nodes.Reading place stamp) v at)

  -- ---- the place behind the nodes
  past_end : (values : List ℤ) (node : Node) → length (nodes_of p readings) ≤ length values → IsNext p readings values node → ⊥
  past_end values node all at = omega (arith, slice_get_within (nodes_of p readings) (length values) node at, all)

-- the stamp of a line is the number that is held
pub stamp_same : (m s : ℕ) (n : Option ℕ) → Counts (2 ^ 64) m n → n ≡ Some s → m ≡ s
stamp_same m s None counts is = absurd cc
stamp_same m s (Some k) counts is = let same : k ≡ s = cc in sym counts.0 ∙ same

pub stamp_held : (m s : ℕ) (n : Option ℕ) → Counts (2 ^ 64) m n → s < 2 ^ 62 → m ≡ s → n ≡ Some s
stamp_held m s None counts fits is = absurd (omega (arith, counts, fits, is))
stamp_held m s (Some k) counts fits is = ap Some (counts.0 ∙ is)
