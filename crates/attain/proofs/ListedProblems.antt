-- What is written by a listing is a certificate of the problem that is listed.
use Rattle.std.proofs.Common.{◌≡◌, ◌+◌, ℕ, ℤ, zero, suc, List, [], ◌∷◌, ◌++◌, length, map, slice_get, Some, codes, refl, sym, ◌∙◌, ap, subst, arith, append_assoc, length-append}
use Rattle.std.specs.List.{flat_map, zip}
use Rattle.std.proofs.lemmas.List.{map-append}
use Rattle.atto.specs.Decimal.{decimal_of}
use Rattle.atto.specs.NsText.{ns_text}
use Rattle.line_format.specs.Words.{line_of}
use Rattle.problem_model.specs.declared.items.Event.{Event}
use Rattle.problem_model.specs.declared.items.Node.TheVariants as nodes
use Rattle.problem_model.specs.declared.items.Bound.{Bound}
use Rattle.problem_model.specs.declared.items.Bound.TheVariants.{SpanMost, SpanLeast, Late, Early, Follow, DelayMost, DelayLeast}
use Rattle.problem_model.specs.Problem.{ProblemLists}
use Rattle.problem_model.specs.ProblemText.{clock_name, event_name}
use Rattle.problem_model.specs.BoundText.{bound_words}
use Rattle.problem_model.specs.Nodes.{Reading, event_nodes, reading_nodes, nodes_of}
use Rattle.problem_model.specs.ExecutionText.{node_words, value_lines}
use Rattle.cert.specs.declared.chain.Step.{Step}
use Rattle.cert.specs.declared.certificate.Cert.TheVariants.{Cycle, Run}
use Rattle.problem.specs.Listing.{Listed, name_at, listed_nodes}
use Rattle.cert.specs.Listed.{certified, timed_line, listed_bound, listed_step, listed_event, listed_reading, listed_words, listed_values, listed_cycle, listed_run}
use Rattle.cert.specs.CertificateText.{step_line, certificate_text}
use Rattle.cert.proofs.OwnListing.{clock_name_is, lines_are}
use Rattle.problem_graph.specs.ListedProblem.{IsListedBy, StandsAt, IsCarried}
use Rattle.attain.specs.ListedProblem.{AreCarried}
use Rattle.problem.proofs.ListedNodes.{map_at}

-- ---- names
name_there : (es : List Event) (k : ℕ) (name : List ℕ) → slice_get (map (λ (e : Event). e.name) es) k ≡ Some name → event_name es k ≡ name
name_there [] k name at = absurd cc
name_there (e ∷ es) zero name at = cc
name_there (e ∷ es) (suc k) name at = name_there es k name at

module _ (l : Listed) (p : ProblemLists) (readings : List Reading) (is : IsListedBy l p readings) where
  pub clock_listed : (k : ℕ) → name_at l.clock_names k ≡ clock_name p.clocks k
  clock_listed k = ap (λ (names : List (List ℕ)). name_at names k) is.clocks ∙ clock_name_is p.clocks k

  pub event_listed : (number place : ℕ) → StandsAt l number place → name_at l.event_names number ≡ event_name p.events place
  event_listed number place (node, at) =
      let e : ℕ × ℕ = (number, node) in
      let here : slice_get (map (λ (v : ℕ × ℕ). name_at l.event_names v.0) l.events) place ≡ Some (name_at l.event_names number) = map_at (λ (v : ℕ × ℕ). name_at l.event_names v.0) l.events place e at in
      sym (name_there p.events place (name_at l.event_names number) (subst (λ (names : List (List ℕ)). slice_get names place ≡ Some (name_at l.event_names number)) is.events here))

  -- ---- steps
  span_carried : (kind : List ℕ) (clock s t : ℕ) → kind ∷ name_at l.clock_names clock ∷ decimal_of s ∷ decimal_of t ∷ [] ≡ kind ∷ clock_name p.clocks clock ∷ decimal_of s ∷ decimal_of t ∷ []
  span_carried kind clock s t = ap (λ (name : List ℕ). kind ∷ name ∷ decimal_of s ∷ decimal_of t ∷ []) (clock_listed clock)

  stamp_carried : (kind : List ℕ) (number place : ℕ) → StandsAt l number place → kind ∷ name_at l.event_names number ∷ [] ≡ kind ∷ event_name p.events place ∷ []
  stamp_carried kind number place at = ap (λ (name : List ℕ). kind ∷ name ∷ []) (event_listed number place at)

  delay_carried : (kind : List ℕ) (send receive j k : ℕ) → StandsAt l send j → StandsAt l receive k
      → kind ∷ name_at l.event_names send ∷ name_at l.event_names receive ∷ [] ≡ kind ∷ event_name p.events j ∷ event_name p.events k ∷ []
  delay_carried kind send receive j k at at' =
      ap (λ (name : List ℕ). kind ∷ name ∷ name_at l.event_names receive ∷ []) (event_listed send j at)
      ∙ ap (λ (name : List ℕ). kind ∷ event_name p.events j ∷ name ∷ []) (event_listed receive k at')

  follow_carried : (earlier s later t : ℕ) → codes "follow" ∷ name_at l.clock_names earlier ∷ decimal_of s ∷ name_at l.clock_names later ∷ decimal_of t ∷ []
      ≡ codes "follow" ∷ clock_name p.clocks earlier ∷ decimal_of s ∷ clock_name p.clocks later ∷ decimal_of t ∷ []
  follow_carried earlier s later t =
      ap (λ (name : List ℕ). codes "follow" ∷ name ∷ decimal_of s ∷ name_at l.clock_names later ∷ decimal_of t ∷ []) (clock_listed earlier)
      ∙ ap (λ (name : List ℕ). codes "follow" ∷ clock_name p.clocks earlier ∷ decimal_of s ∷ name ∷ decimal_of t ∷ []) (clock_listed later)

  bound_carried : (b c : Bound) → IsCarried l b c → listed_bound l b ≡ bound_words p c
  bound_carried (SpanMost clock s t) c carried = span_carried (codes "span-most") clock s t ∙ ap (bound_words p) (sym carried)
  bound_carried (SpanLeast clock s t) c carried = span_carried (codes "span-least") clock s t ∙ ap (bound_words p) (sym carried)
  bound_carried (Late e) c (place, at, carried) = stamp_carried (codes "late") e place at ∙ ap (bound_words p) (sym carried)
  bound_carried (Early e) c (place, at, carried) = stamp_carried (codes "early") e place at ∙ ap (bound_words p) (sym carried)
  bound_carried (Follow earlier s later t) c carried = follow_carried earlier s later t ∙ ap (bound_words p) (sym carried)
  bound_carried (DelayMost send receive) c (j, k, at, at', carried) = delay_carried (codes "delay-most") send receive j k at at' ∙ ap (bound_words p) (sym carried)
  bound_carried (DelayLeast send receive) c (j, k, at, at', carried) = delay_carried (codes "delay-least") send receive j k at at' ∙ ap (bound_words p) (sym carried)

  step_carried : (s : Bound × ℤ) (t : Step) → IsCarried l s.0 t.bound → s.1 ≡ t.weight → listed_step l s ≡ step_line p t
  step_carried s t carried weighs =
      ap (λ (ws : List (List ℕ)). line_of (codes "step" ∷ ws ++ ns_text s.1 ∷ [])) (bound_carried s.0 t.bound carried)
      ∙ ap (λ (w : ℤ). line_of (codes "step" ∷ bound_words p t.bound ++ ns_text w ∷ [])) weighs

  pub steps_carried : (steps : List (Bound × ℤ)) (others : List Step) → AreCarried l steps others → flat_map (listed_step l) steps ≡ flat_map (step_line p) others
  steps_carried [] [] carried = refl
  steps_carried [] (t ∷ others) carried = absurd carried
  steps_carried (s ∷ steps) [] carried = absurd carried
  steps_carried (s ∷ steps) (t ∷ others) (carried, weighs, rest) =
      ap (λ (line : List ℕ). line ++ flat_map (listed_step l) steps) (step_carried s t carried weighs)
      ∙ ap (λ (text : List ℕ). step_line p t ++ text) (steps_carried steps others rest)

  pub cycle_carried : (steps : List (Bound × ℤ)) (others : List Step) → AreCarried l steps others → listed_cycle l steps ≡ certificate_text p (nodes_of p readings) (Cycle others)
  cycle_carried steps others carried = ap (λ (text : List ℕ). certified (line_of (codes "cycle" ∷ []) ++ text)) (steps_carried steps others carried)

  -- ---- nodes
  reading_lines : (rs : List (ℕ × ℕ × ℕ)) → map (listed_reading l) rs ≡ map (node_words p) (reading_nodes (map {A = ℕ × ℕ × ℕ} {B = Reading} (λ r. (r.0, r.1)) rs))
  reading_lines [] = refl
  reading_lines (r ∷ rs) =
      ap (λ (name : List ℕ). (codes "reading" ∷ name ∷ decimal_of r.1 ∷ []) ∷ map (listed_reading l) rs) (clock_listed r.0)
      ∙ ap (λ (ws : List (List (List ℕ))). node_words p (nodes.Reading r.0 r.1) ∷ ws) (reading_lines rs)

abbrev event_line : List ℕ → List (List ℕ)
event_line name = codes "event" ∷ name ∷ []

named_lines : (l : Listed) (es : List (ℕ × ℕ)) → map (listed_event l) es ≡ map event_line (map (λ (e : ℕ × ℕ). name_at l.event_names e.0) es)
named_lines l [] = refl
named_lines l (e ∷ es) = ap (λ (ws : List (List (List ℕ))). event_line (name_at l.event_names e.0) ∷ ws) (named_lines l es)

name_behind : (front : List Event) (e : Event) (es : List Event) → event_name (front ++ e ∷ es) (length front) ≡ e.name
name_behind [] e es = refl
name_behind (f ∷ front) e es = name_behind front e es

-- the events behind a front of all, by their numbers
event_lines : (p : ProblemLists) (front es : List Event) (k : ℕ) → front ++ es ≡ p.events → k ≡ length front → map event_line (map (λ (e : Event). e.name) es) ≡ map (node_words p) (event_nodes k es)
event_lines p front [] k all at = refl
event_lines p front (e ∷ es) k all at =
    let name : event_name p.events k ≡ e.name = ap (event_name p.events) at ∙ ap (λ (vs : List Event). event_name vs (length front)) (sym all) ∙ name_behind front e es in
    ap (λ (n : List ℕ). event_line n ∷ map event_line (map (λ (v : Event). v.name) es)) (sym name)
    ∙ ap (λ (ws : List (List (List ℕ))). node_words p (nodes.Event k) ∷ ws)
    (event_lines p (front ++ e ∷ []) es (k + 1) (append_assoc front (e ∷ []) es ∙ all) (let more = length-append front (e ∷ []) in omega (arith, at, more)))

module _ (l : Listed) (p : ProblemLists) (readings : List Reading) (is : IsListedBy l p readings) where
  words_listed : listed_words l ≡ map (node_words p) (nodes_of p readings)
  words_listed =
      ap (λ (ws : List (List (List ℕ))). ws ++ map (listed_reading l) l.readings) (named_lines l l.events ∙ ap (map event_line) is.events ∙ event_lines p [] p.events 0 refl refl)
      ∙ ap (λ (ws : List (List (List ℕ))). map (node_words p) (event_nodes 0 p.events) ++ ws) (reading_lines l p readings is l.readings ∙ ap (λ (rs : List Reading). map (node_words p) (reading_nodes rs)) is.stamps)
      ∙ sym (map-append (node_words p) (event_nodes 0 p.events) (reading_nodes readings))

  pub values_listed : (x : ℕ → ℤ) → listed_values l x ≡ value_lines p (nodes_of p readings) (map x (listed_nodes l))
  values_listed x = ap (λ (ws : List (List (List ℕ))). flat_map timed_line (zip ws (map x (listed_nodes l)))) words_listed ∙ lines_are p (nodes_of p readings) (map x (listed_nodes l))

  pub run_listed : (x : ℕ → ℤ) → listed_run l x ≡ certificate_text p (nodes_of p readings) (Run (map x (listed_nodes l)))
  run_listed x = ap (λ (text : List ℕ). certified (line_of (codes "run" ∷ []) ++ text)) (values_listed x)
