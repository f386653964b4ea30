-- A problem listed in its own order names its bounds and gives its lines.
use Rattle.std.proofs.Common.{◌≡◌, ◌<◌, ◌+◌, ℕ, zero, suc, List, [], ◌∷◌, ◌++◌, length, map, Contains, codes, refl, sym, ◌∙◌, ap, subst, arith, add-one, ℤ}
use Rattle.std.specs.List.{flat_map, zip}
use Rattle.std.proofs.lemmas.List.{length-map, map-append}
use Rattle.std.proofs.lemmas.List.Elements.{All-contains}
use Rattle.std.proofs.lemmas.Option.{slice_get_within}
use Rattle.atto.specs.Decimal.{decimal_of}
use Rattle.atto.specs.NsText.{ns_text}
use Rattle.line_format.specs.Words.{line_of}
use Rattle.problem_model.specs.declared.items.Clock.{Clock}
use Rattle.problem_model.specs.declared.items.Event.{Event}
use Rattle.problem_model.specs.declared.items.Message.{Message}
use Rattle.problem_model.specs.declared.items.Node.{Node}
use Rattle.problem_model.specs.declared.items.Node.TheVariants as nodes
use Rattle.problem_model.specs.declared.items.Bound.{Bound}
use Rattle.problem_model.specs.declared.items.Bound.TheVariants.{SpanMost, SpanLeast, Late, Early, Follow, DelayMost, DelayLeast}
use Rattle.problem_model.specs.Problem.{ProblemLists, IsProblem}
use Rattle.problem_model.specs.ProblemText.{clock_name, event_name}
use Rattle.problem_model.specs.BoundText.{span_words, stamp_words, follow_words, delay_words, bound_words}
use Rattle.problem_model.specs.Bounds.{Constraint, Declares, ClockAt, IsReading}
use Rattle.problem_model.specs.Nodes.{Reading, AreReadings, nodes_of, event_nodes, reading_nodes}
use Rattle.problem_model.specs.ExecutionText.{node_words, value_line, value_lines}
use Rattle.problem.specs.Listing.{listing_of, event_places, reading_places, all_readings}
pub use Rattle.problem.proofs.Naming.{event_name_is, clock_name_is}
use Rattle.problem.proofs.AllReadings.{readings_are}
use Rattle.problem.proofs.ListedNodes.{counted, numbers_are}
pub use Rattle.problem.proofs.ListedNodes.{length-numbers, numbers_below}
use Rattle.cert.specs.declared.chain.Step.{Step}
use Rattle.cert.specs.declared.certificate.Cert.TheVariants.{Cycle, Run}
use Rattle.cert.specs.Listed.{HasNames, listed_time, name_at, certified, timed_line, listed_bound, listed_step, listed_event, listed_reading, listed_words, listed_nodes, listed_values, listed_cycle, listed_run}
use Rattle.cert.specs.CertificateText.{step_line, certificate_text}

-- ---- names
clock_in : (p : ProblemLists) (k : ℕ) (c : Clock) → ClockAt p k c → k < length (listing_of p).clock_names
clock_in p k c at = omega (arith, slice_get_within p.clocks k c at, length-map p.clocks (λ c. c.name))

event_in : (p : ProblemLists) (k : ℕ) → k < length p.events → k < length (listing_of p).event_names
event_in p k inside = omega (arith, inside, length-map p.events (λ e. e.name))

reading_in : (p : ProblemLists) (k s : ℕ) → IsReading p k s → IsProblem p → k < length (listing_of p).clock_names
reading_in p k s (e, has, clock, stamp) lawful =
    let known = All-contains (λ (v : Event). v.clock < length p.clocks) p.events e lawful.formed.event_clocks has in
    omega (arith, known, clock, length-map p.clocks (λ c. c.name))

ends_in : (p : ProblemLists) (m : Message) (send receive : ℕ) → IsProblem p → Contains p.messages m → m.send ≡ send → m.receive ≡ receive →
    (send < length (listing_of p).event_names) × (receive < length (listing_of p).event_names)
ends_in p m send receive lawful has s r =
    let sends : m.send < length p.events = subst (λ (x : Message). x.send < length p.events) has.2 (lawful.formed.sends has.0 m has.1) in
    let receives : m.receive < length p.events = subst (λ (x : Message). x.receive < length p.events) has.2 (lawful.formed.receives has.0 m has.1) in
    (event_in p send (omega (arith, sends, s)), event_in p receive (omega (arith, receives, r)))

pub is_named : (p : ProblemLists) (b : Bound) (c : Constraint) → Declares p b c → IsProblem p → HasNames (listing_of p) b
is_named p (SpanMost clock s t) c d lawful = clock_in p clock d.0 d.1
is_named p (SpanLeast clock s t) c d lawful = clock_in p clock d.0 d.1
is_named p (Late e) c d lawful = event_in p e (slice_get_within p.events e d.0 d.2)
is_named p (Early e) c d lawful = event_in p e (slice_get_within p.events e d.0 d.2)
is_named p (Follow k s l t) c d lawful = (reading_in p k s d.4 lawful, reading_in p l t d.5 lawful)
is_named p (DelayMost send receive) c d lawful = ends_in p d.0 send receive lawful d.2 d.3 d.4
is_named p (DelayLeast send receive) c d lawful = ends_in p d.0 send receive lawful d.1 d.2 d.3

-- ---- steps
delay_is : (p : ProblemLists) (kind : List ℕ) (send receive : ℕ) →
    delay_words kind (name_at (listing_of p).event_names send) (name_at (listing_of p).event_names receive) ≡ delay_words kind (event_name p.events send) (event_name p.events receive)
delay_is p kind send receive =
    ap (λ (name : List ℕ). delay_words kind name (name_at (listing_of p).event_names receive)) (event_name_is p.events send)
    ∙ ap (λ (name : List ℕ). delay_words kind (event_name p.events send) name) (event_name_is p.events receive)

pub bound_is : (p : ProblemLists) (b : Bound) → listed_bound (listing_of p) b ≡ bound_words p b
bound_is p (SpanMost clock s t) = ap (λ (name : List ℕ). span_words (codes "span-most") name s t) (clock_name_is p.clocks clock)
bound_is p (SpanLeast clock s t) = ap (λ (name : List ℕ). span_words (codes "span-least") name s t) (clock_name_is p.clocks clock)
bound_is p (Late e) = ap (stamp_words (codes "late")) (event_name_is p.events e)
bound_is p (Early e) = ap (stamp_words (codes "early")) (event_name_is p.events e)
bound_is p (Follow c s d t) =
    ap (λ (name : List ℕ). follow_words name s (name_at (listing_of p).clock_names d) t) (clock_name_is p.clocks c)
    ∙ ap (λ (name : List ℕ). follow_words (clock_name p.clocks c) s name t) (clock_name_is p.clocks d)
bound_is p (DelayMost send receive) = delay_is p (codes "delay-most") send receive
bound_is p (DelayLeast send receive) = delay_is p (codes "delay-least") send receive

pub step_is : (p : ProblemLists) (s : Step) → listed_step (listing_of p) (s.bound, s.weight) ≡ step_line p s
step_is p s = ap (λ (ws : List (List ℕ)). line_of (codes "step" ∷ ws ++ ns_text s.weight ∷ [])) (bound_is p s.bound)

steps_are : (p : ProblemLists) (steps : List Step) →
    flat_map (listed_step (listing_of p)) (map {A = Step} {B = Bound × ℤ} (λ s. (s.bound, s.weight)) steps) ≡ flat_map (step_line p) steps
steps_are p [] = refl
steps_are p (s ∷ steps) =
    ap (λ (text : List ℕ). listed_step (listing_of p) (s.bound, s.weight) ++ text) (steps_are p steps)
    ∙ ap (λ (line : List ℕ). line ++ flat_map (step_line p) steps) (step_is p s)

-- ---- real times
next_values : (f : ℕ → ℤ) (k n : ℕ) → map f (counted (k + 1) n) ≡ map (λ i. f (i + 1)) (counted k n)
next_values f k zero = refl
next_values f k (suc n) = ap (λ (xs : List ℤ). f (k + 1) ∷ xs) (next_values f (k + 1) n)

values_behind : (x : ℤ) (xs : List ℤ) (ns : List ℕ) → map (λ i. listed_time (x ∷ xs) (i + 1)) ns ≡ map (listed_time xs) ns
values_behind x xs [] = refl
values_behind x xs (n ∷ ns) =
    let head : listed_time (x ∷ xs) (n + 1) ≡ listed_time xs n = rw add-one refl in
    ap (λ (y : ℤ). y ∷ map (λ i. listed_time (x ∷ xs) (i + 1)) ns) head ∙ ap (λ (ys : List ℤ). listed_time xs n ∷ ys) (values_behind x xs ns)

values_again : (xs : List ℤ) → map (listed_time xs) (counted 0 (length xs)) ≡ xs
values_again [] = refl
values_again (x ∷ xs) =
    ap (λ (ys : List ℤ). x ∷ ys) (next_values (listed_time (x ∷ xs)) 0 (length xs) ∙ values_behind x xs (counted 0 (length xs)) ∙ values_again xs)

values_back : (p : ProblemLists) (rs : List Reading) (xs : List ℤ) → AreReadings p rs → length xs ≡ length (nodes_of p rs) → map (listed_time xs) (listed_nodes (listing_of p)) ≡ xs
values_back p rs xs are len =
    ap (map (listed_time xs)) (numbers_are p rs are) ∙ ap (λ (n : ℕ). map (listed_time xs) (counted 0 n)) (sym len) ∙ values_again xs

-- ---- lines of nodes
event_words : (p : ProblemLists) (k : ℕ) (es : List Event) → map (listed_event (listing_of p)) (event_places k es) ≡ map (node_words p) (event_nodes k es)
event_words p k [] = refl
event_words p k (e ∷ es) =
    ap (λ (name : List ℕ). (codes "event" ∷ name ∷ []) ∷ map (listed_event (listing_of p)) (event_places (k + 1) es)) (event_name_is p.events k)
    ∙ ap (λ (ws : List (List (List ℕ))). node_words p (nodes.Event k) ∷ ws) (event_words p (k + 1) es)

reading_words : (p : ProblemLists) (k : ℕ) (rs : List Reading) → map (listed_reading (listing_of p)) (reading_places k rs) ≡ map (node_words p) (reading_nodes rs)
reading_words p k [] = refl
reading_words p k (r ∷ rs) =
    ap (λ (name : List ℕ). (codes "reading" ∷ name ∷ decimal_of r.1 ∷ []) ∷ map (listed_reading (listing_of p)) (reading_places (k + 1) rs)) (clock_name_is p.clocks r.0)
    ∙ ap (λ (ws : List (List (List ℕ))). node_words p (nodes.Reading r.0 r.1) ∷ ws) (reading_words p (k + 1) rs)

pub words_are : (p : ProblemLists) (rs : List Reading) → AreReadings p rs → listed_words (listing_of p) ≡ map (node_words p) (nodes_of p rs)
words_are p rs are =
    let n = length p.events in
    let events = map (node_words p) (event_nodes 0 p.events) in
    ap (λ (ws : List (List (List ℕ))). ws ++ map (listed_reading (listing_of p)) (reading_places n (all_readings p.events))) (event_words p 0 p.events)
    ∙ ap (λ (ws : List (List (List ℕ))). events ++ ws) (reading_words p n (all_readings p.events))
    ∙ ap (λ (readings : List Reading). events ++ map (node_words p) (reading_nodes readings)) (sym (readings_are p rs are))
    ∙ sym (map-append (node_words p) (event_nodes 0 p.events) (reading_nodes rs))

pub lines_are : (p : ProblemLists) (ns : List Node) (xs : List ℤ) → flat_map timed_line (zip (map (node_words p) ns) xs) ≡ flat_map (value_line p) (zip ns xs)
lines_are p [] xs = refl
lines_are p (n ∷ ns) [] = refl
lines_are p (n ∷ ns) (x ∷ xs) = ap (λ (text : List ℕ). value_line p (n, x) ++ text) (lines_are p ns xs)

pub values_are : (p : ProblemLists) (rs : List Reading) (xs : List ℤ) → AreReadings p rs → length xs ≡ length (nodes_of p rs) →
    listed_values (listing_of p) (listed_time xs) ≡ value_lines p (nodes_of p rs) xs
values_are p rs xs are len =
    ap (λ (ws : List (List (List ℕ))). flat_map timed_line (zip ws (map (listed_time xs) (listed_nodes (listing_of p))))) (words_are p rs are)
    ∙ ap (λ (ys : List ℤ). flat_map timed_line (zip (map (node_words p) (nodes_of p rs)) ys)) (values_back p rs xs are len)
    ∙ lines_are p (nodes_of p rs) xs

-- ---- certificates
pub cycle_is : (p : ProblemLists) (rs : List Reading) (steps : List Step) →
    listed_cycle (listing_of p) (map {A = Step} {B = Bound × ℤ} (λ s. (s.bound, s.weight)) steps) ≡ certificate_text p (nodes_of p rs) (Cycle steps)
cycle_is p rs steps = ap (λ (text : List ℕ). certified (line_of (codes "cycle" ∷ []) ++ text)) (steps_are p steps)

pub run_is : (p : ProblemLists) (rs : List Reading) (xs : List ℤ) → AreReadings p rs → length xs ≡ length (nodes_of p rs) →
    listed_run (listing_of p) (listed_time xs) ≡ certificate_text p (nodes_of p rs) (Run xs)
run_is p rs xs are len = ap (λ (text : List ℕ). certified (line_of (codes "run" ∷ []) ++ text)) (values_are p rs xs are len)
