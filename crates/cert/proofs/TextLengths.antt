-- How long the lines of a certificate are.
use Rattle.std.proofs.Common.{◌≡◌, ◌<◌, ◌≤◌, ◌+◌, ◌*◌, ◌/◌, ◌%◌, ◌^◌, ℕ, zero, suc, List, [], ◌∷◌, ◌++◌, length, get_or, codes, All, arith, ℤ, length-append}
use Rattle.std.specs.Prelude.{pos, negsuc, neg_ℤ, ◌≤ℤ◌, AllPairs}
use Rattle.std.specs.List.{flat_map}
use Rattle.std.proofs.lemmas.Int.{ints}
use Rattle.std.proofs.lemmas.Nat.{div_below}
use Rattle.std.proofs.lemmas.List.Elements.{All-nil, All-cons, All-head, All-tail, All-append, All-map, Contains-get_or}
use Rattle.atto.specs.Decimal.{decimal_of}
use Rattle.atto.specs.NsText.{ns_text, unsigned_ns_text, last_digits}
use Rattle.atto.proofs.DecimalLemmas.{length-decimal_of-le, length-last_digits}
use Rattle.line_format.specs.Words.{line_of}
pub use Rattle.line_format.proofs.Lengths.{line_size, lines_short}
use Rattle.problem_model.specs.declared.items.Bound.{Bound}
use Rattle.problem_model.specs.declared.items.Bound.TheVariants.{SpanMost, SpanLeast, Late, Early, Follow, DelayMost, DelayLeast}
use Rattle.problem_model.specs.declared.items.Clock.{Clock}
use Rattle.problem_model.specs.declared.items.Event.{Event}
use Rattle.problem_model.specs.declared.items.Node.{Node}
use Rattle.problem_model.specs.declared.items.Node.TheVariants as nodes
use Rattle.problem_model.specs.Name.{IsEventName, IsClockName}
use Rattle.problem_model.specs.Problem.{ProblemLists, IsProblem}
use Rattle.problem_model.specs.ProblemText.{clock_name, event_name}
use Rattle.problem_model.specs.BoundText.{bound_words}
use Rattle.problem_model.specs.Bounds.{Constraint, Declares, IsReading}
use Rattle.problem_model.specs.Nodes.{Reading, AreReadings, nodes_of, event_nodes, reading_nodes}
use Rattle.problem_model.specs.ExecutionText.{value_line, value_lines}
use Rattle.problem_model.specs.Numbers.{IsUpTo}
use Rattle.problem_model.specs.Limits.{path_bits}
use Rattle.cert.specs.declared.chain.Step.{Step}
use Rattle.cert.specs.CertificateText.{IsStepOf, step_line, inside_line}
use Rattle.cert.proofs.Declaring.{reading_fits}

-- ---- numbers
decimal_short : (n : ℕ) → n < 2 ^ 62 → length (decimal_of n) ≤ 19
decimal_short n small = length-decimal_of-le 19 n (omega arith) (let below : 2 ^ 62 ≤ 10 ^ 19 = omega arith in omega (arith, small, below))

unsigned_short : (k n : ℕ) → 0 < k → n < 10 ^ k * 1000000000 → length (unsigned_ns_text n) ≤ k + 10
unsigned_short k n some small =
    let whole = length-decimal_of-le k (n / 1000000000) some (div_below n 1000000000 (10 ^ k) (omega arith) small) in
    let parts = length-last_digits 9 (n % 1000000000) in
    let all = length-append (decimal_of (n / 1000000000)) (46 ∷ last_digits 9 (n % 1000000000)) in
    omega (arith, whole, parts, all)

ns_short : (k m : ℕ) (z : ℤ) → 0 < k → m < 10 ^ k * 1000000000 → neg_ℤ (pos m) ≤ℤ z → z ≤ℤ pos m → length (ns_text z) ≤ k + 11
ns_short k m (pos n) some small low high = let short = unsigned_short k n some (omega (arith, ints, small, high)) in omega (arith, short)
ns_short k m (negsuc n) some small low high = let short = unsigned_short k (suc n) some (omega (arith, ints, small, low)) in omega (arith, short)

pub value_short : (z : ℤ) → IsUpTo (path_bits + 2) z → length (ns_text z) ≤ 39
value_short z small = ns_short 28 (2 ^ (path_bits + 2)) z (omega arith) (omega arith) small.0 small.1

pub weight_short : (z : ℤ) → IsUpTo 93 z → length (ns_text z) ≤ 30
weight_short z small = ns_short 19 (2 ^ 93) z (omega arith) (omega arith) small.0 small.1

-- ---- names
event_names_short : (es : List Event) → All (λ e. IsEventName e.name) es → (k : ℕ) → length (event_name es k) ≤ 48
event_names_short [] all k = omega arith
event_names_short (e ∷ es) all zero = (All-head (λ (e : Event). IsEventName e.name) e es all).short
event_names_short (e ∷ es) all (suc k) = event_names_short es (All-tail (λ (e : Event). IsEventName e.name) e es all) k

clock_names_short : (cs : List Clock) → All (λ c. IsClockName c.name) cs → (k : ℕ) → length (clock_name cs k) ≤ 32
clock_names_short [] all k = omega arith
clock_names_short (c ∷ cs) all zero = (All-head (λ (c : Clock). IsClockName c.name) c cs all).short
clock_names_short (c ∷ cs) all (suc k) = clock_names_short cs (All-tail (λ (c : Clock). IsClockName c.name) c cs all) k

-- ---- clocks inside a cut
rising_few : (least limit : ℕ) (xs : List ℕ) → least ≤ limit → All (λ k. least ≤ k) xs → All (λ k. k < limit) xs → AllPairs (λ j k. j < k) xs → least + length xs ≤ limit
rising_few least limit [] fits from below rising = omega (arith, fits)
rising_few least limit (x ∷ xs) fits from below rising =
    let first : least ≤ x = All-head (λ (k : ℕ). least ≤ k) x xs from in
    let inside : x < limit = All-head (λ (k : ℕ). k < limit) x xs below in
    let rest = rising_few (suc x) limit xs (omega (arith, inside)) (λ i d within. (let after : x < get_or xs i d = rising 0 (suc i) d (omega arith) (omega (arith, within)) in omega (arith, after)))
    (All-tail (λ (k : ℕ). k < limit) x xs below) (λ i j d before within. rising (suc i) (suc j) d (omega (arith, before)) (omega (arith, within))) in
    omega (arith, first, rest)

pub inside_few : (limit : ℕ) (xs : List ℕ) → All (λ k. k < limit) xs → AllPairs (λ j k. j < k) xs → length xs ≤ limit
inside_few limit xs below rising = let few = rising_few 0 limit xs (omega arith) (λ i d within. omega arith) below rising in omega (arith, few)

module _ (p : ProblemLists) (lawful : IsProblem p) where
  event_short : (k : ℕ) → length (event_name p.events k) ≤ 48
  event_short k = event_names_short p.events lawful.formed.event_names k

  clock_short : (k : ℕ) → length (clock_name p.clocks k) ≤ 32
  clock_short k = clock_names_short p.clocks lawful.formed.clock_names k

  -- ---- the events of an interval
  pub events_short : (j k : ℕ) → length (line_of (codes "ends" ∷ event_name p.events j ∷ event_name p.events k ∷ [])) ≤ 103
  events_short j k =
      let size : length (line_of (codes "ends" ∷ event_name p.events j ∷ event_name p.events k ∷ [])) ≡ 4 + 1 + (length (event_name p.events j) + 1 + (length (event_name p.events k) + 1 + 0)) =
      line_size (codes "ends") (event_name p.events j ∷ event_name p.events k ∷ []) in
      omega (arith, size, event_short j, event_short k)

  pub clock_line_short : (clock : ℕ) → length (inside_line p clock) ≤ 40
  clock_line_short clock =
      let size : length (inside_line p clock) ≡ 6 + 1 + (length (clock_name p.clocks clock) + 1 + 0) = line_size (codes "inside") (clock_name p.clocks clock ∷ []) in
      omega (arith, size, clock_short clock)

  -- ---- steps
  span_short : (kind : List ℕ) (clock s t : ℕ) (w : ℤ) → length kind ≤ 11 → IsReading p clock s → IsReading p clock t → IsUpTo 93 w
      → length (line_of (codes "step" ∷ kind ∷ clock_name p.clocks clock ∷ decimal_of s ∷ decimal_of t ∷ ns_text w ∷ [])) ≤ 149
  span_short kind clock s t w kind_short is is' small =
      let size : length (line_of (codes "step" ∷ kind ∷ clock_name p.clocks clock ∷ decimal_of s ∷ decimal_of t ∷ ns_text w ∷ []))
      ≡ 4 + 1 + (length kind + 1 + (length (clock_name p.clocks clock) + 1 + (length (decimal_of s) + 1 + (length (decimal_of t) + 1 + (length (ns_text w) + 1 + 0))))) =
      line_size (codes "step") (kind ∷ clock_name p.clocks clock ∷ decimal_of s ∷ decimal_of t ∷ ns_text w ∷ []) in
      omega (arith, size, kind_short, clock_short clock, decimal_short s (reading_fits p clock s lawful is), decimal_short t (reading_fits p clock t lawful is'), weight_short w small)

  stamp_short : (kind : List ℕ) (e : ℕ) (w : ℤ) → length kind ≤ 11 → IsUpTo 93 w → length (line_of (codes "step" ∷ kind ∷ event_name p.events e ∷ ns_text w ∷ [])) ≤ 149
  stamp_short kind e w kind_short small =
      let size : length (line_of (codes "step" ∷ kind ∷ event_name p.events e ∷ ns_text w ∷ [])) ≡ 4 + 1 + (length kind + 1 + (length (event_name p.events e) + 1 + (length (ns_text w) + 1 + 0))) =
      line_size (codes "step") (kind ∷ event_name p.events e ∷ ns_text w ∷ []) in
      omega (arith, size, kind_short, event_short e, weight_short w small)

  delay_short : (kind : List ℕ) (j k : ℕ) (w : ℤ) → length kind ≤ 11 → IsUpTo 93 w → length (line_of (codes "step" ∷ kind ∷ event_name p.events j ∷ event_name p.events k ∷ ns_text w ∷ [])) ≤ 149
  delay_short kind j k w kind_short small =
      let size : length (line_of (codes "step" ∷ kind ∷ event_name p.events j ∷ event_name p.events k ∷ ns_text w ∷ []))
      ≡ 4 + 1 + (length kind + 1 + (length (event_name p.events j) + 1 + (length (event_name p.events k) + 1 + (length (ns_text w) + 1 + 0)))) =
      line_size (codes "step") (kind ∷ event_name p.events j ∷ event_name p.events k ∷ ns_text w ∷ []) in
      omega (arith, size, kind_short, event_short j, event_short k, weight_short w small)

  bound_short : (b : Bound) (c : Constraint) (w : ℤ) → Declares p b c → IsUpTo 93 w → length (line_of (codes "step" ∷ bound_words p b ++ ns_text w ∷ [])) ≤ 149
  bound_short (SpanMost clock s t) c w declares small = span_short (codes "span-most") clock s t w (omega arith) declares.2 declares.3 small
  bound_short (SpanLeast clock s t) c w declares small = span_short (codes "span-least") clock s t w (omega arith) declares.2 declares.3 small
  bound_short (Late e) c w declares small = stamp_short (codes "late") e w (omega arith) small
  bound_short (Early e) c w declares small = stamp_short (codes "early") e w (omega arith) small
  bound_short (Follow earlier s later t) c w declares small =
      let size : length (line_of (codes "step" ∷ codes "follow" ∷ clock_name p.clocks earlier ∷ decimal_of s ∷ clock_name p.clocks later ∷ decimal_of t ∷ ns_text w ∷ []))
      ≡ 4 + 1 + (6 + 1 + (length (clock_name p.clocks earlier) + 1 + (length (decimal_of s) + 1 + (length (clock_name p.clocks later) + 1 + (length (decimal_of t) + 1 + (length (ns_text w) + 1 + 0)))))) =
      line_size (codes "step") (codes "follow" ∷ clock_name p.clocks earlier ∷ decimal_of s ∷ clock_name p.clocks later ∷ decimal_of t ∷ ns_text w ∷ []) in
      omega (arith, size, clock_short earlier, clock_short later, decimal_short s (reading_fits p earlier s lawful declares.4), decimal_short t (reading_fits p later t lawful declares.5), weight_short w small)
  bound_short (DelayMost send receive) c w declares small = delay_short (codes "delay-most") send receive w (omega arith) small
  bound_short (DelayLeast send receive) c w declares small = delay_short (codes "delay-least") send receive w (omega arith) small

  pub steps_short : (steps : List Step) → All (IsStepOf p) steps → All (λ s. IsUpTo 93 s.weight) steps → length (flat_map (step_line p) steps) ≤ length steps * 149
  steps_short steps declared small =
      lines_short (step_line p) 149 steps (λ i d inside. (let of_p = declared i d inside in bound_short (get_or steps i d).bound of_p.0 (get_or steps i d).weight of_p.1 (small i d inside)))

  -- ---- clocks inside a cut
  pub cut_short : (inside : List ℕ) → All (λ k. k < length p.clocks) inside → AllPairs (λ j k. j < k) inside → length (flat_map (inside_line p) inside) ≤ 2621440
  cut_short inside below rising =
      let few = inside_few (length p.clocks) inside below rising in
      let limit = lawful.fits.clock_limit in
      let lines = lines_short (inside_line p) 40 inside (λ i d within. clock_line_short (get_or inside i d)) in
      omega (arith, few, limit, lines)

  -- ---- real times
  abbrev IsShortAt : Node → Type 0
  IsShortAt n = (z : ℤ) → IsUpTo (path_bits + 2) z → length (value_line p (n, z)) ≤ 101

  at_event : (e : ℕ) → IsShortAt (nodes.Event e)
  at_event e z small =
      let size : length (value_line p (nodes.Event e, z)) ≡ 5 + 1 + (length (event_name p.events e) + 1 + (length (ns_text z) + 1 + 0)) = line_size (codes "event") (event_name p.events e ∷ ns_text z ∷ []) in
      omega (arith, size, event_short e, value_short z small)

  at_reading : (clock stamp : ℕ) → stamp < 2 ^ 62 → IsShortAt (nodes.Reading clock stamp)
  at_reading clock stamp fits z small =
      let size : length (value_line p (nodes.Reading clock stamp, z)) ≡ 7 + 1 + (length (clock_name p.clocks clock) + 1 + (length (decimal_of stamp) + 1 + (length (ns_text z) + 1 + 0))) =
      line_size (codes "reading") (clock_name p.clocks clock ∷ decimal_of stamp ∷ ns_text z ∷ []) in
      omega (arith, size, clock_short clock, decimal_short stamp fits, value_short z small)

  at_events : (k : ℕ) (es : List Event) → All IsShortAt (event_nodes k es)
  at_events k [] = All-nil IsShortAt
  at_events k (e ∷ es) = All-cons IsShortAt (nodes.Event k) (event_nodes (k + 1) es) (at_event k) (at_events (k + 1) es)

  at_nodes : (readings : List Reading) → AreReadings p readings → All IsShortAt (nodes_of p readings)
  at_nodes readings are =
      All-append IsShortAt (event_nodes 0 p.events) (reading_nodes readings) (at_events 0 p.events)
      (All-map IsShortAt (λ (r : Reading). nodes.Reading r.0 r.1) readings
      (λ i d inside. (let r : Reading = get_or readings i d in at_reading r.0 r.1 (reading_fits p r.0 r.1 lawful (are.each r.0 r.1 (Contains-get_or readings i d inside))))))

  timed_short : (ns : List Node) (zs : List ℤ) → All IsShortAt ns → All (IsUpTo (path_bits + 2)) zs → length (value_lines p ns zs) ≤ length ns * 101
  timed_short [] zs short small = omega arith
  timed_short (n ∷ ns) [] short small = omega arith
  timed_short (n ∷ ns) (z ∷ zs) short small =
      let here = All-head IsShortAt n ns short z (All-head (IsUpTo (path_bits + 2)) z zs small) in
      let rest = timed_short ns zs (All-tail IsShortAt n ns short) (All-tail (IsUpTo (path_bits + 2)) z zs small) in
      omega (arith, here, rest, length-append (value_line p (n, z)) (value_lines p ns zs))

  pub values_short : (readings : List Reading) (zs : List ℤ) → AreReadings p readings → All (IsUpTo (path_bits + 2)) zs → length (value_lines p (nodes_of p readings) zs) ≤ length (nodes_of p readings) * 101
  values_short readings zs are small = timed_short (nodes_of p readings) zs (at_nodes readings are) small
