-- The nodes of a problem and the numbers of the nodes of a graph that stands for it, each for the other.
use Rattle.std.proofs.Common.{◌≡◌, ◌≢◌, ◌⊎◌, ◌<◌, ◌≤◌, ◌+◌, ◌==◌, ℕ, zero, suc, List, [], ◌∷◌, length, map, get_or, slice_get, Some, if◌then◌else◌, refl, sym, ◌∙◌, ap, subst, arith, inl, inr}
use Rattle.std.specs.Prelude.{ℤ, pos, All, AllPairs, Contains}
use Rattle.std.proofs.lemmas.Int.{ints}
use Rattle.std.proofs.lemmas.Bool.{cases_lt, cases_eq, eq-eqb, ne_eqb, cond-true, cond-false}
use Rattle.std.proofs.lemmas.List.{length-map, get_or_past}
use Rattle.std.proofs.lemmas.Option.{none-some, same_Some, slice_get_within, slice_get_read, slice_get-get_or, get_or_from_slice_get}
use Rattle.problem_model.specs.declared.items.Event.{Event}
use Rattle.problem_model.specs.declared.items.Node.{Node}
use Rattle.problem_model.specs.declared.items.Node.TheVariants as nodes
use Rattle.problem_model.specs.Problem.{ProblemLists}
use Rattle.problem_model.specs.Bounds.{Times}
use Rattle.problem_model.specs.Nodes.{Reading, nodes_of}
use Rattle.problem_model.proofs.OneList.{listed, readings_one}
use Rattle.problem_model.proofs.Places.{event_stands, reading_stands, stands_there}
use Rattle.problem_model.specs.Executions.{at}
use Rattle.problem_model.specs.ProblemArcs.{IsNodeAt}
use Rattle.problem_model.specs.Solutions.{IsNodeOf}
use Rattle.problem_model.proofs.Problems.{time_at}
use Rattle.problem_model.proofs.SimplePaths.{pigeons}
use Rattle.problem_model.proofs.Solutions.{place_of}
use Rattle.sync_graph.specs.Graph.{GraphLists}
use Rattle.problem.specs.Listing.{Listed, name_at, listed_nodes}
use Rattle.problem.proofs.ListedNodes.{length-nodes_of, map_at, nodes_count, event_node, reading_node, stamp_of}
use Rattle.problem_graph.specs.ListedStanding.{IsNodeBy, StandsForListed}

-- ---- places in a list of different numbers
-- the first place of a number
abbrev pub first_place : List ℕ → ℕ → ℕ
first_place [] k = 0
first_place (a ∷ rest) k = if a == k then 0 else suc (first_place rest k)

differ_behind : (a : ℕ) (xs : List ℕ) → AllPairs (λ j k. j ≢ k) (a ∷ xs) → AllPairs (λ j k. j ≢ k) xs
differ_behind a xs differ i j d below inside = differ (suc i) (suc j) d (omega (arith, below)) (omega (arith, inside))

first_place_is : (xs : List ℕ) → AllPairs (λ j k. j ≢ k) xs → (i k : ℕ) → slice_get xs i ≡ Some k → first_place xs k ≡ i
first_place_is [] differ i k there = absurd (none-some k there)
first_place_is (a ∷ xs) differ zero k there = cond-true (a == k) 0 (suc (first_place xs k)) (eq-eqb a k (same_Some a k there))
first_place_is (a ∷ xs) differ (suc i) k there =
    let inside : i < length xs = slice_get_within xs i k there in
    let other : a ≢ k = λ same. differ 0 (suc i) k (omega arith) (omega (arith, inside)) (same ∙ sym (get_or_from_slice_get xs i k k there)) in
    cond-false (a == k) 0 (suc (first_place xs k)) (ne_eqb a k other) ∙ ap suc (first_place_is xs (differ_behind a xs differ) i k there)

not_behind : (a : ℕ) (xs : List ℕ) (k : ℕ) → a ≢ k → ((i : ℕ) → slice_get xs i ≡ Some k → ⊥) → (i : ℕ) → slice_get (a ∷ xs) i ≡ Some k → ⊥
not_behind a xs k other none zero there = other (same_Some a k there)
not_behind a xs k other none (suc i) there = none i there

has_or_not : (xs : List ℕ) (k : ℕ) → ((i : ℕ) × (slice_get xs i ≡ Some k)) ⊎ ((i : ℕ) → slice_get xs i ≡ Some k → ⊥)
has_or_not [] k = inr (λ i there. none-some k there)
has_or_not (a ∷ xs) k = elim (cases_eq a k) [
  | inl same ↦ inl (0, ap Some same)
  | inr other ↦ elim (has_or_not xs k) [ inl found ↦ inl (suc found.0, found.1) | inr none ↦ inr (not_behind a xs k other none) ]
]

-- as many different numbers below a number as it says are all of them
module _ (nodes : ℕ) (xs : List ℕ) (long : length xs ≡ nodes) (below : All (λ k. k < nodes) xs) (differ : AllPairs (λ j k. j ≢ k) xs) where
  module _ (k : ℕ) (inside : k < nodes) (none : (i : ℕ) → slice_get xs i ≡ Some k → ⊥) where
    -- the numbers of the list, and k behind them
    all_below : (i : ℕ) → i ≤ nodes → get_or xs i k < nodes
    all_below i le = elim (cases_lt i nodes) [
      | inl less ↦ below i k (omega (arith, less, long))
      | inr past ↦ subst (λ (v : ℕ). v < nodes) (sym (get_or_past xs i k (omega (arith, past, long)))) inside
    ]

    not_last : (i j : ℕ) → i < nodes → nodes ≤ j → get_or xs i k ≡ get_or xs j k → ⊥
    not_last i j less past same =
        let last : get_or xs j k ≡ k = get_or_past xs j k (omega (arith, past, long)) in
        none i (slice_get_read xs nodes i k (sym long) less (sym (same ∙ last)))

    all_differ : (i j : ℕ) → i ≤ nodes → j ≤ nodes → get_or xs i k ≡ get_or xs j k → i ≡ j
    all_differ i j li lj same = elim (cases_lt i nodes) [
      | inl less ↦ elim (cases_lt j nodes) [
        | inl less' ↦ elim (cases_lt i j) [
          | inl before ↦ absurd (differ i j k before (omega (arith, less', long)) same)
          | inr after ↦ elim (cases_lt j i) [
            | inl before ↦ absurd (differ j i k before (omega (arith, less, long)) (sym same))
            | inr after' ↦ omega (arith, after, after')
          ]
        ]
        | inr past ↦ absurd (not_last i j less past same)
      ]
      | inr past ↦ elim (cases_lt j nodes) [
        | inl less' ↦ absurd (not_last j i less' past (sym same))
        | inr past' ↦ omega (arith, past, past', li, lj)
      ]
    ]

    too_many : ⊥
    too_many = let less : nodes < nodes = pigeons nodes nodes (λ i. get_or xs i k) all_below all_differ in omega (arith, less)

  all_there : (k : ℕ) → k < nodes → (i : ℕ) × (slice_get xs i ≡ Some k)
  all_there k inside = elim (has_or_not xs k) [ inl found ↦ found | inr none ↦ absurd (too_many k inside none) ]

-- ---- nodes and their numbers
module _ (l : Listed) (p : ProblemLists) (readings : List Reading) (g : GraphLists) (stands : StandsForListed l p readings g) where
  pub events_count : length l.events ≡ length p.events
  events_count = omega (arith, ap length stands.listed.events, length-map l.events (λ (e : ℕ × ℕ). name_at l.event_names e.0), length-map p.events (λ (e : Event). e.name))

  pub readings_count : length l.readings ≡ length readings
  readings_count = omega (arith, ap length stands.listed.stamps, length-map l.readings stamp_of)

  pub nodes_listed : length (listed_nodes l) ≡ length (nodes_of p readings)
  nodes_listed = omega (arith, nodes_count l, length-nodes_of p readings, events_count, readings_count)

  pub node_count : length g.nodes ≡ length (nodes_of p readings)
  node_count = sym stands.one_each ∙ nodes_listed

  -- both at one place
  pub number_below : (k : ℕ) (n : Node) → IsNodeBy l p readings k n → k < length g.nodes
  number_below k n (i, there, here) = subst (λ (v : ℕ). v < length g.nodes) (get_or_from_slice_get (listed_nodes l) i k k there) (stands.nodes i k (slice_get_within (listed_nodes l) i k there))

  pub node_at : (i : ℕ) (n : Node) → IsNodeAt p readings i n → IsNodeOf p n
  node_at i n here = elim (stands_there p readings i n stands.are_readings here) [
    | inl e ↦ subst (IsNodeOf p) e.2 e.1
    | inr r ↦ subst (IsNodeOf p) r.3 r.2
  ]

  pub is_node : (k : ℕ) (n : Node) → IsNodeBy l p readings k n → IsNodeOf p n
  is_node k n (i, there, here) = node_at i n here

  pub number_of : (n : Node) → IsNodeOf p n → (k : ℕ) × IsNodeBy l p readings k n
  number_of n inside =
      let here = place_of p readings stands.are_readings n inside in
      let k : ℕ = get_or (listed_nodes l) here.0 0 in
      let there : slice_get (listed_nodes l) here.0 ≡ Some k = slice_get-get_or (listed_nodes l) here.0 0 (omega (arith, slice_get_within (nodes_of p readings) here.0 n here.1, nodes_listed)) in
      (k, (here.0, there, here.1))

  pub node_of : (k : ℕ) → k < length g.nodes → (n : Node) × IsNodeBy l p readings k n
  node_of k inside =
      let there = all_there (length g.nodes) (listed_nodes l) stands.one_each stands.nodes stands.nodes_differ k inside in
      let n : Node = get_or (nodes_of p readings) there.0 (nodes.Event 0) in
      let here : IsNodeAt p readings there.0 n = slice_get-get_or (nodes_of p readings) there.0 (nodes.Event 0) (omega (arith, slice_get_within (listed_nodes l) there.0 k there.1, nodes_listed)) in
      (n, (there.0, there.1, here))

  pub one_node : (k : ℕ) (m n : Node) → IsNodeBy l p readings k m → IsNodeBy l p readings k n → m ≡ n
  one_node k m n (i, there, here) (j, there', here') =
      let same : i ≡ j = sym (first_place_is (listed_nodes l) stands.nodes_differ i k there) ∙ first_place_is (listed_nodes l) stands.nodes_differ j k there' in
      same_Some m n (sym here ∙ ap (slice_get (nodes_of p readings)) same ∙ here')

  -- the event at a place of the problem
  pub event_by : (place event number : ℕ) → slice_get l.events place ≡ Some (event, number) → IsNodeBy l p readings number (nodes.Event place)
  event_by place event number there = (
    place,
    event_node l place (event, number) there,
    event_stands p readings place (omega (arith, slice_get_within l.events place (event, number) there, events_count)),
  )

  pub events_known : All (λ (e : ℕ × ℕ). e.1 < length g.nodes) l.events
  events_known i d inside =
      let e : ℕ × ℕ = get_or l.events i d in
      number_below e.1 (nodes.Event i) (event_by i e.0 e.1 (slice_get-get_or l.events i d inside))

  pub stamps_at : (j : ℕ) (r : ℕ × ℕ × ℕ) → slice_get l.readings j ≡ Some r → slice_get readings j ≡ Some (stamp_of r)
  stamps_at j r at = subst (λ (rs : List Reading). slice_get rs j ≡ Some (stamp_of r)) stands.listed.stamps (map_at stamp_of l.readings j r at)

  -- a listed reading is a reading of the problem
  pub listed_by : (r : ℕ × ℕ × ℕ) → Contains l.readings r → IsNodeBy l p readings r.2 (nodes.Reading r.0 r.1)
  listed_by r (j, inside, is) =
      let at : slice_get l.readings j ≡ Some r = slice_get_read l.readings (length l.readings) j r refl inside (sym is) in
      let same : length p.events + j ≡ length l.events + j = omega (arith, events_count) in
      (length p.events + j, reading_node l (length p.events + j) j r same at, reading_stands p readings j (stamp_of r) (stamps_at j r at))

  -- ---- real times
  -- real times by number are those of some nodes
  pub times_by : (y : ℕ → ℤ) → (x : Times) × (map y (listed_nodes l) ≡ map x (nodes_of p readings))
  times_by y =
      let some = listed p readings (map y (listed_nodes l)) stands.are_readings (length-map (listed_nodes l) y ∙ nodes_listed) in
      (some.0, some.1.2 ∙ ap (λ (rs : List Reading). map some.0 (nodes_of p rs)) (readings_one p some.1.0 readings some.1.1 stands.are_readings))

  pub time_by : (y : ℕ → ℤ) (x : Times) → map y (listed_nodes l) ≡ map x (nodes_of p readings) → (k : ℕ) (n : Node) → IsNodeBy l p readings k n → x n ≡ y k
  time_by y x is k n (i, there, here) =
      sym (time_at p readings x (map y (listed_nodes l)) is i n here) ∙ get_or_from_slice_get (map y (listed_nodes l)) i (y k) (pos 0) (map_at y (listed_nodes l) i k there)

  pub one_number : (j k : ℕ) (n : Node) → IsNodeBy l p readings j n → IsNodeBy l p readings k n → j ≡ k
  one_number j k n by by' =
      let numbers = times_by (λ i. pos i) in
      let same : pos j ≡ pos k = sym (time_by (λ i. pos i) numbers.0 numbers.1 j n by) ∙ time_by (λ i. pos i) numbers.0 numbers.1 k n by' in
      omega (arith, ints, same)

  -- the real time of the node with a number
  abbrev pub time_of_number : Times → ℕ → ℤ
  time_of_number x k = at (map x (nodes_of p readings)) (first_place (listed_nodes l) k)

  pub time_of_number_is : (x : Times) (k : ℕ) (n : Node) → IsNodeBy l p readings k n → x n ≡ time_of_number x k
  time_of_number_is x k n (i, there, here) =
      sym (time_at p readings x (map x (nodes_of p readings)) refl i n here) ∙ ap (at (map x (nodes_of p readings))) (sym (first_place_is (listed_nodes l) stands.nodes_differ i k there))
