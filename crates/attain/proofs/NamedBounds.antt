-- The bounds of arcs in force are over events and clocks that the listing names, and the readings rise by clock.
use Rattle.std.proofs.Common.{◌≡◌, ◌<◌, ◌≤◌, ℕ, zero, suc, List, [], ◌∷◌, length, map, get_or, slice_get, Some, refl, sym, ap, subst, arith, inl, inr}
use Rattle.std.specs.Prelude.{All, AllPairs}
use Rattle.std.proofs.lemmas.List.{length-map}
use Rattle.std.proofs.lemmas.List.Elements.{All-contains, All-map}
use Rattle.std.proofs.lemmas.Option.{get_or_from_slice_get, slice_get_within}
use Rattle.problem_model.specs.declared.items.Clock.{Clock}
use Rattle.problem_model.specs.declared.items.Event.{Event}
use Rattle.problem_model.specs.declared.items.Bound.{Bound}
use Rattle.problem_model.specs.declared.items.Bound.TheVariants.{SpanMost, SpanLeast, Late, Early, Follow, DelayMost, DelayLeast}
use Rattle.problem_model.specs.Name.{IsEventName}
use Rattle.problem_model.specs.Problem.{ProblemLists, IsProblem}
use Rattle.problem_model.specs.Bounds.{Constraint, Declares, ClockAt, IsReading}
use Rattle.problem_model.specs.Nodes.{Reading, IsEarlierReading}
use Rattle.sync_graph.specs.Graph.{GraphLists, arc_at}
use Rattle.problem.specs.Listing.{Listed, name_at}
use Rattle.cert.specs.Listed.{HasNames}
use Rattle.attain.specs.Written.{NamesArcs}
use Rattle.problem_graph.specs.ListedProblem.{IsListedBy, StandsAt, IsCarried}
use Rattle.problem_graph.specs.ListedStanding.{StandsForListed}
use Rattle.problem.proofs.ListedNodes.{map_at, stamp_of}

-- ---- names
-- a name that is not empty is inside the list
name_inside : (names : List (List ℕ)) (k : ℕ) → 0 < length (name_at names k) → k < length names
name_inside [] k some = absurd (omega (arith, some))
name_inside (name ∷ names) zero some = omega arith
name_inside (name ∷ names) (suc k) some = let rest = name_inside names k some in omega (arith, rest)

each_at : {X : Type 0} (P : X → Type 0) (xs : List X) (k : ℕ) (x : X) → All P xs → slice_get xs k ≡ Some x → P x
each_at P xs k x all at = subst P (get_or_from_slice_get xs k x x at) (all k x (slice_get_within xs k x at))

module _ (l : Listed) (p : ProblemLists) (readings : List Reading) (lawful : IsProblem p) (is : IsListedBy l p readings) where
  event_named : (number place : ℕ) → StandsAt l number place → number < length l.event_names
  event_named number place (node, at) =
      let e : ℕ × ℕ = (number, node) in
      let here : slice_get (map (λ (v : ℕ × ℕ). name_at l.event_names v.0) l.events) place ≡ Some (name_at l.event_names number) = map_at (λ (v : ℕ × ℕ). name_at l.event_names v.0) l.events place e at in
      let there : slice_get (map (λ (v : Event). v.name) p.events) place ≡ Some (name_at l.event_names number) =
      subst (λ (names : List (List ℕ)). slice_get names place ≡ Some (name_at l.event_names number)) is.events here in
      let name : IsEventName (name_at l.event_names number) =
      each_at IsEventName (map (λ (v : Event). v.name) p.events) place (name_at l.event_names number) (All-map IsEventName (λ (v : Event). v.name) p.events lawful.formed.event_names) there in
      name_inside l.event_names number name.some

  clock_named : (clock : ℕ) (c : Clock) → ClockAt p clock c → clock < length l.clock_names
  clock_named clock c at = omega (arith, slice_get_within p.clocks clock c at, ap length is.clocks, length-map p.clocks (λ (v : Clock). v.name))

  reading_named : (clock stamp : ℕ) → IsReading p clock stamp → clock < length l.clock_names
  reading_named clock stamp (v, has, on, at) =
      let known : v.clock < length p.clocks = All-contains (λ (e : Event). e.clock < length p.clocks) p.events v lawful.formed.event_clocks has in
      omega (arith, known, on, ap length is.clocks, length-map p.clocks (λ (c : Clock). c.name))

  bound_named : (name b : Bound) (c : Constraint) → IsCarried l name b → Declares p b c → HasNames l name
  bound_named (SpanMost clock s t) b c carried declares =
      let d : Declares p (SpanMost clock s t) c = subst (λ (v : Bound). Declares p v c) carried declares in clock_named clock d.0 d.1
  bound_named (SpanLeast clock s t) b c carried declares =
      let d : Declares p (SpanLeast clock s t) c = subst (λ (v : Bound). Declares p v c) carried declares in clock_named clock d.0 d.1
  bound_named (Late e) b c (place, at, carried) declares = event_named e place at
  bound_named (Early e) b c (place, at, carried) declares = event_named e place at
  bound_named (Follow b' s e t) b c carried declares =
      let d : Declares p (Follow b' s e t) c = subst (λ (v : Bound). Declares p v c) carried declares in (reading_named b' s d.4, reading_named e t d.5)
  bound_named (DelayMost send receive) b c (j, k, at, at', carried) declares = (event_named send j at, event_named receive k at')
  bound_named (DelayLeast send receive) b c (j, k, at, at', carried) declares = (event_named send j at, event_named receive k at')

pub named : (l : Listed) (p : ProblemLists) (readings : List Reading) (g : GraphLists) → StandsForListed l p readings g → NamesArcs l g
named l p readings g stands j force =
    let by = stands.each (arc_at g.arcs j) (j, force, refl) in
    bound_named l p readings stands.lawful stands.listed (arc_at g.arcs j).name by.0 by.1.constraint by.1.named by.1.declares

-- ---- readings
before_rises : (a b : Reading) → IsEarlierReading a b → a.0 ≤ b.0
before_rises a b (inl less) = omega (arith, less)
before_rises a b (inr later) = omega (arith, later.0)

get_or_map : {X Y : Type 0} (f : X → Y) (xs : List X) (k : ℕ) (d : X) → get_or (map f xs) k (f d) ≡ f (get_or xs k d)
get_or_map f [] k d = refl
get_or_map f (x ∷ xs) zero d = refl
get_or_map f (x ∷ xs) (suc k) d = get_or_map f xs k d

-- the listed readings rise by their clocks
pub clocks_rise : (l : Listed) (p : ProblemLists) (readings : List Reading) (g : GraphLists) → StandsForListed l p readings g → AllPairs (λ (r : ℕ × ℕ × ℕ) (s : ℕ × ℕ × ℕ). r.0 ≤ s.0) l.readings
clocks_rise l p readings g stands i j d below inside =
    let rising : AllPairs IsEarlierReading (map stamp_of l.readings) = subst (λ (rs : List Reading). AllPairs IsEarlierReading rs) (sym stands.listed.stamps) stands.are_readings.rising in
    let here = rising i j (stamp_of d) below (let same = length-map l.readings stamp_of in omega (arith, inside, same)) in
    let r : ℕ × ℕ × ℕ = get_or l.readings i d in
    let s : ℕ × ℕ × ℕ = get_or l.readings j d in
    before_rises (stamp_of r) (stamp_of s)
    (subst (λ (v : Reading). IsEarlierReading (stamp_of r) v) (get_or_map stamp_of l.readings j d) (subst (λ (v : Reading). IsEarlierReading v (get_or (map stamp_of l.readings) j (stamp_of d))) (get_or_map stamp_of l.readings i d) here))
