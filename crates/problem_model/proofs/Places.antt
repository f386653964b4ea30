-- Nodes by their places: first the events, then the readings.
use Rattle.std.proofs.Common.{◌≡◌, ◌<◌, ◌+◌, ◌⊎◌, ℕ, zero, suc, List, [], ◌∷◌, ◌++◌, length, slice_get, Some, refl, sym, ◌∙◌, ap, arith, inl, inr}
use Rattle.std.specs.Prelude.{Contains}
use Rattle.std.proofs.lemmas.Option.{slice_get_read}
use Rattle.problem_model.specs.declared.items.Event.{Event}
use Rattle.problem_model.specs.declared.items.Node.{Node}
use Rattle.problem_model.specs.declared.items.Node.TheVariants as nodes
use Rattle.problem_model.specs.Problem.{ProblemLists}
use Rattle.problem_model.specs.Bounds.{IsReading}
use Rattle.problem_model.specs.Nodes.{Reading, AreReadings, event_nodes, reading_nodes, nodes_of}

same_some : {X : Type 0} (a b : X) → Some a ≡ Some b → a ≡ b
same_some a b e = cc

-- ---- where a node stands
event_at : (j k i : ℕ) (events : List Event) (more : List Node) → k < length events → i ≡ j + k → slice_get (event_nodes j events ++ more) k ≡ Some (nodes.Event i)
event_at j k i [] more inside is = absurd (omega (arith, inside))
event_at j zero i (e ∷ events) more inside is = let same : j ≡ i = omega (arith, is) in rw same refl
event_at j (suc k) i (e ∷ events) more inside is = event_at (j + 1) k i events more (omega (arith, inside)) (omega (arith, is))

pub event_stands : (p : ProblemLists) (readings : List Reading) (k : ℕ) → k < length p.events → slice_get (nodes_of p readings) k ≡ Some (nodes.Event k)
event_stands p readings k inside = event_at 0 k k p.events (reading_nodes readings) inside (omega arith)

skip_events : (j k : ℕ) (events : List Event) (more : List Node) → slice_get (event_nodes j events ++ more) (length events + k) ≡ slice_get more k
skip_events j k [] more = ap (λ (n : ℕ). slice_get more n) (let same : 0 + k ≡ k = omega arith in same)
skip_events j k (e ∷ events) more =
    ap (λ (n : ℕ). slice_get (event_nodes j (e ∷ events) ++ more) n) (let same : suc (length events) + k ≡ suc (length events + k) = omega arith in same)
    ∙ skip_events (j + 1) k events more

reading_at : (k : ℕ) (readings : List Reading) (r : Reading) → slice_get readings k ≡ Some r → slice_get (reading_nodes readings) k ≡ Some (nodes.Reading r.0 r.1)
reading_at k [] r at = absurd cc
reading_at zero (s ∷ readings) r at = ap (λ (v : Reading). Some (nodes.Reading v.0 v.1)) (same_some s r at)
reading_at (suc k) (s ∷ readings) r at = reading_at k readings r at

pub reading_stands : (p : ProblemLists) (readings : List Reading) (k : ℕ) (r : Reading) → slice_get readings k ≡ Some r
    → slice_get (nodes_of p readings) (length p.events + k) ≡ Some (nodes.Reading r.0 r.1)
reading_stands p readings k r at = skip_events 0 k p.events (reading_nodes readings) ∙ reading_at k readings r at

pub has_place : (p : ProblemLists) (readings : List Reading) (clock stamp : ℕ) → AreReadings p readings → IsReading p clock stamp
    → (k : ℕ) × (slice_get (nodes_of p readings) k ≡ Some (nodes.Reading clock stamp))
has_place p readings clock stamp are reading =
    let held = are.every clock stamp reading in
    let r : Reading = (clock, stamp) in
    let at : slice_get {X = Reading} readings held.0 ≡ Some r = slice_get_read readings (length readings) held.0 r refl held.1 (sym held.2) in
    (length p.events + held.0, reading_stands p readings held.0 r at)

-- ---- what stands at a place
is_reading : (readings : List Reading) (k : ℕ) (n : Node) → slice_get (reading_nodes readings) k ≡ Some n → (r : Reading) × Contains readings r × (nodes.Reading r.0 r.1 ≡ n)
is_reading [] k n at = absurd cc
is_reading (s ∷ readings) zero n at = (s, (0, omega arith, refl), same_some (nodes.Reading s.0 s.1) n at)
is_reading (s ∷ readings) (suc k) n at =
    let rest = is_reading readings k n at in
    (rest.0, (suc rest.1.0, omega (arith, rest.1.1), rest.1.2), rest.2)

-- an event by its number, from j on, or what stands behind the events
is_event : (j k : ℕ) (events : List Event) (more : List Node) (n : Node) → slice_get (event_nodes j events ++ more) k ≡ Some n
    → ((e : ℕ) × (e < j + length events) × (nodes.Event e ≡ n)) ⊎ ((m : ℕ) × (slice_get more m ≡ Some n))
is_event j k [] more n at = inr (k, at)
is_event j zero (e ∷ events) more n at = inl (j, omega arith, same_some (nodes.Event j) n at)
is_event j (suc k) (e ∷ events) more n at = elim (is_event (j + 1) k events more n at) [
  | inl f ↦ inl (f.0, (let below : f.0 < j + 1 + length events = f.1 in omega (arith, below)), f.2)
  | inr f ↦ inr f
]

pub stands_there : (p : ProblemLists) (readings : List Reading) (k : ℕ) (n : Node) → AreReadings p readings → slice_get (nodes_of p readings) k ≡ Some n
    → ((e : ℕ) × (e < length p.events) × (nodes.Event e ≡ n)) ⊎ ((clock : ℕ) × (stamp : ℕ) × IsReading p clock stamp × (nodes.Reading clock stamp ≡ n))
stands_there p readings k n are at = elim (is_event 0 k p.events (reading_nodes readings) n at) [
  | inl f ↦ inl (f.0, (let below : f.0 < 0 + length p.events = f.1 in omega (arith, below)), f.2)
  | inr f ↦ (let r = is_reading readings f.0 n f.1 in inr (r.0.0, r.0.1, are.each r.0.0 r.0.1 r.1, r.2))
]
