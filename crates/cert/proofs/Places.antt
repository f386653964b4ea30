-- What stands at a place of the nodes.
use Rattle.std.proofs.Common.{◌≡◌, ◌<◌, ◌≤◌, ◌+◌, ℕ, zero, suc, List, [], ◌∷◌, ◌++◌, length, slice_get, All, Some, None, refl, ◌∙◌, ap, subst, arith}
use Rattle.std.specs.List.{slice_index_or}
use Rattle.std.proofs.lemmas.List.Elements.{Contains-get_or}
use Rattle.problem_model.specs.declared.items.Clock.{Clock}
use Rattle.problem_model.specs.declared.items.Event.{Event}
use Rattle.problem_model.specs.declared.items.Node.{Node}
use Rattle.problem_model.specs.declared.items.Node.TheVariants as nodes
use Rattle.problem_model.specs.Name.{IsEventName, IsClockName}
use Rattle.problem_model.specs.Problem.{ProblemLists, IsProblem}
use Rattle.problem_model.specs.Nodes.{Reading, AreReadings, nodes_of, event_nodes, reading_nodes}
use Rattle.problem_model.specs.ProblemText.{clock_name, event_name}
use Rattle.problem.proofs.ListedNodes.{length-event_nodes}
pub use Rattle.problem.proofs.ListedNodes.{length-nodes_of}
use Rattle.cert.specs.NodeLists.{NodeLists, AreNamed, StandsAtNode}
use Rattle.cert.specs.declared.nodes.NextNode.TheVariants as next
use Rattle.cert.proofs.Readings.{readings_few}

event_at : (j k i : ℕ) (events : List Event) (more : List Node) → k < length events → i ≡ j + k → slice_get (event_nodes j events ++ more) k ≡ Some (nodes.Event i)
event_at j k i [] more inside is = absurd (omega (arith, inside))
event_at j zero i (e ∷ events) more inside is = let same : j ≡ i = omega (arith, is) in rw same refl
event_at j (suc k) i (e ∷ events) more inside is = event_at (j + 1) k i events more (omega (arith, inside)) (omega (arith, is))

pub event_stands : (p : ProblemLists) (readings : List Reading) (k : ℕ) → k < length p.events → slice_get (nodes_of p readings) k ≡ Some (nodes.Event k)
event_stands p readings k inside = event_at 0 k k p.events (reading_nodes readings) inside (omega arith)

past : (xs ys : List Node) (k m : ℕ) → k ≡ length xs + m → slice_get (xs ++ ys) k ≡ slice_get ys m
past [] ys k m is = let same : k ≡ m = omega (arith, is) in rw same refl
past (x ∷ xs) ys zero m is = absurd (omega (arith, is))
past (x ∷ xs) ys (suc k) m is = past xs ys k m (omega (arith, is))

reading_at : (readings : List Reading) (m : ℕ) (r : Reading) → m < length readings → slice_index_or readings m r ≡ r → slice_get (reading_nodes readings) m ≡ Some (nodes.Reading r.0 r.1)
reading_at [] m r inside is = absurd (omega (arith, inside))
reading_at (x ∷ readings) zero r inside is = ap (λ (y : Reading). Some (nodes.Reading y.0 y.1)) is
reading_at (x ∷ readings) (suc m) r inside is = reading_at readings m r (omega (arith, inside)) is

pub reading_stands : (p : ProblemLists) (readings : List Reading) (k m : ℕ) (r : Reading) → k ≡ length p.events + m → m < length readings → slice_index_or readings m r ≡ r →
    slice_get (nodes_of p readings) k ≡ Some (nodes.Reading r.0 r.1)
reading_stands p readings k m r is inside at =
    past (event_nodes 0 p.events) (reading_nodes readings) k m (omega (arith, is, length-event_nodes 0 p.events)) ∙ reading_at readings m r inside at

pub event_name_is : (es : List Event) (k : ℕ) (d : Event) → k < length es → (slice_index_or es k d).name ≡ event_name es k
event_name_is [] k d inside = absurd (omega (arith, inside))
event_name_is (e ∷ es) zero d inside = refl
event_name_is (e ∷ es) (suc k) d inside = event_name_is es k d (omega (arith, inside))

pub clock_name_is : (cs : List Clock) (k : ℕ) (d : Clock) → k < length cs → (slice_index_or cs k d).name ≡ clock_name cs k
clock_name_is [] k d inside = absurd (omega (arith, inside))
clock_name_is (c ∷ cs) zero d inside = refl
clock_name_is (c ∷ cs) (suc k) d inside = clock_name_is cs k d (omega (arith, inside))

event_zero : Event
event_zero = record { name = []; clock = 0; stamp = 0; bounds = None }

clock_zero : Clock
clock_zero = record { name = []; rate = record { short = 0; long = 0 }; early = 0; late = 0 }

pub event_named : (es : List Event) (k : ℕ) → All (λ e. IsEventName e.name) es → k < length es → IsEventName (event_name es k)
event_named es k all inside = subst IsEventName (event_name_is es k event_zero inside) (all k event_zero inside)

pub clock_named : (cs : List Clock) (k : ℕ) → All (λ c. IsClockName c.name) cs → k < length cs → IsClockName (clock_name cs k)
clock_named cs k all inside = subst IsClockName (clock_name_is cs k clock_zero inside) (all k clock_zero inside)

-- any default serves inside a list
pub same_default : {A : Type 0} (xs : List A) (k : ℕ) (d e : A) → k < length xs → slice_index_or xs k e ≡ slice_index_or xs k d
same_default [] k d e inside = absurd (omega (arith, inside))
same_default (x ∷ xs) zero d e inside = refl
same_default (x ∷ xs) (suc k) d e inside = same_default xs k d e (omega (arith, inside))

-- the reading at a place, as it is looked up
pub reading_found : (n : NodeLists) (k m : ℕ) (a b : Reading) (c : Clock) → AreNamed n → k ≡ length n.problem.events + m → m < length n.readings →
    StandsAtNode n k (next.Reading (slice_index_or n.problem.clocks (slice_index_or n.readings m a).0 c).name (slice_index_or n.readings m b).1)
reading_found n k m a b c named place inside =
    let r = slice_index_or n.readings m a in
    let at = reading_stands n.problem n.readings k m r place inside (same_default n.readings m a r inside) in
    let stamp : r.1 ≡ (slice_index_or n.readings m b).1 = ap (λ (x : Reading). x.1) (same_default n.readings m b a inside) in
    (r.0, at ∙ ap (λ (s : ℕ). Some (nodes.Reading r.0 s)) stamp, clock_name_is n.problem.clocks r.0 c (named.known m a inside))

pub event_found : (n : NodeLists) (k : ℕ) (d : Event) → k < length n.problem.events → StandsAtNode n k (next.Event (slice_index_or n.problem.events k d).name)
event_found n k d inside = (k, event_stands n.problem n.readings k inside, event_name_is n.problem.events k d inside)

pub end_found : (n : NodeLists) (k m : ℕ) → k ≡ length n.problem.events + m → length n.readings ≤ m → StandsAtNode n k next.End
end_found n k m place past = omega (arith, place, past, length-nodes_of n.problem n.readings)

known_clock : (p : ProblemLists) (readings : List Reading) → IsProblem p → AreReadings p readings → All (λ r. r.0 < length p.clocks) readings
known_clock p readings lawful are i d inside =
    let r = slice_index_or readings i d in
    let reads = are.each r.0 r.1 (Contains-get_or readings i d inside) in
    let known = lawful.formed.event_clocks reads.1.0 reads.0 reads.1.1 in
    let same : (slice_index_or p.events reads.1.0 reads.0).clock ≡ r.0 = ap (λ (e : Event). e.clock) reads.1.2 ∙ reads.2 in
    omega (arith, known, same)

pub are_named : (p : ProblemLists) (readings : List Reading) → IsProblem p → AreReadings p readings → AreNamed (record { problem = p; readings = readings })
are_named p readings lawful are = record {
  clock_names = lawful.formed.clock_names;
  event_names = lawful.formed.event_names;
  known = known_clock p readings lawful are;
  few = omega (arith, lawful.fits.event_limit, readings_few p readings are, length-nodes_of p readings);
}
