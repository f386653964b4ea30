-- The real times at the places of a list.
use Rattle.std.proofs.Common.{◌≡◌, ◌<◌, ◌+◌, ℕ, zero, suc, List, [], ◌∷◌, ◌++◌, length, map, slice_get, Some, refl, sym, ◌∙◌, ap, arith, length-append}
use Rattle.std.specs.Prelude.{ℤ}
use Rattle.problem_model.specs.declared.items.Event.{Event}
use Rattle.problem_model.specs.declared.items.Node.{Node}
use Rattle.problem_model.specs.declared.items.Node.TheVariants as nodes
use Rattle.problem_model.specs.Problem.{ProblemLists}
use Rattle.problem_model.specs.Bounds.{Times}
use Rattle.problem_model.specs.Nodes.{Reading, AreReadings, event_nodes, reading_nodes, nodes_of}
use Rattle.problem_model.proofs.OneList.{readings_one}
use Rattle.cert.specs.CertificateText.{HasOneEach}
use Rattle.cert_check.specs.Verdict.{AreTimes}

some_same : {X : Type 0} (a b : X) → Some a ≡ Some b → a ≡ b
some_same a b e = cc

pub length-event_nodes : (k : ℕ) (events : List Event) → length (event_nodes k events) ≡ length events
length-event_nodes k [] = refl
length-event_nodes k (e ∷ events) = ap suc (length-event_nodes (k + 1) events)

pub length-reading_nodes : (readings : List Reading) → length (reading_nodes readings) ≡ length readings
length-reading_nodes [] = refl
length-reading_nodes (r ∷ readings) = ap suc (length-reading_nodes readings)

pub length-nodes_of : (p : ProblemLists) (readings : List Reading) → length (nodes_of p readings) ≡ length p.events + length readings
length-nodes_of p readings = omega (arith, length-append (event_nodes 0 p.events) (reading_nodes readings), length-event_nodes 0 p.events, length-reading_nodes readings)

-- there are as many values as events and readings
pub one_each : (p : ProblemLists) (readings : List Reading) (values : List ℤ) → HasOneEach p values → AreReadings p readings → length values ≡ length p.events + length readings
one_each p readings values each are = each.2 ∙ ap (λ (rs : List Reading). length (nodes_of p rs)) (readings_one p each.0 readings each.1 are) ∙ length-nodes_of p readings

-- ---- the value at a place
event_at : (x : Times) (k j : ℕ) (events : List Event) (more : List Node) → j < length events → slice_get (map x (event_nodes k events ++ more)) j ≡ Some (x (nodes.Event (k + j)))
event_at x k j [] more inside = absurd (omega (arith, inside))
event_at x k zero (e ∷ events) more inside = ap (λ (n : ℕ). Some (x (nodes.Event n))) (let same : k ≡ k + 0 = omega arith in same)
event_at x k (suc j) (e ∷ events) more inside =
    event_at x (k + 1) j events more (omega (arith, inside)) ∙ ap (λ (n : ℕ). Some (x (nodes.Event n))) (let same : k + 1 + j ≡ k + suc j = omega arith in same)

skip_events : (x : Times) (k j : ℕ) (events : List Event) (more : List Node) → slice_get (map x (event_nodes k events ++ more)) (length events + j) ≡ slice_get (map x more) j
skip_events x k j [] more = ap (λ (n : ℕ). slice_get (map x more) n) (let same : 0 + j ≡ j = omega arith in same)
skip_events x k j (e ∷ events) more =
    ap (λ (n : ℕ). slice_get (map x (event_nodes k (e ∷ events) ++ more)) n) (let same : suc (length events) + j ≡ suc (length events + j) = omega arith in same) ∙ skip_events x (k + 1) j events more

reading_at : (x : Times) (j : ℕ) (readings : List Reading) (r : Reading) → slice_get readings j ≡ Some r → slice_get (map x (reading_nodes readings)) j ≡ Some (x (nodes.Reading r.0 r.1))
reading_at x j [] r at = absurd cc
reading_at x zero (s ∷ readings) r at = ap (λ (v : Reading). Some (x (nodes.Reading v.0 v.1))) (some_same s r at)
reading_at x (suc j) (s ∷ readings) r at = reading_at x j readings r at

pub event_time_is : (p : ProblemLists) (x : Times) (readings : List Reading) (values : List ℤ) (j : ℕ) (v : ℤ) → AreTimes p x readings values → j < length p.events → slice_get values j ≡ Some v → x (nodes.Event j) ≡ v
event_time_is p x readings values j v times inside at =
    let same : 0 + j ≡ j = omega arith in
    ap (λ (n : ℕ). x (nodes.Event n)) (sym same) ∙ some_same (x (nodes.Event (0 + j))) v (sym (event_at x 0 j p.events (reading_nodes readings) inside) ∙ ap (λ (xs : List ℤ). slice_get xs j) (sym times.listed) ∙ at)

pub reading_time_is : (p : ProblemLists) (x : Times) (readings : List Reading) (values : List ℤ) (j : ℕ) (r : Reading) (v : ℤ) → AreTimes p x readings values → slice_get readings j ≡ Some r → slice_get values (length p.events + j) ≡ Some v →
    x (nodes.Reading r.0 r.1) ≡ v
reading_time_is p x readings values j r v times there at =
    some_same (x (nodes.Reading r.0 r.1)) v (sym (reading_at x j readings r there) ∙ sym (skip_events x 0 j p.events (reading_nodes readings)) ∙ ap (λ (xs : List ℤ). slice_get xs (length p.events + j)) (sym times.listed) ∙ at)
