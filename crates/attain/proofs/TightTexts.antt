-- The certificate of an interval that is written is one that shows both ends.
use Rattle.std.proofs.Common.{◌≡◌, ◌<◌, ℕ, List, length, slice_get, Some, inl, inr, sym, ◌∙◌, ap, subst, arith}
use Rattle.std.specs.Prelude.{ℤ, AllPairs, ◌≢◌}
use Rattle.std.proofs.lemmas.Bool.{cases_lt, cases_eq}
use Rattle.std.proofs.lemmas.Option.{slice_get_within, get_or_from_slice_get}
use Rattle.problem_model.specs.Problem.{ProblemLists}
use Rattle.problem_model.specs.Nodes.{Reading}
use Rattle.problem_model.specs.Parents.{Cells, IsRow}
use Rattle.problem_model.specs.Tables.{reversed_table}
use Rattle.sync_graph.specs.Graph.{GraphLists, IsGraph, table_of}
use Rattle.sync_graph.specs.InForce.{IsEarliestOf}
use Rattle.problem.specs.Listing.{Listed, listed_nodes}
use Rattle.cert.specs.Listed.{certified}
use Rattle.problem_graph.specs.ListedStanding.{StandsForListed, IsEventAt}
use Rattle.attain.specs.Tight.{IsTightText}
use Rattle.attain.specs.Intervals.{IsEventOn, IsIntervalText}
use Rattle.problem.proofs.ListedNodes.{event_node}
use Rattle.attain.proofs.Tightness.{tight}

-- ---- an event by its node
module _ (l : Listed) (differ : AllPairs (λ (j k : ℕ). j ≢ k) (listed_nodes l)) (node : ℕ) where
  -- the node does not stand at two places
  apart : (i j : ℕ) → i < j → slice_get (listed_nodes l) i ≡ Some node → slice_get (listed_nodes l) j ≡ Some node → ⊥
  apart i j below at at' = differ i j 0 below (slice_get_within (listed_nodes l) j node at') (get_or_from_slice_get (listed_nodes l) i node 0 at ∙ sym (get_or_from_slice_get (listed_nodes l) j node 0 at'))

  one_place : (i j : ℕ) → slice_get (listed_nodes l) i ≡ Some node → slice_get (listed_nodes l) j ≡ Some node → i ≡ j
  one_place i j at at' = elim (cases_lt i j) [
    | inl below ↦ absurd (apart i j below at at')
    | inr not_below ↦ elim (cases_eq i j) [
      | inl same ↦ same
      | inr other ↦ absurd (apart j i (omega (arith, not_below, other)) at' at)
    ]
  ]

  one_event : (place event : ℕ) → slice_get l.events place ≡ Some (event, node) → (other : ℕ) → IsEventOn l other node → event ≡ other
  one_event place event at other (place', at') =
      let same : place ≡ place' = one_place place place' (event_node l place (event, node) at) (event_node l place' (other, node) at') in
      let here : slice_get l.events place ≡ Some (other, node) = subst (λ (k : ℕ). slice_get l.events k ≡ Some (other, node)) (sym same) at' in
      let pair : (event, node) ≡ (other, node) = cc in
      ap (λ (e : ℕ × ℕ). e.0) pair

-- ---- the certificate
pub tight_text : (l : Listed) (problem : ProblemLists) (readings : List Reading) (g : GraphLists) (values : List ℤ) (p q : ℕ) (from to : Cells)
    → StandsForListed l problem readings g → IsGraph g → IsEarliestOf g values → IsRow (length g.nodes) (table_of g) p from → IsRow (length g.nodes) (reversed_table (table_of g)) p to
    → (first second : ℕ) → IsEventAt l first p → IsEventAt l second q → (text : List ℕ) → IsIntervalText l g values from to p q text → IsTightText problem readings first second text
tight_text l problem readings g values p q from to stands is e row back first second (event, at) (event', at') text (lines, i, text_is) =
    let same : event ≡ i.first = one_event l stands.nodes_differ p first event at i.first i.first_on in
    let same' : event' ≡ i.second = one_event l stands.nodes_differ q second event' at' i.second i.second_on in
    let here : slice_get l.events first ≡ Some (i.first, p) = subst (λ (k : ℕ). slice_get l.events first ≡ Some (k, p)) same at in
    let here' : slice_get l.events second ≡ Some (i.second, q) = subst (λ (k : ℕ). slice_get l.events second ≡ Some (k, q)) same' at' in
    subst (IsTightText problem readings first second) (sym (text_is ∙ ap certified i.lines_are))
    (tight l problem readings g values p q from to stands is e row back first second i.first i.second here here' i.upper i.lower i.upper_is i.lower_is)
