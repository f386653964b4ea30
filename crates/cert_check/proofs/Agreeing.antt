-- Real times of one list agree at each node, so a list has one verdict.
use Rattle.std.proofs.Common.{◌≡◌, ◌≢◌, ◌<◌, ℕ, List, refl, sym, ◌∙◌, ap, subst, arith, length, map}
use Rattle.std.specs.Prelude.{ℤ, ◌-ℤ◌, ◌≤ℤ◌, ◌<ℤ◌, Contains}
use Rattle.std.proofs.lemmas.Int.{ints}
use Rattle.std.proofs.lemmas.Option.{slice_get_within, get_or_from_slice_get}
use Rattle.std.proofs.lemmas.List.Elements.{All-contains}
use Rattle.problem_model.specs.declared.items.Event.{Event}
use Rattle.problem_model.specs.declared.items.Message.{Message}
use Rattle.problem_model.specs.declared.items.Node.{Node}
use Rattle.problem_model.specs.declared.items.Node.TheVariants as nodes
use Rattle.problem_model.specs.declared.items.Bound.{Bound}
use Rattle.problem_model.specs.declared.items.Bound.TheVariants.{SpanMost, SpanLeast, Late, Early, Follow, DelayMost, DelayLeast}
use Rattle.problem_model.specs.Problem.{ProblemLists, IsWellFormed}
use Rattle.problem_model.specs.Bounds.{Constraint, Declares, EventAt, IsReading, Times, IsExecution}
use Rattle.problem_model.specs.Nodes.{Reading, AreReadings, nodes_of}
use Rattle.problem_model.specs.Nodes as lists
use Rattle.problem_model.proofs.OneList.{readings_one}
use Rattle.problem_model.specs.Solutions.{IsNodeOf}
use Rattle.problem_model.proofs.Problems.{time_at}
use Rattle.problem_model.proofs.Solutions.{place_of}
use Rattle.cert.specs.Shows.{IsExecutionOf, Attains}
use Rattle.cert_check.specs.declared.answer.Part.{Part}
use Rattle.cert_check.specs.declared.answer.Reason.{Reason}
use Rattle.cert_check.specs.declared.answer.Reason.TheVariants.{Broken, Difference}
use Rattle.cert_check.specs.Reasons.{IsBrokenBy, HasDifference, DifferenceIs, IsNoLater}
use Rattle.cert_check.specs.Faults.{IsFirstWrong}
use Rattle.cert_check.proofs.Turns.{broken_cases, difference_cases, same_kind, broken_turn, difference_turn}

-- ---- the ends of declared bounds are nodes of the problem
event_there : (p : ProblemLists) (k : ℕ) (v : Event) → EventAt p k v → Contains p.events v
event_there p k v at = (k, slice_get_within p.events k v at, get_or_from_slice_get p.events k v v at)

stamp_there : (p : ProblemLists) (k : ℕ) (v : Event) → EventAt p k v → IsReading p v.clock v.stamp
stamp_there p k v at = (v, event_there p k v at, refl, refl)

Both : ProblemLists → Constraint → Type 0
Both p c = IsNodeOf p c.from × IsNodeOf p c.to

pub declared_ends : (p : ProblemLists) (b : Bound) (c : Constraint) → IsWellFormed p → Declares p b c → IsNodeOf p c.from × IsNodeOf p c.to
unfolding Both
declared_ends p (SpanMost clock s t) c lawful d = subst (Both p) (sym d.5) (d.2, d.3)
declared_ends p (SpanLeast clock s t) c lawful d = subst (Both p) (sym d.5) (d.3, d.2)
declared_ends p (Late e) c lawful d = subst (Both p) (sym d.4) (stamp_there p e d.0 d.2, slice_get_within p.events e d.0 d.2)
declared_ends p (Early e) c lawful d = subst (Both p) (sym d.4) (slice_get_within p.events e d.0 d.2, stamp_there p e d.0 d.2)
declared_ends p (Follow k s l t) c lawful d = subst (Both p) (sym d.6) (d.5, d.4)
declared_ends p (DelayMost send receive) c lawful d =
    let from : d.0.send < length p.events = All-contains (λ (m : Message). m.send < length p.events) p.messages d.0 lawful.sends d.2 in
    let to : d.0.receive < length p.events = All-contains (λ (m : Message). m.receive < length p.events) p.messages d.0 lawful.receives d.2 in
    subst (Both p) (sym d.6) (omega (arith, from, d.3), omega (arith, to, d.4))
declared_ends p (DelayLeast send receive) c lawful d =
    let from : d.0.send < length p.events = All-contains (λ (m : Message). m.send < length p.events) p.messages d.0 lawful.sends d.1 in
    let to : d.0.receive < length p.events = All-contains (λ (m : Message). m.receive < length p.events) p.messages d.0 lawful.receives d.1 in
    subst (Both p) (sym d.4) (omega (arith, to, d.3), omega (arith, from, d.2))

-- ---- two lists of real times
module _ (p : ProblemLists) (x y : Times) (values : List ℤ) (lists_x : lists.Lists p x values) (lists_y : lists.Lists p y values) where
  pub agree : (n : Node) → IsNodeOf p n → x n ≡ y n
  agree n inside =
      let readings = lists_x.0 in
      let same : lists_y.0 ≡ readings = readings_one p lists_y.0 readings lists_y.1 lists_x.1 in
      let listed : values ≡ map y (nodes_of p readings) = lists_y.2 ∙ ap (λ (rs : List Reading). map y (nodes_of p rs)) same in
      let place = place_of p readings lists_x.1 n inside in
      sym (time_at p readings x values lists_x.2 place.0 n place.1) ∙ time_at p readings y values listed place.0 n place.1

  pub execution_agrees : IsWellFormed p → IsExecution p x → IsExecution p y
  execution_agrees lawful execution b c declares =
      let ends = declared_ends p b c lawful declares in
      let from : x c.from ≡ y c.from = agree c.from ends.0 in
      let to : x c.to ≡ y c.to = agree c.to ends.1 in
      let obeys : (x c.to -ℤ x c.from) ≤ℤ c.weight = execution b c declares in
      omega (arith, ints)

-- ---- executions have no fault
pub execution_sound : (p : ProblemLists) (values : List ℤ) → IsWellFormed p → IsExecutionOf p values → (r : Reason) → IsBrokenBy p values r → ⊥
execution_sound p values lawful (x, listed, execution) = broken_cases p values (λ r. ⊥) (λ b w d so.
    let y = so.0 in
    let first = so.2.2 in
    let obeys : (y first.constraint.to -ℤ y first.constraint.from) ≤ℤ first.constraint.weight = execution_agrees p x y values listed so.1 lawful execution b first.constraint first.declares in
    let weight : first.constraint.weight ≡ w = first.weight_is in
    let differ : (y first.constraint.to -ℤ y first.constraint.from) ≡ d = first.difference_is in
    let broken : w <ℤ d = first.broken in
    omega (arith, ints))

pub broken_first : (p : ProblemLists) (part : Part) (values : List ℤ) (b : Bound) (w d : ℤ) → IsBrokenBy p values (Broken b w d) → IsFirstWrong part (IsBrokenBy p values) (Broken b w d)
broken_first p part values b w d so = record {
  is_so = so;
  first = broken_cases p values (IsNoLater part (Broken b w d) part) (λ b' w' d' so'. same_kind part (Broken b w d) (Broken b' w' d') refl (omega (arith, broken_turn part b w d)));
}

-- ---- differences
pub difference_sound : (p : ProblemLists) (first second : ℕ) (value : ℤ) (values : List ℤ) → first < length p.events → second < length p.events → Attains p first second value values → (r : Reason) → DifferenceIs p first second value values r → ⊥
difference_sound p first second value values within within' (x, listed, execution, is) = difference_cases p first second value values (λ r. ⊥) (λ d so differs.
    let y = so.0 in
    let from : x (nodes.Event first) ≡ y (nodes.Event first) = agree p x y values listed so.1 (nodes.Event first) within in
    let to : x (nodes.Event second) ≡ y (nodes.Event second) = agree p x y values listed so.1 (nodes.Event second) within' in
    let is' : d ≡ y (nodes.Event second) -ℤ y (nodes.Event first) = so.2 in
    let has : (x (nodes.Event second) -ℤ x (nodes.Event first)) ≡ value = is in
    differs (omega (arith, ints)))

pub difference_first : (p : ProblemLists) (part : Part) (first second : ℕ) (value : ℤ) (values : List ℤ) (d : ℤ) → HasDifference p first second values d → d ≢ value → IsFirstWrong part (DifferenceIs p first second value values) (Difference d)
difference_first p part first second value values d has differs = record {
  is_so = (has, differs);
  first = difference_cases p first second value values (IsNoLater part (Difference d) part) (λ d' has' differs'. same_kind part (Difference d) (Difference d') refl (omega (arith, difference_turn part d)));
}
