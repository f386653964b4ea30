-- A problem and a list of arcs that stands for it have the same executions.
use Rattle.std.proofs.Common.{◌≡◌, ℕ, zero, suc, List, [], ◌∷◌, length, map, slice_get, get_or, Some, refl, sym, ◌∙◌, ap, subst}
use Rattle.std.specs.Prelude.{ℤ, pos, ◌-ℤ◌, ◌≤ℤ◌, ◌<ℤ◌, ◌↔◌}
use Rattle.std.proofs.lemmas.List.{length-map}
use Rattle.std.proofs.lemmas.List.Elements.{All-contains}
use Rattle.std.proofs.lemmas.Option.{slice_get_within, get_or_from_slice_get}
use Rattle.problem_model.specs.declared.items.Node.{Node}
use Rattle.problem_model.specs.Problem.{ProblemLists}
use Rattle.problem_model.specs.Bounds.{Constraint, Declares, Times}
use Rattle.problem_model.specs.Bounds as bounds
use Rattle.problem_model.specs.Nodes.{Reading, AreReadings, nodes_of}
use Rattle.problem_model.proofs.Sufficing.{suffices}
use Rattle.problem_model.proofs.OneList.{listed, readings_one}
use Rattle.problem_model.specs.Executions.{Arc, at, difference, Obeys, IsExecution, AreWithin}
use Rattle.problem_model.specs.Differences.{IsGreatest, IsUnbounded}
use Rattle.problem_model.specs.ProblemArcs.{IsNodeAt, IsArcOf, StandsFor, IsGreatestOf, IsUnboundedOf}

-- the value at the number of a node is its real time
some_same : {X : Type 0} (a b : X) → Some a ≡ Some b → a ≡ b
some_same a b e = cc

map_at : (x : Times) (nodes : List Node) (k : ℕ) (n : Node) → slice_get nodes k ≡ Some n → slice_get (map x nodes) k ≡ Some (x n)
map_at x [] k n is = absurd cc
map_at x (m ∷ nodes) zero n is = ap (λ (v : Node). Some (x v)) (some_same m n is)
map_at x (m ∷ nodes) (suc k) n is = map_at x nodes k n is

module _ (p : ProblemLists) (readings : List Reading) (x : Times) (xs : List ℤ) (is : xs ≡ map x (nodes_of p readings)) where
  pub time_at : (k : ℕ) (n : Node) → IsNodeAt p readings k n → at xs k ≡ x n
  time_at k n there = ap (λ (l : List ℤ). at l k) is ∙ get_or_from_slice_get (map x (nodes_of p readings)) k (x n) (pos 0) (map_at x (nodes_of p readings) k n there)

  pub differences : (j k : ℕ) (m n : Node) → IsNodeAt p readings j m → IsNodeAt p readings k n → difference (at xs) j k ≡ (x n -ℤ x m)
  differences j k m n there there' = ap (λ (v : ℤ). v -ℤ at xs j) (time_at k n there') ∙ ap (λ (v : ℤ). x n -ℤ v) (time_at j m there)

  obeyed_arc : (c : Constraint) (a : Arc) → IsArcOf p readings c a → bounds.Obeys x c → Obeys (at xs) a
  obeyed_arc c a arc obeys =
      subst (λ (w : ℤ). difference (at xs) a.from a.to ≤ℤ w) (sym arc.weighs) (subst (λ (d : ℤ). d ≤ℤ c.weight) (sym (differences a.from a.to c.from c.to arc.tail arc.head)) obeys)

  obeyed_bound : (c : Constraint) (a : Arc) → IsArcOf p readings c a → Obeys (at xs) a → bounds.Obeys x c
  obeyed_bound c a arc obeys =
      subst (λ (w : ℤ). (x c.to -ℤ x c.from) ≤ℤ w) arc.weighs (subst (λ (d : ℤ). d ≤ℤ a.weight) (differences a.from a.to c.from c.to arc.tail arc.head) obeys)

  pub same_executions : (arcs : List Arc) → AreReadings p readings → StandsFor p readings arcs → IsExecution (length (nodes_of p readings)) arcs xs ↔ bounds.IsExecution p x
  same_executions arcs are stands = (
    λ execution. (suffices p x stands.chained readings are).0 (λ k d inside c declares.
        let found = stands.every k d inside c declares in
        obeyed_bound c found.0 found.2 (All-contains (Obeys (at xs)) arcs found.0 execution.obeys found.1)),
    λ execution. record {
      one_each = (let same : length (map x (nodes_of p readings)) ≡ length (nodes_of p readings) = simp length-map in ap length is ∙ same);
      obeys = λ k d inside. let arc = stands.each k d inside in obeyed_arc arc.1 (get_or arcs k d) arc.3 (execution arc.0 arc.1 arc.2);
    },
  )

module _ (p : ProblemLists) (readings : List Reading) (arcs : List Arc) (are : AreReadings p readings) (stands : StandsFor p readings arcs) where
  pub within : AreWithin (length (nodes_of p readings)) arcs
  within k d inside =
      let arc = (stands.each k d inside).3 in
      (slice_get_within (nodes_of p readings) _ _ arc.tail, slice_get_within (nodes_of p readings) _ _ arc.head)

  -- the real times of an execution of the arcs
  pub times : (xs : List ℤ) → IsExecution (length (nodes_of p readings)) arcs xs → (x : Times) × (xs ≡ map x (nodes_of p readings)) × bounds.IsExecution p x
  times xs execution =
      let some = listed p readings xs are execution.one_each in
      let is : xs ≡ map some.0 (nodes_of p readings) = some.1.2 ∙ ap (λ (rs : List Reading). map some.0 (nodes_of p rs)) (readings_one p some.1.0 readings some.1.1 are) in
      (some.0, is, (same_executions p readings some.0 xs is arcs are stands).0 execution)

  pub values : (x : Times) → bounds.IsExecution p x → IsExecution (length (nodes_of p readings)) arcs (map x (nodes_of p readings))
  values x execution = (same_executions p readings x (map x (nodes_of p readings)) refl arcs are stands).1 execution

  module _ (j k : ℕ) (m n : Node) (there : IsNodeAt p readings j m) (there' : IsNodeAt p readings k n) where
    over_times : (x : Times) (xs : List ℤ) → xs ≡ map x (nodes_of p readings) → difference (at xs) j k ≡ (x n -ℤ x m)
    over_times x xs is = differences p readings x xs is j k m n there there'

    pub same_greatest : (h : ℤ) → IsGreatest (length (nodes_of p readings)) arcs j k h ↔ IsGreatestOf p m n h
    same_greatest h = (
      λ greatest. record {
        attained = (let some = times greatest.attained.0 greatest.attained.1 in (some.0, some.2, sym (over_times some.0 greatest.attained.0 some.1) ∙ greatest.attained.2));
        most = λ x execution. subst (λ (d : ℤ). d ≤ℤ h) (over_times x (map x (nodes_of p readings)) refl) (greatest.most (map x (nodes_of p readings)) (values x execution));
      },
      λ greatest. record {
        attained = (map greatest.attained.0 (nodes_of p readings), values greatest.attained.0 greatest.attained.1, over_times greatest.attained.0 _ refl ∙ greatest.attained.2);
        most = λ xs execution. let some = times xs execution in subst (λ (d : ℤ). d ≤ℤ h) (sym (over_times some.0 xs some.1)) (greatest.most some.0 some.2);
      },
    )

    pub same_unbounded : IsUnbounded (length (nodes_of p readings)) arcs j k ↔ IsUnboundedOf p m n
    same_unbounded = (
      λ unbounded h. (let more = unbounded h in let some = times more.0 more.1 in (some.0, some.2, subst (λ (d : ℤ). h <ℤ d) (over_times some.0 more.0 some.1) more.2)),
      λ unbounded h. (let more = unbounded h in (map more.0 (nodes_of p readings), values more.0 more.1, subst (λ (d : ℤ). h <ℤ d) (sym (over_times more.0 _ refl)) more.2)),
    )
