-- A withdrawal whole: from the earliest execution before to that of the arcs in force.
use Rattle.std.proofs.Common.{◌≡◌, ℕ, ◌+◌, ◌*◌, ◌^◌, ◌<◌, ◌≤◌, Bool, true, false, List, [], ◌∷◌, length, zero, suc, get_or, refl, ap, sym, subst, arith, inl, inr}
use Rattle.std.specs.Prelude.{ℤ, pos, neg_ℤ, ◌≤ℤ◌, Option, Some, None, map, All, if◌then◌else◌}
use Rattle.std.proofs.lemmas.Int.{ints}
use Rattle.std.proofs.lemmas.Bool.{cases_lt}
use Rattle.std.proofs.lemmas.List.{get_or_default, get_or_past}
use Rattle.std.proofs.lemmas.List.Elements.{All-append, All-map, All-contains, Contains-get_or, Contains-append_left}
use Rattle.problem_model.specs.Executions as bounds
use Rattle.problem_model.specs.Executions.{at, Obeys, AreWithin, IsExecution}
use Rattle.problem_model.specs.Numbers.{IsUpTo}
use Rattle.problem_model.specs.Sums.{sum_to}
use Rattle.problem_model.specs.Tables.{Lists}
use Rattle.problem_model.specs.Limits.{path_bits}
use Rattle.problem_model.proofs.Heights.{earliest_height, height_low}
use Rattle.problem_model.proofs.Sums.{sum-same}
use Rattle.problem_model.proofs.Tables.{lists_listed}
use Rattle.withdrawals.specs.Withdrawals.{IsExact, flagged_sum}
use Rattle.withdrawals.specs.Falls.{AreMarks}
use Rattle.withdrawals.proofs.Unmarked.{rest_least}
use Rattle.withdrawals.proofs.Falling.{first_poised, first_falling}
use Rattle.withdrawals.proofs.Marking.{are_marks, few_found}
use Rattle.withdrawals.proofs.Sums.{flagged_below, flagged_both}
use Rattle.sync_graph.specs.declared.arc.Arc.{Arc}
use Rattle.sync_graph.specs.Graph.{GraphLists, IsGraph, IsSound, table_of, unnamed, arc_at, reaching, departing}
use Rattle.earliest.specs.Values.{arcs_of, AreSmall, IsEarliestOf}
use Rattle.earliest.specs.Withdrawn.{waits_at, fall_at, falls_of, found_at, arcs_before, IsEarliestWith, IsAffectedBy, AreLow, IsFallMarking, IsPulledIn, IsFallingIn}
use Rattle.earliest.proofs.Waiting.{in_force_below}
use Rattle.earliest.proofs.Bounds.{no_arc}
use Rattle.earliest.proofs.Starting.{pos_le, value_low, weight_low, zero_low, up_to}

rest_fall : (front : List (Option ℤ)) (k : ℕ) → waits_at front k ≡ false → fall_at front k ≡ pos 0
rest_fall [] k w = refl
rest_fall (None ∷ front) zero w = refl
rest_fall (Some key ∷ front) zero w = absurd (let z : ⊥ = cc in z)
rest_fall (x ∷ front) (suc k) w = rest_fall front k w

module _ (g : GraphLists) (is : IsGraph g) (removed : List Arc) (olds : List ℤ)
    (sound : All (IsSound (length g.nodes)) removed)
    (e : IsEarliestWith g removed olds)
  where
    now : Lists (table_of g) (arcs_of g)
    now = lists_listed (table_of g) (length g.arcs) (in_force_below g is)

    -- what is true of each sound arc is true of the arcs before
    each_sound : (P : bounds.Arc → Type 0) → ((a : Arc) → IsSound (length g.nodes) a → P (unnamed a)) → All P (arcs_before g removed)
    each_sound P h = All-append P (arcs_of g) (map unnamed removed)
        (λ k d l.
        let r : (j : ℕ) × ((table_of g).in_force j ≡ true) × ((table_of g).arc j ≡ get_or (arcs_of g) k d) = now.only (get_or (arcs_of g) k d) (Contains-get_or (arcs_of g) k d l) in
        subst P r.2 (h (arc_at g.arcs r.0) (is.sound r.0 no_arc (in_force_below g is r.0 r.1))))
        (All-map P unnamed removed (λ k d l. h (get_or removed k d) (sound k d l)))

    within : AreWithin (length g.nodes) (arcs_before g removed)
    within = each_sound (λ a. (a.from < length g.nodes) × (a.to < length g.nodes)) (λ a s. (s.from, s.to))

    olds_low : (k : ℕ) → at olds k ≤ℤ pos (2 ^ path_bits)
    olds_low k = elim (cases_lt k (length g.nodes)) [
      | inl l ↦ value_low (at olds k) (pos (length g.nodes * 2 ^ 93))
          (earliest_height (length g.nodes) (arcs_before g removed) olds (2 ^ 93) within (each_sound (λ a. neg_ℤ (pos (2 ^ 93)) ≤ℤ a.weight) (λ a s. weight_low a.weight s.low)) e k l)
          (pos_le (length g.nodes * 2 ^ 93) (2 ^ path_bits) (height_low (length g.nodes) is.node_limit))
      | inr l ↦ zero_low (at olds k) (get_or_past olds k (pos 0) (omega (arith, l, e.execution.one_each)))
    ]

    pub are_low : AreLow (length g.nodes) olds
    are_low = record { one_each = e.execution.one_each; non_negative = e.non_negative; low = olds_low }

    pub are_small : AreSmall g olds
    are_small = record {
      one_each = e.execution.one_each;
      small = λ k d l. subst (IsUpTo (path_bits + 3)) (get_or_default olds k (pos 0) d l) (up_to (at olds k) (e.non_negative k) (olds_low k));
    }

    pub are_obeyed : (j : ℕ) → (table_of g).in_force j ≡ true → Obeys (at olds) ((table_of g).arc j)
    are_obeyed j f = All-contains (Obeys (at olds)) (arcs_before g removed) ((table_of g).arc j) e.execution.obeys
        (Contains-append_left (arcs_of g) (map unnamed removed) ((table_of g).arc j) (now.all j f))

    module _ (front : List (Option ℤ)) (found : List ℕ) (count : ℕ) where
      -- all affected nodes are marked, and none is pulled yet
      pub pulled_first : IsFallMarking g (arcs_before g removed) (map unnamed removed) olds front found count count
          → All (λ a. IsExact (at olds) a → waits_at front a.from ≡ true) (map unnamed removed)
          → IsPulledIn g olds front found count 0
      pulled_first m gone = record {
        poised = first_poised (length g.nodes) (table_of g) (arcs_of g) (map unnamed removed) olds (falls_of olds front) now within e
            (are_marks (length g.nodes) (table_of g) (arcs_before g removed) (map unnamed removed) (at olds) (waits_at front) (found_at found) count m.marking gone)
            (record { value = λ k. refl; rests = rest_fall front; all = m.keys });
        held = λ i l. absurd (omega arith);
        listed = m.marking.listed;
        marked = λ i l. (m.marking.marked i l, m.marking.within i l);
        room = m.room;
      }

      -- all are pulled, and the first pop comes
      pub falling_first : IsPulledIn g olds front found count count → IsFallingIn g olds olds front
      falling_first p = record {
        top = pos 0;
        falling = first_falling (table_of g) (at olds) (falls_of olds front) are_obeyed p.poised
            (λ j f w. let r : (i : ℕ) × (i < count) × (found_at found i ≡ ((table_of g).arc j).from) = p.listed ((table_of g).arc j).from w in p.held r.0 r.1 j f (sym r.2));
        nodes = λ k w. (let r : (i : ℕ) × (i < count) × (found_at found i ≡ k) = p.listed k w in subst (λ n. n < length g.nodes) r.2 (p.marked r.0 r.1).1);
        one_each = e.execution.one_each;
        room = p.room;
      }

      pub found_few : IsFallMarking g (arcs_before g removed) (map unnamed removed) olds front found count count → count ≤ length found
      found_few m =
          let few : count ≤ length g.nodes = few_found (length g.nodes) (table_of g) (arcs_before g removed) (map unnamed removed) (at olds) (waits_at front) (found_at found) count count m.marking in
          omega (arith, m.found_each)

      -- a node that is not marked keeps its value
      pub rests_same : IsFallMarking g (arcs_before g removed) (map unnamed removed) olds front found count count
          → All (λ a. IsExact (at olds) a → waits_at front a.from ≡ true) (map unnamed removed)
          → (news : List ℤ) → IsEarliestOf g news → (k : ℕ) → waits_at front k ≡ false → at news k ≡ at olds k
      rests_same m gone news n k w =
          let marks : AreMarks (table_of g) (map unnamed removed) (at olds) (waits_at front) =
          are_marks (length g.nodes) (table_of g) (arcs_before g removed) (map unnamed removed) (at olds) (waits_at front) (found_at found) count m.marking gone in
          let low : at olds k ≤ℤ at news k = rest_least (length g.nodes) (table_of g) (arcs_of g) (map unnamed removed) olds (waits_at front) now within e marks (at news)
          (λ j f. All-contains (Obeys (at news)) (arcs_of g) ((table_of g).arc j) n.execution.obeys (now.all j f)) n.non_negative k w in
          let still : IsExecution (length g.nodes) (arcs_of g) olds = record {
            one_each = e.execution.one_each;
            obeys = λ i d l. All-contains (Obeys (at olds)) (arcs_before g removed) (get_or (arcs_of g) i d) e.execution.obeys
                (Contains-append_left (arcs_of g) (map unnamed removed) (get_or (arcs_of g) i d) (Contains-get_or (arcs_of g) i d l));
          } in
          let high : at news k ≤ℤ at olds k = n.least olds still e.non_negative k in
          omega (arith, ints, low, high)

      -- the steps of all three loops
      pub all_cost : (front' : List (Option ℤ)) (s0 s1 s2 s3 : ℕ) (affected : ℕ → Bool)
          → IsFallMarking g (arcs_before g removed) (map unnamed removed) olds front found count count
          → ((k : ℕ) → waits_at front' k ≡ waits_at front k)
          → s1 ≤ s0 + sum_to count (λ i. reaching g (found_at found i) + 1)
          → s2 ≤ s1 + sum_to count (λ i. departing g (found_at found i) + 1)
          → s3 ≤ s2 + flagged_sum (length g.nodes) (λ k. reaching g k + 2) (waits_at front') + 1
          → ((k : ℕ) → IsAffectedBy g removed olds k → affected k ≡ true)
          → s3 ≤ s0 + flagged_sum (length g.nodes) (λ k. 2 * (reaching g k + departing g k) + 5) affected + 2
      all_cost front' s0 s1 s2 s3 affected m same c1 c2 c3 cover =
          let n : ℕ = length g.nodes in
          let a : flagged_sum n (λ k. reaching g k + 1) (waits_at front) ≡ sum_to count (λ i. reaching g (found_at found i) + 1) = m.marking.counted (λ k. reaching g k + 1) in
          let b : flagged_sum n (λ k. departing g k + 1) (waits_at front) ≡ sum_to count (λ i. departing g (found_at found i) + 1) = m.marking.counted (λ k. departing g k + 1) in
          let c : flagged_sum n (λ k. reaching g k + 2) (waits_at front') ≡ flagged_sum n (λ k. reaching g k + 2) (waits_at front) =
          sum-same n (λ k. if waits_at front k then (reaching g k + 2) else 0) (λ k. if waits_at front' k then (reaching g k + 2) else 0) (λ k l. ap (λ v. if v then (reaching g k + 2) else 0) (same k)) in
          let ab : flagged_sum n (λ k. (reaching g k + 1) + (departing g k + 1)) (waits_at front) ≡ flagged_sum n (λ k. reaching g k + 1) (waits_at front) + flagged_sum n (λ k. departing g k + 1) (waits_at front) =
          flagged_both n (λ k. reaching g k + 1) (λ k. departing g k + 1) (λ k. (reaching g k + 1) + (departing g k + 1)) (waits_at front) (λ k. refl) in
          let abc : flagged_sum n (λ k. ((reaching g k + 1) + (departing g k + 1)) + (reaching g k + 2)) (waits_at front)
          ≡ flagged_sum n (λ k. (reaching g k + 1) + (departing g k + 1)) (waits_at front) + flagged_sum n (λ k. reaching g k + 2) (waits_at front) =
          flagged_both n (λ k. (reaching g k + 1) + (departing g k + 1)) (λ k. reaching g k + 2) (λ k. ((reaching g k + 1) + (departing g k + 1)) + (reaching g k + 2)) (waits_at front) (λ k. refl) in
          let up : flagged_sum n (λ k. ((reaching g k + 1) + (departing g k + 1)) + (reaching g k + 2)) (waits_at front) ≤ flagged_sum n (λ k. 2 * (reaching g k + departing g k) + 5) affected =
          flagged_below n (λ k. ((reaching g k + 1) + (departing g k + 1)) + (reaching g k + 2)) (λ k. 2 * (reaching g k + departing g k) + 5) (waits_at front) affected
          (λ k l w. cover k (m.marking.affected k w)) (λ k l. omega arith) in
          omega arith
