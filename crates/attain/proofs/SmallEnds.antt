-- The written ends of an interval have small numbers.
use Rattle.std.proofs.Common.{◌≡◌, ◌<◌, ◌≤◌, ◌*◌, ◌^◌, ℕ, Bool, true, false, List, [], ◌∷◌, length, map, get_or, sym, ap, subst, arith, inl, inr}
use Rattle.std.specs.Prelude.{◌+◌, ℤ, pos, neg_ℤ, ◌+ℤ◌, ◌-ℤ◌, All}
use Rattle.std.proofs.lemmas.Int.{ints}
use Rattle.std.proofs.lemmas.Bool.{cases_Bool}
use Rattle.std.proofs.lemmas.List.Elements.{All-nil, All-cons, All-head, All-tail, All-map}
use Rattle.problem_model.specs.declared.items.Bound.{Bound}
use Rattle.problem_model.specs.Problem.{ProblemLists}
use Rattle.problem_model.specs.Nodes.{Reading}
use Rattle.problem_model.specs.Executions.{at}
use Rattle.problem_model.specs.Parents.{Cells}
use Rattle.problem_model.specs.Rows.{attaining, least_differences}
use Rattle.problem_model.specs.Limits.{path_bits}
use Rattle.problem_model.proofs.Heights.{height_low}
use Rattle.problem_model.proofs.Attaining.{attaining-known, attaining-other}
use Rattle.sync_graph.specs.declared.arc.Arc.{Arc}
use Rattle.sync_graph.specs.Graph.{GraphLists, IsGraph, IsSound, arc_at}
use Rattle.sync_graph.proofs.InForce.{no_arc, in_force_below}
use Rattle.cert.specs.EndLists.{EndLists}
use Rattle.cert.specs.declared.chain.Step.{Step}
use Rattle.problem.specs.Listing.{Listed, listed_nodes}
use Rattle.attain.specs.ListedProblem.{AreCarried}
use Rattle.problem_graph.specs.ListedStanding.{StandsForListed}
use Rattle.attain.specs.Tight.{IsUnder, IsSmallEnd}
use Rattle.attain.specs.Written.{WrittenEnd, Limit, NoLimit, NamesParents, next_node, IsUpperWritten, IsLowerWritten}
use Rattle.attain.proofs.Sizes.{IsWithin, AreWithinHeight}
use Rattle.attain.proofs.EndTexts.{IsListedEnd}

-- ---- weights
arc_light : (nodes : ℕ) (a : Arc) → IsSound nodes a → IsUnder 93 a.weight
arc_light nodes a sound = (sound.low, sound.high)

follows_light : (outward : Bool) (g : GraphLists) (is : IsGraph g) (c : Cells) (p k : ℕ) (steps : List (Bound × ℤ)) → NamesParents outward g c p k steps → All (λ s. IsUnder 93 s.1) steps
follows_light outward g is c p k [] follows = All-nil (λ (s : Bound × ℤ). IsUnder 93 s.1)
follows_light outward g is c p k (s ∷ steps) (force, is_step, rest) =
    All-cons (λ (s : Bound × ℤ). IsUnder 93 s.1) s steps
    (subst (IsUnder 93) (sym (ap (λ (v : Bound × ℤ). v.1) is_step)) (arc_light (length g.nodes) (arc_at g.arcs (c.parent k)) (is.sound (c.parent k) no_arc (in_force_below g is (c.parent k) force))))
    (follows_light outward g is c p (next_node outward (arc_at g.arcs (c.parent k))) steps rest)

carried_light : (l : Listed) (steps : List (Bound × ℤ)) (path : List Step) → AreCarried l steps path → All (λ s. IsUnder 93 s.1) steps → All (λ t. IsUnder 93 t.weight) path
carried_light l [] [] carried light = All-nil (λ (t : Step). IsUnder 93 t.weight)
carried_light l [] (t ∷ others) carried light = absurd carried
carried_light l (s ∷ steps) [] carried light = absurd carried
carried_light l (s ∷ steps) (t ∷ others) carried light =
    All-cons (λ (t : Step). IsUnder 93 t.weight) t others
    (subst (IsUnder 93) carried.1 (All-head (λ (s : Bound × ℤ). IsUnder 93 s.1) s steps light))
    (carried_light l steps others carried.2 (All-tail (λ (s : Bound × ℤ). IsUnder 93 s.1) s steps light))

-- ---- real times
under : (m : ℕ) (z : ℤ) → m ≤ 2 ^ path_bits → IsWithin m z → IsUnder (path_bits + 1) z
under m z few (low, high) = (omega (arith, ints, few, low), omega (arith, ints, few, high))

under_more : (m : ℕ) (z : ℤ) → m ≤ 2 ^ path_bits → IsWithin m z → IsUnder (path_bits + 2) z
under_more m z few (low, high) = (omega (arith, ints, few, low), omega (arith, ints, few, high))

turned : (m : ℕ) (z : ℤ) → IsWithin m z → IsWithin m (pos 0 -ℤ z)
turned m z (low, high) = (omega (arith, ints, high), omega (arith, ints, low))

negated : (m : ℕ) (z : ℤ) → IsWithin m z → IsWithin m (neg_ℤ z)
negated m z (low, high) = (omega (arith, ints, high), omega (arith, ints, low))

-- a value and the lead of another node
moved : (m : ℕ) (x h y K : ℤ) → m ≤ 2 ^ path_bits → IsWithin m x → IsWithin m h → IsWithin m y → (h -ℤ y) ≡ K → IsUnder (path_bits + 2) (x +ℤ K)
moved m x h y K few (x_low, x_high) (h_low, h_high) (y_low, y_high) is =
    (omega (arith, ints, few, x_low, h_low, y_high, is), omega (arith, ints, few, x_high, h_high, y_low, is))

module _ (m nodes : ℕ) (few : m ≤ 2 ^ path_bits) (values : List ℤ) (c : Cells) (sizes : AreWithinHeight m nodes values c) where
  -- differences of known nodes, and the values and a lead at all others
  attaining_small : (differences : ℕ → ℤ) → ((k : ℕ) → c.known k ≡ true → IsWithin m (differences k)) → (K : ℤ) → ((k : ℕ) × (k < nodes) × (c.known k ≡ true) × (differences k -ℤ at values k ≡ K))
      → (k : ℕ) → k < nodes → IsUnder (path_bits + 2) (attaining c.known differences values K k)
  attaining_small differences small K (j, within, known, is) k inside = elim (cases_Bool (c.known k)) [
    | inl here ↦ subst (IsUnder (path_bits + 2)) (sym (attaining-known c.known differences values K k here)) (under_more m (differences k) few (small k here))
    | inr other ↦ subst (IsUnder (path_bits + 2)) (sym (attaining-other c.known differences values K k other))
        (moved m (at values k) (differences j) (at values j) K few (sizes.at_nodes k inside) (small j known) (sizes.at_nodes j within) is)
  ]

  plain_small : (k : ℕ) → k < nodes → IsUnder (path_bits + 2) (at values k)
  plain_small k inside = under_more m (at values k) few (sizes.at_nodes k inside)

module _ (l : Listed) (p : ProblemLists) (readings : List Reading) (g : GraphLists) (stands : StandsForListed l p readings g) (is : IsGraph g) (values : List ℤ)
    (c : Cells) (sizes : AreWithinHeight (length g.nodes * 2 ^ 93) (length g.nodes) values c)
  where
    -- a graph has no more than 2^25 nodes
    low_height : length g.nodes * 2 ^ 93 ≤ 2 ^ path_bits
    low_height = height_low (length g.nodes) is.node_limit

    listed_small : (x : ℕ → ℤ) → ((k : ℕ) → k < length g.nodes → IsUnder (path_bits + 2) (x k)) → All (IsUnder (path_bits + 2)) (map x (listed_nodes l))
    listed_small x small = All-map (IsUnder (path_bits + 2)) x (listed_nodes l) (λ i d inside. small (get_or (listed_nodes l) i d) (stands.nodes i d inside))

    pub upper_small : (from to : ℕ) (w : WrittenEnd) (end : EndLists) → IsListedEnd l w end → IsUpperWritten l g values c from to w → IsSmallEnd end
    upper_small from to (Limit value steps x) end (path, carried, same) (K, known, value_is, lead, follows, short, times) =
        subst IsSmallEnd (sym same) (
          subst (IsUnder (path_bits + 1)) (sym value_is) (under (length g.nodes * 2 ^ 93) (c.value to) low_height (sizes.distances to known)),
          carried_light l steps path carried (follows_light true g is c from to steps follows),
          listed_small x (λ k inside. subst (IsUnder (path_bits + 2)) (sym (times k inside)) (attaining_small (length g.nodes * 2 ^ 93) (length g.nodes) low_height values c sizes c.value sizes.distances K lead.attained k inside)),
        )
    upper_small from to (NoLimit inside x) end same (unknown, clocks, times) =
        subst IsSmallEnd (sym same) (subst (λ (f : ℕ → ℤ). All (IsUnder (path_bits + 2)) (map f (listed_nodes l))) (sym times) (listed_small (at values) (plain_small (length g.nodes * 2 ^ 93) (length g.nodes) low_height values c sizes)))

    pub lower_small : (from to : ℕ) (w : WrittenEnd) (end : EndLists) → IsListedEnd l w end → IsLowerWritten l g values c from to w → IsSmallEnd end
    lower_small from to (Limit value steps x) end (path, carried, same) (K, known, value_is, lead, follows, short, times) =
        subst IsSmallEnd (sym same) (
          subst (IsUnder (path_bits + 1)) (sym value_is) (under (length g.nodes * 2 ^ 93) (neg_ℤ (c.value to)) low_height (negated (length g.nodes * 2 ^ 93) (c.value to) (sizes.distances to known))),
          carried_light l steps path carried (follows_light false g is c from to steps follows),
          listed_small x (λ k inside. subst (IsUnder (path_bits + 2)) (sym (times k inside))
              (attaining_small (length g.nodes * 2 ^ 93) (length g.nodes) low_height values c sizes (least_differences c.value) (λ j here. turned (length g.nodes * 2 ^ 93) (c.value j) (sizes.distances j here)) K lead.attained k inside)),
        )
    lower_small from to (NoLimit inside x) end same (unknown, clocks, times) =
        subst IsSmallEnd (sym same) (subst (λ (f : ℕ → ℤ). All (IsUnder (path_bits + 2)) (map f (listed_nodes l))) (sym times) (listed_small (at values) (plain_small (length g.nodes * 2 ^ 93) (length g.nodes) low_height values c sizes)))
