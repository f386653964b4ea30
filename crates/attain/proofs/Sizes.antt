-- How great the values of an earliest execution and the distances of a row are.
use Rattle.std.proofs.Common.{◌≡◌, ◌<◌, ◌≤◌, ◌*◌, ◌^◌, ℕ, true, false, List, length, get_or, subst, arith, inl, inr}
use Rattle.std.specs.Prelude.{ℤ, pos, neg_ℤ, ◌-ℤ◌, ◌≤ℤ◌, ◌<ℤ◌, All}
use Rattle.std.proofs.lemmas.Int.{ints}
use Rattle.std.proofs.lemmas.Bool.{cases_lt}
use Rattle.std.proofs.lemmas.List.Elements.{Contains-get_or}
use Rattle.problem_model.specs.Executions as bounds
use Rattle.problem_model.specs.Executions.{at}
use Rattle.problem_model.specs.Numbers.{IsUpTo}
use Rattle.problem_model.specs.Parents.{Cells, IsRow}
use Rattle.problem_model.specs.Tables.{ArcTable, ObeysAll, reversed_table}
use Rattle.problem_model.specs.Limits.{most_nodes, path_bits}
use Rattle.problem_model.proofs.Heights.{earliest_height, height_low}
use Rattle.problem_model.proofs.Parents.{chain_bound, row_high}
use Rattle.problem_model.proofs.Tables.{obeys_all}
use Rattle.sync_graph.specs.Graph.{GraphLists, IsGraph, arc_at, table_of}
use Rattle.sync_graph.specs.InForce.{arcs_of, IsEarliestOf}
use Rattle.attain.specs.Written.{AreMiddling}
use Rattle.sync_graph.proofs.InForce.{no_arc, in_force_below, arcs_listed, arcs_within}

below_equal : (a b : ℤ) → a <ℤ b → a ≤ℤ b
below_equal a b less = omega (arith, ints)

-- at most m in absolute value
abbrev pub IsWithin : ℕ → ℤ → Type 0
IsWithin m z = (neg_ℤ (pos m) ≤ℤ z) × (z ≤ℤ pos m)

-- values and known distances are at most m in absolute value
pub record AreWithinHeight (m nodes : ℕ) (values : List ℤ) (c : Cells) : Type 0 where
  pub at_nodes : (k : ℕ) → k < nodes → IsWithin m (at values k)
  pub distances : (k : ℕ) → c.known k ≡ true → IsWithin m (c.value k)

-- what lies between 0 and m, and what lies below m and not below the difference of two such
value_within : (m : ℕ) (z : ℤ) → pos 0 ≤ℤ z → z ≤ℤ pos m → IsWithin m z
value_within m z low high = (omega (arith, ints, low, high), high)

distance_within : (m : ℕ) (x y z : ℤ) → pos 0 ≤ℤ x → y ≤ℤ pos m → (x -ℤ y) ≤ℤ z → z ≤ℤ pos m → IsWithin m z
distance_within m x y z low high least most = (omega (arith, ints, low, high, least), most)

widened : (m : ℕ) (z : ℤ) → m ≤ 2 ^ path_bits → IsWithin m z → IsUpTo path_bits z
widened m z few (low, high) = (omega (arith, ints, few, low), omega (arith, ints, few, high))

middling : (n : ℕ) (values : List ℤ) (c : Cells) → n ≤ most_nodes → AreWithinHeight (n * 2 ^ 93) n values c → AreMiddling n values c
middling n values c few within = record {
  at_nodes = λ k inside. widened (n * 2 ^ 93) (at values k) (height_low n few) (within.at_nodes k inside);
  distances = λ k known. widened (n * 2 ^ 93) (c.value k) (height_low n few) (within.distances k known);
}

module _ (g : GraphLists) (is : IsGraph g) (values : List ℤ) (e : IsEarliestOf g values) where
  light : (j : ℕ) → (table_of g).in_force j ≡ true → ((table_of g).arc j).weight ≤ℤ pos (2 ^ 93)
  light j force = below_equal (arc_at g.arcs j).weight (pos (2 ^ 93)) (is.sound j no_arc (in_force_below g is j force)).high

  not_below : All (λ a. neg_ℤ (pos (2 ^ 93)) ≤ℤ a.weight) (arcs_of g)
  not_below k d inside =
      let r = (arcs_listed g is).only (get_or (arcs_of g) k d) (Contains-get_or (arcs_of g) k d inside) in
      subst (λ (a : bounds.Arc). neg_ℤ (pos (2 ^ 93)) ≤ℤ a.weight) r.2 (below_equal (neg_ℤ (pos (2 ^ 93))) (arc_at g.arcs r.0).weight (is.sound r.0 no_arc (in_force_below g is r.0 r.1)).low)

  value_high : (k : ℕ) → k < length g.nodes → at values k ≤ℤ pos (length g.nodes * 2 ^ 93)
  value_high k inside = earliest_height (length g.nodes) (arcs_of g) values (2 ^ 93) (arcs_within g is) not_below e k inside

  obeyed : ObeysAll (table_of g) (at values)
  obeyed = obeys_all (length g.nodes) (table_of g) (arcs_of g) values (arcs_listed g is) e.execution

  value_small : (k : ℕ) → k < length g.nodes → IsWithin (length g.nodes * 2 ^ 93) (at values k)
  value_small k inside = value_within (length g.nodes * 2 ^ 93) (at values k) (e.non_negative k) (value_high k inside)

  known_inside : (table : ArcTable) (p : ℕ) (c : Cells) → IsRow (length g.nodes) table p c → (k : ℕ) → c.known k ≡ true → k < length g.nodes
  known_inside table p c row k known = elim (cases_lt k (length g.nodes)) [
    | inl inside ↦ inside
    | inr past ↦ absurd (let unknown : c.known k ≡ false = row.past k past in let none : ⊥ = cc in none)
  ]

  -- by a row from a node
  pub heights : (p : ℕ) (c : Cells) → IsRow (length g.nodes) (table_of g) p c → AreWithinHeight (length g.nodes * 2 ^ 93) (length g.nodes) values c
  heights p c row = record {
    at_nodes = value_small;
    distances = λ k known.
        let chain = row.back k known in
        let least : (at values k -ℤ at values p) ≤ℤ c.value k = chain_bound (table_of g) p c (at values) obeyed row.own.1 chain.0 k chain.2 in
        distance_within (length g.nodes * 2 ^ 93) (at values k) (at values p) (c.value k) (e.non_negative k)
        (value_high p (known_inside (table_of g) p c row p row.own.0)) least (row_high (length g.nodes) (table_of g) p c (2 ^ 93) row light k known);
  }

  pub sizes : (p : ℕ) (c : Cells) → IsRow (length g.nodes) (table_of g) p c → AreMiddling (length g.nodes) values c
  sizes p c row = middling (length g.nodes) values c is.node_limit (heights p c row)

  -- ---- by a row towards a node, along the reversed arcs
  turned : (a b w : ℤ) → (a -ℤ b) ≤ℤ w → (neg_ℤ b -ℤ neg_ℤ a) ≤ℤ w
  turned a b w h = omega (arith, ints)

  turned_back : (a b w : ℤ) → (neg_ℤ a -ℤ neg_ℤ b) ≤ℤ w → (b -ℤ a) ≤ℤ w
  turned_back a b w h = omega (arith, ints)

  obeyed_back : ObeysAll (reversed_table (table_of g)) (λ k. neg_ℤ (at values k))
  obeyed_back j force = turned (at values (arc_at g.arcs j).to) (at values (arc_at g.arcs j).from) (arc_at g.arcs j).weight (obeyed j force)

  pub heights_towards : (p : ℕ) (c : Cells) → IsRow (length g.nodes) (reversed_table (table_of g)) p c → AreWithinHeight (length g.nodes * 2 ^ 93) (length g.nodes) values c
  heights_towards p c row = record {
    at_nodes = value_small;
    distances = λ k known.
        let chain = row.back k known in
        let least : (at values p -ℤ at values k) ≤ℤ c.value k =
        turned_back (at values k) (at values p) (c.value k) (chain_bound (reversed_table (table_of g)) p c (λ i. neg_ℤ (at values i)) obeyed_back row.own.1 chain.0 k chain.2) in
        distance_within (length g.nodes * 2 ^ 93) (at values p) (at values k) (c.value k) (e.non_negative p)
        (value_high k (known_inside (reversed_table (table_of g)) p c row k known)) least (row_high (length g.nodes) (reversed_table (table_of g)) p c (2 ^ 93) row light k known);
  }

  pub sizes_towards : (p : ℕ) (c : Cells) → IsRow (length g.nodes) (reversed_table (table_of g)) p c → AreMiddling (length g.nodes) values c
  sizes_towards p c row = middling (length g.nodes) values c is.node_limit (heights_towards p c row)
