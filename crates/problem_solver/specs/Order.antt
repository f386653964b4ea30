-- The order in which the arcs of a graph are brought in.
use Rattle.std.specs.Prelude.{◌≡◌, ℕ, true, List, length, map}
use Rattle.std.specs.List.{range_with_len}
use Rattle.std.specs.List.Sorted.{IsPermutation}
use Rattle.sync_graph.specs.Graph.{GraphLists}

-- the numbers of all arcs, each once, in some order
abbrev pub AreAllArcs : GraphLists → List ℕ → Type 0
AreAllArcs g order = IsPermutation (range_with_len 0 (length g.arcs)) order

-- no arc is withdrawn
abbrev pub AreAllInForce : GraphLists → Type 0
AreAllInForce g = g.in_force ≡ map (λ a. true) g.arcs
