-- How many steps an insertion takes.
use Rattle.std.specs.Prelude.{ℕ, ◌+◌, ◌*◌, ◌||◌, ℤ, List, if◌then◌else◌, int_lt, length}
use Rattle.problem_model.specs.Executions.{at}
use Rattle.problem_model.specs.Sums.{sum_to}
use Rattle.sync_graph.specs.Graph.{GraphLists, reaching, arcs_in_force}
use Rattle.earliest.specs.declared.inserted.Inserted.{Inserted}
use Rattle.earliest.specs.declared.inserted.Inserted.TheVariants.{Kept, Negative}

-- so much for each node whose value differs before and after
abbrev pub differing_sum : ℕ → (ℕ → ℕ) → List ℤ → List ℤ → ℕ
differing_sum nodes each before after =
    sum_to nodes (λ k. if int_lt (at before k) (at after k) || int_lt (at after k) (at before k) then each k else 0)

-- the most steps: two, and where the values are kept two and the arcs in force that reach it for each node whose value
-- differs; at a negative cycle two for each node, and the arcs in force
abbrev pub most_insert_steps : GraphLists → List ℤ → List ℤ → Inserted → ℕ
most_insert_steps g before after Kept = differing_sum (length g.nodes) (λ k. reaching g k + 2) before after + 2
most_insert_steps g before after (Negative cycle) = arcs_in_force g + 2 * length g.nodes + 2
