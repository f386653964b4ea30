-- What the certificate of both ends of an interval is written by, and what it shows.
use Rattle.std.specs.Prelude.{ℕ, ◌≤◌, List, length}
use Rattle.problem_model.specs.Problem.{ProblemLists}
use Rattle.problem_model.specs.Nodes.{Reading}
use Rattle.problem_model.specs.Parents.{IsRow}
use Rattle.problem_model.specs.Tables.{reversed_table}
use Rattle.problem.specs.Listing.{Listed}
use Rattle.sync_graph.specs.Graph.{GraphLists, table_of}
use Rattle.problem_graph.specs.ListedStanding.{StandsForListed, IsEventAt}
use Rattle.row_pool.specs.declared.cell.Cell.{Cell}
use Rattle.row_pool.specs.Row.{cells_of}
use Rattle.attain.specs.Tight.{IsTightText}

-- the row of distances from node p and that towards it, with a cell for each node
pub record AreRowsAt (g : GraphLists) (p : ℕ) (from to : List Cell) : Type 0 where
  pub from_node : IsRow (length g.nodes) (table_of g) p (cells_of from)
  pub to_node : IsRow (length g.nodes) (reversed_table (table_of g)) p (cells_of to)
  pub cells_from : length g.nodes ≤ length from
  pub cells_to : length g.nodes ≤ length to

-- the graph stands for a problem that the listing lists
abbrev pub StandsForSome : Listed → GraphLists → Type 0
StandsForSome l g = (p : ProblemLists) × (readings : List Reading) × StandsForListed l p readings g

-- both nodes are those of listed events
abbrev pub AreEventNodes : Listed → ℕ → ℕ → Type 0
AreEventNodes l p q = (j : ℕ) × (k : ℕ) × IsEventAt l j p × IsEventAt l k q

-- of each problem that the graph stands for, the text is the certificate of the interval from the event at node p to that at q
abbrev pub IsEndsText : Listed → GraphLists → ℕ → ℕ → List ℕ → Type 0
IsEndsText l g p q text = (problem : ProblemLists) (readings : List Reading) (first second : ℕ) → StandsForListed l problem readings g
    → IsEventAt l first p → IsEventAt l second q → IsTightText problem readings first second text
