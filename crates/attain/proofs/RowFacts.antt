-- What holds of the rows of a node.
use Rattle.std.proofs.Common.{◌≡◌, ◌<◌, ◌≤◌, ℕ, List, length, sym, subst}
use Rattle.problem_model.specs.Parents.{IsRow}
use Rattle.problem_model.specs.Problem.{ProblemLists}
use Rattle.problem_model.specs.Nodes.{Reading}
use Rattle.sync_graph.specs.Graph.{GraphLists}
use Rattle.problem.specs.Listing.{Listed}
use Rattle.problem_graph.specs.ListedStanding.{StandsForListed}
use Rattle.row_pool.specs.Row.{cells_of}
use Rattle.attain.specs.declared.side.Side.{Side}
use Rattle.attain.specs.declared.side.Side.TheVariants.{Upper, Lower}
use Rattle.attain.specs.Written.{AreMiddling, ListsGraph}
use Rattle.attain.specs.RowLists.{RowLists, AreRows, IsKnown, row_for, cells_for}
use Rattle.attain.specs.Sides.{facing}
use Rattle.attain.proofs.NamedBounds.{named, clocks_rise}
use Rattle.attain.proofs.Paths.{known_within}
use Rattle.attain.proofs.Sizes.{sizes, sizes_towards}

pub row_is : (side : Side) (r : RowLists) → AreRows r → IsRow (length r.graph.nodes) (facing side r.graph) r.node (cells_for side r)
row_is Upper r are = are.at_node.from_node
row_is Lower r are = are.at_node.to_node

pub row_long : (side : Side) (r : RowLists) → AreRows r → length r.graph.nodes ≤ length (row_for side r)
row_long Upper r are = are.at_node.cells_from
row_long Lower r are = are.at_node.cells_to

row_middling : (side : Side) (r : RowLists) → AreRows r → AreMiddling (length r.graph.nodes) r.values (cells_for side r)
row_middling Upper r are = sizes r.graph are.graph r.values are.earliest r.node (cells_of r.from) are.at_node.from_node
row_middling Lower r are = sizes_towards r.graph are.graph r.values are.earliest r.node (cells_of r.to) are.at_node.to_node

pub values_long : (r : RowLists) → AreRows r → length r.values ≡ length r.graph.nodes
values_long r are = are.earliest.execution.one_each

pub valued : (r : RowLists) → AreRows r → (k : ℕ) → k < length r.graph.nodes → k < length r.values
valued r are k within = subst (λ (n : ℕ). k < n) (sym (values_long r are)) within

pub row_sizes : (side : Side) (r : RowLists) → AreRows r → AreMiddling (length r.values) r.values (cells_for side r)
row_sizes side r are = subst (λ (n : ℕ). AreMiddling n r.values (cells_for side r)) (sym (values_long r are)) (row_middling side r are)

pub known_node : (side : Side) (r : RowLists) → AreRows r → (k : ℕ) → IsKnown side r k → k < length r.graph.nodes
known_node side r are k known = known_within side r.graph r.node (cells_for side r) k (row_is side r are) known

pub own_known : (side : Side) (r : RowLists) → AreRows r → IsKnown side r r.node
own_known side r are = (row_is side r are).own.0

-- a listing of a problem that the graph stands for is one of the graph
pub lists_graph : (l : Listed) (p : ProblemLists) (readings : List Reading) (g : GraphLists) → StandsForListed l p readings g → ListsGraph l g
lists_graph l p readings g stands = record { named = named l p readings g stands; nodes = stands.nodes; rising = clocks_rise l p readings g stands }
