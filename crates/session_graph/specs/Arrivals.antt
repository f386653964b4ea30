-- Events that enter and messages that come, in turn.
use Rattle.std.specs.Prelude.{◌≢◌, ◌+◌, ◌≤◌, ℕ, Bool, List, ◌++◌, length, All, AllPairs, Contains}
use Rattle.problem_model.specs.declared.items.Message.{Message}
use Rattle.problem_model.specs.declared.items.Node.{Node}
use Rattle.problem_model.specs.Limits.{most_arcs, most_nodes}
use Rattle.problem_graph.specs.Standing.{HasNode}
use Rattle.solver.specs.Solver.{SolverLists, HasRoom}
use Rattle.roster.specs.Roster.{RosterLists}
use Rattle.session_graph.specs.Kept.{KeepsRows}
use Rattle.session_graph.specs.Extensions.{Extends}
use Rattle.session_graph.specs.UnderWay.{IsEntering}
use Rattle.session_graph.specs.Growth.{KeepsNodesThere}

-- no two of the messages that come have one send, and none has that of one of those that are there
pub record HaveOwnSends (more messages : List Message) : Type 0 where
  pub differ : AllPairs (λ a b. a.send ≢ b.send) more
  pub fresh : All (λ m. (n : Message) → Contains messages n → n.send ≢ m.send) more

-- so many nodes and so many arcs may come
pub record HasRoomFor (more_nodes more_arcs : ℕ) (s : SolverLists) : Type 0 where
  pub nodes : length s.graph.nodes + more_nodes ≤ most_nodes
  pub room : HasRoom (length s.graph.nodes + more_nodes) s
  pub arcs : length s.graph.arcs + more_arcs ≤ most_arcs

-- some events have entered the graph, and these messages have come; the graph has only grown
pub record HaveCome (more : List Message) (old new : RosterLists) (s t : SolverLists) : Type 0 where
  pub grown : (entered : ℕ → Bool) (messages : List Message) → IsEntering entered messages old s → HaveOwnSends more messages
      → (now : ℕ → Bool) × IsEntering now (more ++ messages) new t
  pub keeps : KeepsNodesThere s.graph old new
  pub stay : (n : Node) → HasNode s.graph n → HasNode t.graph n
  pub rows : KeepsRows s t
  pub room : (n : ℕ) → HasRoom n s → HasRoom n t
  pub extends : Extends s t
