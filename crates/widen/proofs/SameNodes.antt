-- A widened problem has the nodes of the problem.
use Rattle.std.proofs.Common.{◌≡◌, ◌+◌, ℕ, List, [], ◌∷◌, ◌++◌, map, refl, ◌∙◌, ap}
use Rattle.problem_model.specs.declared.items.Event.{Event}
use Rattle.problem_model.specs.declared.items.Node.{Node}
use Rattle.problem_model.specs.declared.items.Node.TheVariants as nodes
use Rattle.problem_model.specs.Problem.{ProblemLists}
use Rattle.problem_model.specs.Nodes.{Reading, event_nodes, reading_nodes, nodes_of}
use Rattle.cert_check.specs.declared.what.What.{What}
use Rattle.cert_check.specs.Widened.{widened_event, widened}
use Rattle.cert_check.proofs.Widening.{events_are}

-- nodes go by how many events there are
nodes_mapped : (f : Event → Event) (k : ℕ) (events : List Event) → event_nodes k (map f events) ≡ event_nodes k events
nodes_mapped f k [] = refl
nodes_mapped f k (e ∷ events) = ap (λ (ns : List Node). nodes.Event k ∷ ns) (nodes_mapped f (k + 1) events)

pub nodes_same : (what : What) (p : ProblemLists) (e : ℕ) (readings : List Reading) → nodes_of (widened what p e) readings ≡ nodes_of p readings
nodes_same what p e readings =
    ap (λ (ns : List Node). ns ++ reading_nodes readings) (ap (event_nodes 0) (events_are what e p.events) ∙ nodes_mapped (widened_event what e) 0 p.events)
