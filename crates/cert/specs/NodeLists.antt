-- The nodes of a problem by the lists that name them.
use Rattle.std.specs.Prelude.{◌≡◌, ◌<◌, ◌≤◌, ℕ, List, length, All, slice_get, Some}
use Rattle.problem_model.specs.declared.items.Node.TheVariants as nodes
use Rattle.problem_model.specs.Name.{IsEventName, IsClockName}
use Rattle.problem_model.specs.Problem.{ProblemLists}
use Rattle.problem_model.specs.Nodes.{Reading, nodes_of}
use Rattle.problem_model.specs.ProblemText.{clock_name, event_name}
use Rattle.problem_model.specs.Limits.{most_nodes}
use Rattle.cert.specs.declared.nodes.NextNode.{NextNode}
use Rattle.cert.specs.declared.nodes.NextNode.TheVariants as next

-- a problem and its readings
pub record NodeLists : Type 0 where
  pub problem : ProblemLists
  pub readings : List Reading

-- the names are spelled as names, and there are not too many
pub record AreNamed (n : NodeLists) : Type 0 where
  pub clock_names : All (λ c. IsClockName c.name) n.problem.clocks
  pub event_names : All (λ e. IsEventName e.name) n.problem.events
  pub known : All (λ r. r.0 < length n.problem.clocks) n.readings
  pub few : length (nodes_of n.problem n.readings) ≤ most_nodes

-- what stands at place k of the nodes
abbrev pub StandsAtNode : NodeLists → ℕ → NextNode → Type 0
StandsAtNode n k (next.Event name) = (event : ℕ) × (slice_get (nodes_of n.problem n.readings) k ≡ Some (nodes.Event event)) × (name ≡ event_name n.problem.events event)
StandsAtNode n k (next.Reading clock stamp) = (place : ℕ) × (slice_get (nodes_of n.problem n.readings) k ≡ Some (nodes.Reading place stamp)) × (clock ≡ clock_name n.problem.clocks place)
StandsAtNode n k next.End = length (nodes_of n.problem n.readings) ≤ k
