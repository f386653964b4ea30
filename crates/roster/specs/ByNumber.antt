-- A problem whose events stand by number, beside that with its events by place.
use Rattle.std.specs.Prelude.{◌≡◌, ◌≢◌, ℕ, List, map, slice_get, Some, AllPairs, Contains}
use Rattle.problem_model.specs.declared.items.Event.{Event}
use Rattle.problem_model.specs.declared.items.Message.{Message}
use Rattle.problem_model.specs.declared.items.Node.TheVariants as nodes
use Rattle.problem_model.specs.Problem.{ProblemLists}
use Rattle.problem_model.specs.Bounds.{EventAt}
use Rattle.problem.specs.Listing.{Listed}
use Rattle.sync_graph.specs.Graph.{GraphLists}
use Rattle.problem_graph.specs.ListedProblem.{StandsAt}

-- the first message, with its ends by number, is the second one, with its ends by place
pub record IsCarriedMessage (l : Listed) (m n : Message) : Type 0 where
  pub send : StandsAt l m.send n.send
  pub receive : StandsAt l m.receive n.receive
  pub least : n.least ≡ m.least
  pub most : n.most ≡ m.most

-- the second messages are the first ones
pub record AreCarriedMessages (l : Listed) (messages others : List Message) : Type 0 where
  pub forth : (m : Message) → Contains messages m → (n : Message) × Contains others n × IsCarriedMessage l m n
  pub back : (n : Message) → Contains others n → (m : Message) × Contains messages m × IsCarriedMessage l m n

-- the second problem has the events of the first one, each at the place where its number is listed, and the same messages
pub record IsByNumber (l : Listed) (p q : ProblemLists) : Type 0 where
  pub clocks : q.clocks ≡ p.clocks
  pub follows : q.follows ≡ p.follows
  pub numbers_differ : AllPairs (λ j k. j ≢ k) (map {A = ℕ × ℕ} (λ e. e.0) l.events)
  pub placed : (v place : ℕ) (e : Event) → StandsAt l v place → EventAt p v e → EventAt q place e
  pub every_event : (v : ℕ) (e : Event) → EventAt p v e → (place : ℕ) × StandsAt l v place
  pub numbered : (v place : ℕ) → StandsAt l v place → (e : Event) × EventAt p v e
  pub messages : AreCarriedMessages l p.messages q.messages

-- each listed event and each listed reading is the node of the graph that is listed with it
pub record TellsNodes (l : Listed) (g : GraphLists) : Type 0 where
  pub events : (v node : ℕ) → Contains {X = ℕ × ℕ} l.events (v, node) → slice_get g.nodes node ≡ Some (nodes.Event v)
  pub readings : (clock stamp node : ℕ) → Contains {X = ℕ × ℕ × ℕ} l.readings (clock, stamp, node) → slice_get g.nodes node ≡ Some (nodes.Reading clock stamp)
