-- Messages that are withdrawn when events come.
use Rattle.std.specs.Prelude.{◌≡◌, ℕ, ◌<◌, ◌++◌, ◌⊎◌, List, length, Contains}
use Rattle.problem_model.specs.declared.items.Event.{Event}
use Rattle.problem_model.specs.declared.items.Message.{Message}
use Rattle.problem_model.specs.declared.items.Bound.{Bound}
use Rattle.problem_model.specs.declared.items.Bound.TheVariants as bounds
use Rattle.problem_model.specs.declared.items.Bound.TheVariants.{SpanMost, SpanLeast, Late, Early, DelayMost, DelayLeast}
use Rattle.problem_model.specs.Problem.{ProblemLists}
use Rattle.sync_graph.specs.declared.arc.Arc.{Arc}
use Rattle.sync_graph.specs.Graph.{GraphLists}
use Rattle.sync_graph.specs.InForce.{IsInForce}

-- of messages among so many events these are withdrawn, and those that come have an end behind them
pub record AreMore (before after : List Message) (events : ℕ) (withdrawn : List Message) : Type 0 where
  pub kept : (m : Message) → Contains before m → Contains after m ⊎ Contains withdrawn m
  pub gone : (m n : Message) → Contains withdrawn m → Contains after n → n.send ≡ m.send → n.receive ≡ m.receive → ⊥
  pub none : (m : Message) → Contains after m → m.send < events → m.receive < events → Contains before m

-- the problem with events behind all that it had, of whose messages these are withdrawn
pub record IsMore (before after : ProblemLists) (withdrawn : List Message) : Type 0 where
  pub clocks : after.clocks ≡ before.clocks
  pub follows : after.follows ≡ before.follows
  pub more : List Event
  pub events : after.events ≡ before.events ++ more
  pub messages : AreMore before.messages after.messages (length before.events) withdrawn

-- one of the messages leads from one event to the other
abbrev pub HasMessage : List Message → ℕ → ℕ → Type 0
HasMessage messages send receive = (m : Message) × Contains messages m × (m.send ≡ send) × (m.receive ≡ receive)

-- the bound is on the delay of one of these messages
abbrev pub IsDelayOf : List Message → Bound → Type 0
IsDelayOf messages (SpanMost clock s t) = ⊥
IsDelayOf messages (SpanLeast clock s t) = ⊥
IsDelayOf messages (Late v) = ⊥
IsDelayOf messages (Early v) = ⊥
IsDelayOf messages (bounds.Follow c s d t) = ⊥
IsDelayOf messages (DelayMost send receive) = HasMessage messages send receive
IsDelayOf messages (DelayLeast send receive) = HasMessage messages send receive

-- the arcs of these messages are taken out of force, and no others
pub record Withdraws (messages : List Message) (g h : GraphLists) : Type 0 where
  pub nodes : h.nodes ≡ g.nodes
  pub each : (a : Arc) → IsInForce h a → IsInForce g a
  pub gone : (a : Arc) → IsInForce h a → IsDelayOf messages a.name → ⊥
  pub every : (a : Arc) → IsInForce g a → IsDelayOf messages a.name ⊎ IsInForce h a
