-- The names of arcs.
use Rattle.std.specs.Prelude.{◌≡◌, ℕ, List, slice_get, Some}
use Rattle.problem_model.specs.declared.items.Node.{Node}
use Rattle.problem_model.specs.declared.items.Node.TheVariants as nodes
use Rattle.problem_model.specs.declared.items.Bound.{Bound}
use Rattle.problem_model.specs.declared.items.Bound.TheVariants as bounds
use Rattle.problem_model.specs.declared.items.Bound.TheVariants.{SpanMost, SpanLeast, Late, Early, DelayMost, DelayLeast}
use Rattle.sync_graph.specs.declared.arc.Arc.{Arc}

-- a bound of this name is one on the real time from the first node to the second
abbrev pub JoinsNodes : Bound → Node → Node → Type 0
JoinsNodes (SpanMost clock s t) m n = (m ≡ nodes.Reading clock s) × (n ≡ nodes.Reading clock t)
JoinsNodes (SpanLeast clock s t) m n = (m ≡ nodes.Reading clock t) × (n ≡ nodes.Reading clock s)
JoinsNodes (Late e) m n = (clock : ℕ) × (stamp : ℕ) × (m ≡ nodes.Reading clock stamp) × (n ≡ nodes.Event e)
JoinsNodes (Early e) m n = (clock : ℕ) × (stamp : ℕ) × (m ≡ nodes.Event e) × (n ≡ nodes.Reading clock stamp)
JoinsNodes (bounds.Follow c s d t) m n = (m ≡ nodes.Reading d t) × (n ≡ nodes.Reading c s)
JoinsNodes (DelayMost send receive) m n = (m ≡ nodes.Event send) × (n ≡ nodes.Event receive)
JoinsNodes (DelayLeast send receive) m n = (m ≡ nodes.Event receive) × (n ≡ nodes.Event send)

-- the arc's name is that of a bound from its tail to its head
pub record IsNamed (all : List Node) (a : Arc) : Type 0 where
  pub tail : Node
  pub head : Node
  pub from : slice_get all a.from ≡ Some tail
  pub to : slice_get all a.to ≡ Some head
  pub joins : JoinsNodes a.name tail head
