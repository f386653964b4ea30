-- What a new reading is linked to.
use Rattle.std.specs.Prelude.{◌≡◌, ℕ, ◌<◌, List, None, IfSome}
use Rattle.problem_model.specs.declared.items.Node.TheVariants as nodes
use Rattle.problem_model.specs.declared.items.Bound.{Bound}
use Rattle.problem_model.specs.Problem.{ProblemLists}
use Rattle.problem_model.specs.Bounds.{ComesAfter}
use Rattle.sync_graph.specs.Graph.{GraphLists}
use Rattle.problem_graph.specs.Standing.{HasNode}
use Rattle.roster.specs.Entering.{reading_bounds}
use Rattle.roster.specs.Groups.{group_at}
use Rattle.roster.specs.Readings.{HasStamp}
use Rattle.roster.specs.Roster.{RosterLists}
use Rattle.session_graph.specs.declared.follows.Nearest.{Nearest}

-- the readings nearest to one of a clock are nodes: on its own clock, below and above it, or else on others, the later of which is one of so many
pub record AreThere (clocks : ℕ) (g : GraphLists) (place stamp : ℕ) (n : Nearest) : Type 0 where
  pub below : IfSome n.below (λ s. (s < stamp) × HasNode g (nodes.Reading place s))
  pub above : IfSome n.above (λ t. (stamp < t) × HasNode g (nodes.Reading place t))
  pub earlier : IfSome n.earlier (λ e. HasNode g (nodes.Reading e.0 e.1))
  pub later : IfSome n.later (λ e. HasNode g (nodes.Reading e.0 e.1))
  pub inside : IfSome n.later (λ e. e.0 < clocks)
  pub first : IfSome n.below (λ s. n.earlier ≡ None)
  pub last : IfSome n.above (λ t. n.later ≡ None)

-- the clocks of those on others come before and after it
pub record AreBeside (p : ProblemLists) (place : ℕ) (n : Nearest) : Type 0 where
  pub earlier : IfSome n.earlier (λ e. ComesAfter p e.0 place)
  pub later : IfSome n.later (λ e. ComesAfter p place e.0)

-- each reading that is a node is one that its clock has shown
abbrev pub ShowsNodes : RosterLists → GraphLists → Type 0
ShowsNodes r g = (clock stamp : ℕ) → HasNode g (nodes.Reading clock stamp) → HasStamp (group_at r.readings clock) stamp

-- the bounds between it and them
abbrev pub bounds_beside : ℕ → ℕ → Nearest → List Bound
bounds_beside place stamp n = reading_bounds place stamp n.below n.above n.earlier n.later
