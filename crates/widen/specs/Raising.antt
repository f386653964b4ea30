-- What a pass over the bounds of a problem keeps. That what it proposes is true is said nowhere: it is judged.
use Rattle.std.specs.Prelude.{◌≡◌, ◌<◌, ◌≤◌, ◌^◌, length, All}
use Rattle.problem_model.specs.Problem.{ProblemLists}
use Rattle.problem_model.specs.Limits.{most_nodes}
use Rattle.widen.specs.declared.raising.Bounds.{Bounds}
use Rattle.widen.specs.declared.raising.Lasting.{Lasting}
use Rattle.widen.specs.declared.raising.Pass.{Pass}
use Rattle.widen.specs.Weighed.{IsNameOf}

-- the arcs of the graph are bounds of the problem
abbrev pub HoldsBounds : Bounds → Type 0
HoldsBounds b = All (IsNameOf b.problem.now) b.graph.now.arcs

-- the arcs, no more than there may be nodes, are bounds of the problem, and the widening is in range
pub record IsLastingOf (p : ProblemLists) (c : Lasting) : Type 0 where
  pub last : c.last < 2 ^ 62
  pub names : All (IsNameOf p) c.arcs.items
  pub few : length c.arcs.items ≤ most_nodes

-- there is one value for each node, and the widening is in range
pub record IsPassOf (b : Bounds) (pass : Pass) : Type 0 where
  pub nodes : length b.graph.now.nodes ≡ pass.rises
  pub extra : pass.extra < 2 ^ 62
  pub healed : IsLastingOf b.problem.now pass.healed
