-- What the rows of a slot tell of a node are its greatest differences.
use Rattle.std.proofs.Common.{◌≡◌, ℕ, ◌<◌, Bool, true, false, List, length, refl, ap}
use Rattle.std.specs.Prelude.{ℤ}
use Rattle.problem_model.specs.Executions.{IsExecution}
use Rattle.problem_model.specs.Parents.{Cells}
use Rattle.problem_model.proofs.Parents.{row_greatest, row_unbounded, towards_row_greatest, towards_row_unbounded}
use Rattle.sync_graph.specs.Graph.{GraphLists, IsGraph, table_of}
use Rattle.sync_graph.specs.InForce.{arcs_of}
use Rattle.sync_graph.proofs.InForce.{arcs_listed, arcs_within}
use Rattle.row_pool.specs.Row.{cells_of}
use Rattle.row_pool.specs.Reach.{known_reach}
use Rattle.row_pool.specs.Pool.{Pool, row_of}
use Rattle.repair.specs.declared.slot.Slot.{Slot}
use Rattle.repair.specs.Slots.{IsRowsOf}
use Rattle.distances.specs.Reaches.{IsReachIn}
use Rattle.repair.specs.Pairs.{IsPairIn, pair_in}

module _ (g : GraphLists) (is : IsGraph g) (xs : List ℤ) (executes : IsExecution (length g.nodes) (arcs_of g) xs) (pool : Pool) (slot : Slot)
    (rows : IsRowsOf (length g.nodes) (table_of g) pool slot) where
  abbrev here : Cells
  here = cells_of (row_of pool slot.from)

  abbrev there : Cells
  there = cells_of (row_of pool slot.to)

  up_by : (q : ℕ) → q < length g.nodes → (known : Bool) → here.known q ≡ known → IsReachIn g slot.node q (known_reach known (here.value q))
  up_by q below true known = row_greatest (length g.nodes) (table_of g) (arcs_of g) slot.node here (arcs_listed g is) rows.from xs (arcs_within g is) executes q known
  up_by q below false known = row_unbounded (length g.nodes) (table_of g) (arcs_of g) slot.node here (arcs_listed g is) rows.from xs (arcs_within g is) executes q below known

  down_by : (q : ℕ) → q < length g.nodes → (known : Bool) → there.known q ≡ known → IsReachIn g q slot.node (known_reach known (there.value q))
  down_by q below true known = towards_row_greatest (length g.nodes) (table_of g) (arcs_of g) slot.node there (arcs_listed g is) rows.to xs (arcs_within g is) executes q known
  down_by q below false known = towards_row_unbounded (length g.nodes) (table_of g) (arcs_of g) slot.node there (arcs_listed g is) rows.to xs (arcs_within g is) executes q below known

  pub pair_told : (q : ℕ) → IsPairIn g slot.node q (pair_in pool slot q)
  pair_told q = record {
    up = λ below. up_by q below (here.known q) refl;
    down = λ below. down_by q below (there.known q) refl;
    past = λ beyond. (ap (λ (b : Bool). known_reach b (here.value q)) (rows.from.past q beyond), ap (λ (b : Bool). known_reach b (there.value q)) (rows.to.past q beyond));
  }
