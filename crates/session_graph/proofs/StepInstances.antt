-- A small graph of which the first node is kept: a node comes, an arc, and another one; then the first arc goes.
use Rattle.std.proofs.Common.{◌≡◌, ◌&&◌, ◌==◌, true, false, [], ◌∷◌, None, refl}
use Rattle.std.specs.Prelude.{pos, neg_ℤ}
use Rattle.problem_model.specs.declared.items.Node.TheVariants.{Event}
use Rattle.problem_model.specs.declared.items.Bound.TheVariants.{DelayLeast, DelayMost}
use Rattle.problem_model.specs.Parents.{no_parent}
use Rattle.sync_graph.specs.declared.arc.Arc.{Arc}
use Rattle.row_pool.specs.declared.cell.Cell.{Cell}
use Rattle.row_pool.specs.Row.{unknown}
use Rattle.repair.specs.Slots.{KeptRows}
use Rattle.solver.specs.Solver.{SolverLists}
use Rattle.solver.specs.Costs.{withdrawing_steps}
use Rattle.session_graph.specs.Extensions.{Extends, stage_steps, steps_of_stages}

-- the second event comes at least 3 before the first
abbrev arc : Arc
arc = record { from = 0; to = 1; weight = neg_ℤ (pos 3); name = DelayLeast 1 0 }

-- and at most 9 before it
abbrev loose : Arc
loose = record { from = 1; to = 0; weight = pos 9; name = DelayMost 1 0 }

abbrev own : Cell
own = record { value = pos 0; parent = no_parent; known = true }

-- the first event is kept, by rows 0 and 1
abbrev kept : KeptRows
kept = record { slots = record { node = 0; from = 0; to = 1 } ∷ []; source = None; present = true; room = 3; found = 0 ∷ 0 ∷ 0 ∷ [] }

abbrev between : SolverLists
between = record {
  graph = record { nodes = Event 0 ∷ Event 1 ∷ []; arcs = []; in_force = []; leaving = [] ∷ [] ∷ []; arriving = [] ∷ [] ∷ [] };
  earliest = record { values = pos 0 ∷ pos 0 ∷ []; is_solved = true; workspace = 0 ∷ 0 ∷ [] };
  contradiction = [];
  pool = record { width = 3; rows = record { taken = true; cells = own ∷ unknown ∷ unknown ∷ [] } ∷ record { taken = true; cells = own ∷ unknown ∷ unknown ∷ [] } ∷ [] };
  kept = kept;
  front = 3;
}

-- a third event has come
abbrev grown : SolverLists
grown = record between {
  graph = record { nodes = Event 0 ∷ Event 1 ∷ Event 2 ∷ []; arcs = []; in_force = []; leaving = [] ∷ [] ∷ [] ∷ []; arriving = [] ∷ [] ∷ [] ∷ [] };
  earliest = record { values = pos 0 ∷ pos 0 ∷ pos 0 ∷ []; is_solved = true; workspace = 0 ∷ 0 ∷ 0 ∷ [] };
}

-- and the arc: the first event is at 3 now, and from it the second one is known
abbrev joined : SolverLists
joined = record grown {
  graph = record { nodes = Event 0 ∷ Event 1 ∷ Event 2 ∷ []; arcs = arc ∷ []; in_force = true ∷ []; leaving = (0 ∷ []) ∷ [] ∷ [] ∷ []; arriving = [] ∷ (0 ∷ []) ∷ [] ∷ [] };
  earliest = record { values = pos 3 ∷ pos 0 ∷ pos 0 ∷ []; is_solved = true; workspace = 0 ∷ 0 ∷ 0 ∷ [] };
  pool = record { width = 3; rows = record { taken = true; cells = own ∷ record { value = neg_ℤ (pos 3); parent = 0; known = true } ∷ unknown ∷ [] } ∷ record { taken = true; cells = own ∷ unknown ∷ unknown ∷ [] } ∷ [] };
}

-- and the other one: no value changes, and the first event is known from the second
abbrev after : SolverLists
after = record joined {
  graph = record { nodes = Event 0 ∷ Event 1 ∷ Event 2 ∷ []; arcs = arc ∷ loose ∷ []; in_force = true ∷ true ∷ []; leaving = (0 ∷ []) ∷ (1 ∷ []) ∷ [] ∷ []; arriving = (1 ∷ []) ∷ (0 ∷ []) ∷ [] ∷ [] };
  pool = record {
    width = 3;
    rows = record { taken = true; cells = own ∷ record { value = neg_ℤ (pos 3); parent = 0; known = true } ∷ unknown ∷ [] }
        ∷ record { taken = true; cells = own ∷ record { value = pos 9; parent = 1; known = true } ∷ unknown ∷ [] } ∷ [];
  };
}

-- a stage extends the one before
grows : Extends grown joined
grows = record { nodes = ([], refl); arcs = (arc ∷ [], refl); in_force = (true ∷ [], refl); slots = refl; source = refl }

-- the node takes nothing
node : stage_steps between grown ≡ 0
node = refl

-- two, and two for the first node, which no arc reaches; and for the rows four, and two for the second node, which no arc leaves
first : stage_steps grown joined ≡ 10
first = refl

-- two; and for the rows four, and two and one arc for the second node in the row towards the first
second : stage_steps joined after ≡ 9
second = refl

-- the whole is the sum, and what stays as it was adds nothing
whole : steps_of_stages between (grown ∷ joined ∷ after ∷ []) ≡ 19
whole = refl

-- once the first arc is out of force
abbrev cut : SolverLists
cut = record joined { graph = record { nodes = Event 0 ∷ Event 1 ∷ Event 2 ∷ []; arcs = arc ∷ []; in_force = false ∷ []; leaving = [] ∷ [] ∷ [] ∷ []; arriving = [] ∷ [] ∷ [] ∷ [] } }

-- the first node is affected in the values, and the second one in the row from the first
part : withdrawing_steps joined cut (λ k. k == 0) (λ row k. (row == 0) && (k == 1)) ≡ 16
part = refl
