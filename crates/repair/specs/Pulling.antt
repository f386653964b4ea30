-- The pull of cleared cells, as the code does it.
use Rattle.std.specs.Prelude.{◌+◌, ◌≡◌, ℕ, true, false, List, length, ℤ, Option}
use Rattle.row_pool.specs.declared.cell.Cell.{Cell}
use Rattle.row_pool.specs.Row.{cell_at, cells_of}
use Rattle.problem_model.specs.Numbers.{IsUpTo}
use Rattle.problem_model.specs.Limits.{path_bits}
use Rattle.sync_graph.specs.Graph.{GraphLists}
use Rattle.sync_graph.specs.Lists.{list_at}
use Rattle.withdrawals.specs.Regrowths.{IsPulling, IsTrying}
use Rattle.earliest.specs.Withdrawn.{found_at}
use Rattle.distances.specs.declared.side.Side.{Side}
use Rattle.distances.specs.Facing.{opposite, facing, followed}
use Rattle.distances.specs.Relaxed.{waits_of, IsRelaxedBy}

-- how many arcs are followed from a node
abbrev pub onward : Side → GraphLists → ℕ → ℕ
onward side g node = length (list_at (followed side g) node)

-- what is known and rests is at most 2^119 in absolute value
abbrev pub AreSmallAtRest : List Cell → List (Option ℤ) → Type 0
AreSmallAtRest row front = (k : ℕ) → (cell_at row k).known ≡ true → waits_of front k ≡ false → IsUpTo (path_bits + 1) (cell_at row k).value

-- the tail of the arc has nothing to give, and all is as before
pub record IsIdle (g : GraphLists) (side : Side) (arc : ℕ) (row row' : List Cell) (front front' : List (Option ℤ)) : Type 0 where
  pub row_is : row' ≡ row
  pub front_is : front' ≡ front
  pub why : (cell_at row ((facing side g).arc arc).from).known ≡ true → waits_of front ((facing side g).arc arc).from ≡ true

-- the head of the arc is offered the distance along it, from a tail that is known and rests
pub record IsPulledBy (g : GraphLists) (side : Side) (arc : ℕ) (row row' : List Cell) (front front' : List (Option ℤ)) : Type 0 where
  pub known : (cell_at row ((facing side g).arc arc).from).known ≡ true
  pub rests : waits_of front ((facing side g).arc arc).from ≡ false
  pub relaxed : IsRelaxedBy (facing side g) (cell_at row ((facing side g).arc arc).from).value arc row row' front front'

-- the first so many of the arcs to a node are tried
abbrev pub IsTryingIn : GraphLists → Side → ℕ → ℕ → List Cell → List Cell → List (Option ℤ) → List (Option ℤ) → Type 0
IsTryingIn g side node count row row' front front' = IsTrying (facing side g) node (list_at (followed (opposite side) g) node) count (cells_of row) (cells_of row') (waits_of front) (waits_of front')

-- the first so many of the cleared nodes are pulled
abbrev pub IsPullingIn : GraphLists → Side → List ℕ → ℕ → List Cell → List Cell → List (Option ℤ) → Type 0
IsPullingIn g side found count old row front = IsPulling (facing side g) (found_at found) count (cells_of old) (cells_of row) (waits_of front)
