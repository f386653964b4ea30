-- The clearing of the cells that a withdrawal affects. Where arc 1 of the example in Facing of `distances` is
-- withdrawn, the cells of nodes 2 and 1 in the row from 0 are cleared; node 1 is pulled along arc 0, and the row is 0,
-- 5, unknown.
use Rattle.std.specs.Prelude.{◌≡◌, ◌≢◌, ℕ, ◌+◌, ◌<◌, ◌⊎◌, Bool, true, List, length, slice_index_or, slice_set}
use Rattle.problem_model.specs.Parents.{Cells, IsRow}
use Rattle.row_pool.specs.declared.cell.Cell.{Cell}
use Rattle.row_pool.specs.Row.{unknown, cell_at, cells_of}
use Rattle.sync_graph.specs.declared.arc.Arc.{Arc}
use Rattle.sync_graph.specs.Graph.{GraphLists, arc_at}
use Rattle.sync_graph.specs.Lists.{list_at}
use Rattle.withdrawals.specs.Regrowths.{earlier, IsShrunk, IsMarkingIn}
use Rattle.earliest.specs.Withdrawn.{found_at}
use Rattle.distances.specs.declared.side.Side.{Side}
use Rattle.distances.specs.Facing.{facing, followed}
use Rattle.repair.specs.RowWithdrawals.{IsRemoved}

-- the row before, of the arcs in force and those removed
pub record IsRowBefore (g : GraphLists) (side : Side) (was : ℕ → Bool) (removed : List Arc) (p : ℕ) (old : Cells) : Type 0 where
  pub shrunk : IsShrunk (facing side g) was (IsRemoved g removed)
  pub below : (j : ℕ) → was j ≡ true → j < length g.arcs
  pub row : IsRow (length g.nodes) (earlier (facing side g) was) p old

-- how far the search for affected cells has come
abbrev pub IsMarkingOf : GraphLists → Side → List Arc → ℕ → Cells → List Cell → (ℕ → Bool) → List ℕ → ℕ → ℕ → Type 0
IsMarkingOf g side removed p old row marked found count done = IsMarkingIn (length g.nodes) (facing side g) (IsRemoved g removed) p old (cells_of row) marked (found_at found) count done

-- the node is known, and has the arc of this number as parent
abbrev pub IsChildBy : List Cell → ℕ → ℕ → Type 0
IsChildBy row node arc = ((cell_at row node).known ≡ true) × ((cell_at row node).parent ≡ arc)

-- the node is known, and has a parent that equals this arc
abbrev pub IsChildOf : GraphLists → List Cell → ℕ → Arc → Type 0
IsChildOf g row node a = ((cell_at row node).known ≡ true) × ((cell_at row node).parent < length g.arcs) × (arc_at g.arcs (cell_at row node).parent ≡ a)

-- the cell of the node is cleared, and the node is listed
pub record IsClearedAt (row row' : List Cell) (found found' : List ℕ) (count node result : ℕ) : Type 0 where
  pub row_is : row' ≡ slice_set row node unknown
  pub found_is : found' ≡ slice_set found count node
  pub one_more : result ≡ count + 1

-- nothing changes
pub record IsLeftAlone (row row' : List Cell) (found found' : List ℕ) (count result : ℕ) : Type 0 where
  pub row_is : row' ≡ row
  pub found_is : found' ≡ found
  pub as_many : result ≡ count

-- the node is cleared where this is so, and else all is as before
abbrev pub IsClearedIf : Type 0 → List Cell → List Cell → List ℕ → List ℕ → ℕ → ℕ → ℕ → Type 0
IsClearedIf why row row' found found' count node result =
    (IsLeftAlone row row' found found' count result × (why → ⊥))
    ⊎ (IsClearedAt row row' found found' count node result × why)

-- the first so many removed arcs are seen: who had one of them as parent is marked
pub record AreSeeded (g : GraphLists) (side : Side) (k : ℕ) (removed : List Arc) (p : ℕ) (old : Cells) (row : List Cell) (marks : ℕ → Bool) (found : List ℕ) (count : ℕ) : Type 0 where
  pub marking : IsMarkingOf g side removed p old row marks found count 0
  pub seeds : (m : ℕ) → m < k → (x : ℕ) → x ≢ p → old.known x ≡ true → arc_at g.arcs (old.parent x) ≡ arc_at removed m → marks x ≡ true

-- the first so many of the node's arcs are seen: who had one of them as parent is marked
pub record IsSeenOf (g : GraphLists) (side : Side) (node k : ℕ) (removed : List Arc) (p : ℕ) (old : Cells) (row : List Cell) (marked marks : ℕ → Bool) (found : List ℕ) (count done : ℕ) : Type 0 where
  pub marking : IsMarkingOf g side removed p old row marks found count done
  pub keeps : (x : ℕ) → marked x ≡ true → marks x ≡ true
  pub here : (m : ℕ) → m < k → (x : ℕ) → x ≢ p → old.known x ≡ true → old.parent x ≡ slice_index_or (list_at (followed side g) node) m 0 → marks x ≡ true
