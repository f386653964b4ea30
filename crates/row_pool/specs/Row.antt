-- Rows as lists of cells.
use Rattle.std.specs.Prelude.{ℕ, false, List, [], pos, slice_index_or}
use Rattle.row_pool.specs.declared.cell.Cell.{Cell}
use Rattle.problem_model.specs.Parents.{Cells, no_parent}

-- the cell of a node that has no distance
abbrev pub unknown : Cell
unknown = record { value = pos 0; parent = no_parent; known = false }

-- the cell of a node, unknown past the list
abbrev pub cell_at : List Cell → ℕ → Cell
cell_at row node = slice_index_or row node unknown

-- what the list says of each node: of two cells at 0 and 5, of which the second is not known, that node 0 is known at 0
-- and no other node is
abbrev pub cells_of : List Cell → Cells
cells_of row = record { known = λ k. (cell_at row k).known; value = λ k. (cell_at row k).value; parent = λ k. (cell_at row k).parent }

-- what a row without cells says: no node is known
abbrev pub nothing_known : Cells
nothing_known = cells_of []
