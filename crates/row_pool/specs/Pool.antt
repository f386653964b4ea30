-- A pool of rows of cells.
use Rattle.std.specs.Prelude.{◌≡◌, ℕ, ◌-◌, ◌<◌, ◌≤◌, Bool, true, false, not, List, [], ◌∷◌, ◌++◌, length, take, drop, map, max, replicate, count_by, slice_set, slice_index_or, All}
use Rattle.problem_model.specs.Limits.{most_nodes}
use Rattle.row_pool.specs.declared.cell.Cell.{Cell}
use Rattle.row_pool.specs.Row.{unknown}

-- a row: whether it is taken, and its cells
pub record PoolRow : Type 0 where
  pub taken : Bool
  pub cells : List Cell

-- how many cells each row has, and the rows by their numbers
pub record Pool : Type 0 where
  pub width : ℕ
  pub rows : List PoolRow

-- each row is as wide as the pool says; there are at most 32 rows, of at most as many cells as a graph may have nodes
pub record IsPool (pool : Pool) : Type 0 where
  pub even : All (λ row. length row.cells ≡ pool.width) pool.rows
  pub few : length pool.rows ≤ 32
  pub narrow : pool.width ≤ most_nodes

-- the row of a number; where there is none, a free one without cells
abbrev pub row_at : Pool → ℕ → PoolRow
row_at pool number = slice_index_or pool.rows number (record { taken = false; cells = [] })

-- the cells of a row
abbrev pub row_of : Pool → ℕ → List Cell
row_of pool number = (row_at pool number).cells

-- the pool has a row of this number, and it is taken
abbrev pub IsTakenRow : Pool → ℕ → Type 0
IsTakenRow pool number = (row_at pool number).taken ≡ true

-- the pool has a row of this number, and it is free
abbrev pub IsFree : Pool → ℕ → Type 0
IsFree pool number = (number < length pool.rows) × ((row_at pool number).taken ≡ false)

-- how many rows are free
abbrev pub free_rows : Pool → ℕ
free_rows pool = count_by (λ row. not row.taken) pool.rows

-- the pool with other cells in one row
abbrev pub with_cells : Pool → ℕ → List Cell → Pool
with_cells pool number cells = record { width = pool.width; rows = slice_set pool.rows number (record { taken = (row_at pool number).taken; cells = cells }) }

-- the rows with cells laid over the front of theirs, one row after the other
abbrev pub laid_over : ℕ → List Cell → List PoolRow → List PoolRow
laid_over width cells [] = []
laid_over width cells (row ∷ rows) = record { taken = row.taken; cells = take width cells ++ drop (length cells) row.cells } ∷ laid_over width (drop width cells) rows

-- the pool once cells are written from the start of a row on
abbrev pub written_pool : Pool → ℕ → List Cell → Pool
written_pool pool number cells = record { width = pool.width; rows = take number pool.rows ++ laid_over pool.width cells (drop number pool.rows) }

-- the pool with one row taken, or given back
abbrev pub marked : Pool → ℕ → Bool → Pool
marked pool number taken = record { width = pool.width; rows = slice_set pool.rows number (record { taken = taken; cells = (row_at pool number).cells }) }

-- the row with unknown cells behind its own, up to this width
abbrev pub widened_row : ℕ → PoolRow → PoolRow
widened_row width row = record { taken = row.taken; cells = row.cells ++ replicate (width - length row.cells) unknown }

-- a free row of unknown cells
abbrev pub free_row : ℕ → PoolRow
free_row width = record { taken = false; cells = replicate width unknown }

-- the pool with at least so many rows of at least so many cells: its rows begin with their old cells, and all that is new is unknown and free
abbrev pub grown : Pool → ℕ → ℕ → Pool
grown pool count nodes = record { width = max pool.width nodes; rows = map (widened_row (max pool.width nodes)) pool.rows ++ replicate (count - length pool.rows) (free_row (max pool.width nodes)) }
