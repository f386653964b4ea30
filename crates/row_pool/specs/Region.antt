-- Rows that lie one behind the other in one list of cells.
use Rattle.std.specs.Prelude.{◌≡◌, ℕ, zero, suc, ◌*◌, ◌≤◌, Bool, List, [], ◌∷◌, ◌++◌, length, take, drop, replicate}
use Rattle.problem_model.specs.Limits.{most_nodes}
use Rattle.row_pool.specs.declared.cell.Cell.{Cell}
use Rattle.row_pool.specs.Row.{unknown}
use Rattle.row_pool.specs.Pool.{PoolRow, Pool}

-- a row for each flag, each cut off the front of what the one before it left
abbrev pub rows_cut : ℕ → List Bool → List Cell → List PoolRow
rows_cut width [] cells = []
rows_cut width (taken ∷ flags) cells = record { taken = taken; cells = take width cells } ∷ rows_cut width flags (drop width cells)

-- the pool of these rows
abbrev pub pool_of : ℕ → List Bool → List Cell → Pool
pool_of width flags cells = record { width = width; rows = rows_cut width flags cells }

-- there are as many cells as rows of this width have, and no more rows and no wider ones than a pool may have
pub record IsRegion (width : ℕ) (flags : List Bool) (cells : List Cell) : Type 0 where
  pub whole : length cells ≡ length flags * width
  pub few : length flags ≤ 32
  pub narrow : width ≤ most_nodes

-- the rows one behind the other, each with so many unknown cells behind its own
abbrev pub spaced : ℕ → ℕ → ℕ → List Cell → List Cell
spaced width more zero cells = []
spaced width more (suc rows) cells = (take width cells ++ replicate more unknown) ++ spaced width more rows (drop width cells)
