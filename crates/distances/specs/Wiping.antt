-- Rows that are wiped, and what tells of their cells until then.
use Rattle.std.specs.Prelude.{◌≡◌, ℕ, ◌<◌, ◌&&◌, not, Bool, true, false, ℤ, List, Option, All, Contains}
use Rattle.row_pool.specs.declared.cell.Cell.{Cell}
use Rattle.row_pool.specs.Row.{cell_at}
use Rattle.distances.specs.Relaxed.{waits_of}

-- no node is known
abbrev pub IsWiped : List Cell → Type 0
IsWiped row = (k : ℕ) → (cell_at row k).known ≡ false

-- whether a node is known and does not wait
abbrev pub rests : List Cell → List (Option ℤ) → ℕ → Bool
rests row front k = (cell_at row k).known && not (waits_of front k)

-- each node that rests is listed, and each that is listed is one of so many
pub record AreListed (nodes : ℕ) (row : List Cell) (front : List (Option ℤ)) (seen : List ℕ) : Type 0 where
  pub all : (k : ℕ) → rests row front k ≡ true → Contains seen k
  pub within : All (λ k. k < nodes) seen
