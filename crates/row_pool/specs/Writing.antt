-- What is written to rows that are lent.
use Rattle.std.specs.Prelude.{◌≡◌, ℕ, List, ◌++◌, length, take, drop}
use Rattle.std.specs.Borrow.{MutBor}
use Rattle.std.specs.Fn.{Once}
use Rattle.row_pool.specs.declared.cell.Cell.{Cell}
use Rattle.row_pool.specs.Pool.{Pool, row_of, with_cells}

-- what a function that writes two rows is handed, and what it leaves of them
abbrev pub Two : Type 0
Two = MutBor (List Cell) × (MutBor (List Cell) × Unit {0})

-- the function may be called with these two rows
abbrev pub TakesBoth : {F R : Type 0} → Once F Two R → F → List Cell → List Cell → Type 0
TakesBoth g f one two = (p q : MutBor (List Cell)) → p.now ≡ one → q.now ≡ two → g.pre f (p, (q, tt))

-- it was called with these two rows, and left these cells in them
pub record LeavesBoth {F : Type 0} (g : Once F Two (Unit {0} × Two)) (f : F) (one two one' two' : List Cell) : Type 0 where
  pub shown : Two
  pub shows : (shown.0.now ≡ one) × (shown.1.0.now ≡ two)
  pub left : Two
  pub met : g.post f shown (tt, left)
  pub leaves : (left.0.now ≡ one') × (left.1.0.now ≡ two')

-- the two rows have the cells that it left in them, and all else is as before
pub record WritesTwo {F : Type 0} (g : Once F Two (Unit {0} × Two)) (f : F) (old new : Pool) (first second : ℕ) : Type 0 where
  pub one : List Cell
  pub two : List Cell
  pub leaves : LeavesBoth g f (row_of old first) (row_of old second) one two
  pub wide : (length one ≡ old.width) × (length two ≡ old.width)
  pub written : new ≡ with_cells (with_cells old first one) second two

-- the list with other cells from a place on
abbrev pub put_cells : ℕ → List Cell → List Cell → List Cell
put_cells start cells part = take start cells ++ (part ++ drop (length part) (drop start cells))

-- the same of two parts of a list
pub record WritesParts {F : Type 0} (g : Once F Two (Unit {0} × Two)) (f : F) (old new : List Cell) (first second width : ℕ) : Type 0 where
  pub one : List Cell
  pub two : List Cell
  pub leaves : LeavesBoth g f (take width (drop first old)) (take width (drop second old)) one two
  pub wide : (length one ≡ width) × (length two ≡ width)
  pub written : new ≡ put_cells second (put_cells first old one) two
