-- Values by which a search for two near nodes is guided: how much later each node is than one whose rows are known, the
-- source of a session, and how much earlier than the search's end.
use Rattle.std.specs.Prelude.{◌+◌, ◌≡◌, ℕ, ◌^◌, Bool, true, false, List, length, ℤ, pos, neg_ℤ, ◌+ℤ◌, ◌-ℤ◌, ◌≤ℤ◌}
use Rattle.std.specs.Int.{int_div_euclid}
use Rattle.problem_model.specs.Executions.{at, values_by}
use Rattle.problem_model.specs.Tables.{ArcTable, ObeysAll}
use Rattle.problem_model.specs.Limits.{path_bits}
use Rattle.problem_model.specs.Numbers.{IsUpTo}
use Rattle.row_pool.specs.declared.cell.Cell.{Cell}
use Rattle.row_pool.specs.Row.{cell_at}

-- the row from a node and the row towards it; a fence, which is a row of distances towards the search's end, and what a
-- node outside the fence is farther from that end than by the rows alone
pub record Guide : Type 0 where
  pub from : List Cell
  pub to : List Cell
  pub fence : List Cell
  pub beyond : ℤ

-- a number where it is known, and else another
abbrev pub told : Bool → ℤ → ℤ → ℤ
told true own other = own
told false own other = other

-- how much later a node is than that of the rows, at most and at least; where a row does not know the node, its value in
-- the earliest execution, and a number that no difference reaches
abbrev pub most_later : Cell → ℤ → ℤ
most_later from value = told from.known from.value (value +ℤ pos (2 ^ path_bits))

abbrev pub least_later : Cell → ℤ → ℤ
least_later to value = told to.known (neg_ℤ to.value) (value -ℤ pos (2 ^ path_bits))

-- half of their sum, rounded down
abbrev pub mean_of : Cell → Cell → ℤ → ℤ
mean_of from to value = int_div_euclid (most_later from value +ℤ least_later to value) (pos 2)

-- inside the fence how much earlier the node is than the search's end
abbrev pub fenced : Cell → ℤ → ℤ → ℤ
fenced cell mean beyond = told cell.known (neg_ℤ cell.value) (mean -ℤ beyond)

-- the value by which a node is ordered, over those of the earliest execution
abbrev pub guided_at : Guide → List ℤ → ℕ → ℤ
guided_at g values k = fenced (cell_at g.fence k) (mean_of (cell_at g.from k) (cell_at g.to k) (at values k)) g.beyond

abbrev pub guided_values : Guide → List ℤ → List ℤ
guided_values g values = values_by (guided_at g values) (length values)

-- the values of the earliest execution, or where there is a guide those by it
abbrev pub ordering : Bool → Guide → List ℤ → List ℤ
ordering false g values = values
ordering true g values = guided_values g values

-- the distances of the cells are small
abbrev pub AreSmallCells : List Cell → Type 0
AreSmallCells row = (k : ℕ) → (cell_at row k).known ≡ true → IsUpTo (path_bits + 3) (cell_at row k).value

-- no number of the guide is great
pub record IsSmallGuide (g : Guide) : Type 0 where
  pub from : AreSmallCells g.from
  pub to : AreSmallCells g.to
  pub fence : AreSmallCells g.fence
  pub beyond : IsUpTo path_bits g.beyond

-- distances from p that are known, and for all other nodes a number above their potential: together they obey the arcs
pub record IsFence (table : ArcTable) (p : ℕ) (e : ℕ → ℤ) (beyond : ℤ) (known : ℕ → Bool) (value : ℕ → ℤ) : Type 0 where
  pub obeyed : ObeysAll table (λ k. told (known k) (value k) (e k +ℤ beyond))
  pub low : (k : ℕ) → known k ≡ true → (e k -ℤ e p) ≤ℤ value k
  pub high : (k : ℕ) → known k ≡ true → value k ≤ℤ (e k +ℤ beyond)
