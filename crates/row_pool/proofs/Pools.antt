-- Pools of which one row is written, taken or given back.
use Rattle.std.proofs.Common.{◌≡◌, ◌≢◌, ℕ, suc, ◌+◌, ◌<◌, true, false, List, [], ◌∷◌, ◌++◌, length, take, drop, map, max, replicate, inl, inr, ◌-◌, get_or, refl, sym, ap, ◌∙◌, arith, append-nil, add-one, length-set, get_or-set_same, get_or-set_other}
use Rattle.std.proofs.lemmas.List.{take_all, drop_all, drop_more, set_split, get_or_past, get_or_append_left, get_or_default, length-map}
use lib.ListN.{get_or-map}
use Rattle.std.proofs.lemmas.Bool.{cases_lt}
use Rattle.std.proofs.lemmas.List.Elements.{All-get_or, All-set}
use Rattle.row_pool.specs.declared.cell.Cell.{Cell}
use Rattle.row_pool.specs.Pool.{PoolRow, Pool, IsPool, row_at, row_of, IsTakenRow, laid_over, written_pool, with_cells, widened_row, free_row, grown}

abbrev none : PoolRow
none = record { taken = false; cells = [] }

laid_nil : (width : ℕ) (rows : List PoolRow) → laid_over width [] rows ≡ rows
laid_nil width [] = refl
laid_nil width (row ∷ rows) =
    let gone : take width [] ≡ [] = take_all width [] (omega arith) in
    let none_left : drop width [] ≡ [] = drop_all width [] (omega arith) in
    ap (λ (zs : List Cell). let r : PoolRow = record { taken = row.taken; cells = zs ++ row.cells } in r ∷ laid_over width (drop width []) rows) gone
    ∙ ap (λ (zs : List Cell). row ∷ laid_over width zs rows) none_left
    ∙ ap (λ (rs : List PoolRow). row ∷ rs) (laid_nil width rows)

laid_one : (width : ℕ) (cells : List Cell) (row : PoolRow) (rows : List PoolRow) → length cells ≡ width → length row.cells ≡ width
    → laid_over width cells (row ∷ rows) ≡ record { taken = row.taken; cells = cells } ∷ rows
laid_one width cells row rows e h =
    let all : take width cells ≡ cells = take_all width cells (omega arith) in
    let gone : drop (length cells) row.cells ≡ [] = drop_all (length cells) row.cells (omega arith) in
    let rest : drop width cells ≡ [] = drop_all width cells (omega arith) in
    let made : List Cell → PoolRow = λ zs. record { taken = row.taken; cells = zs } in
    ap (λ (zs : List Cell). made (zs ++ drop (length cells) row.cells) ∷ laid_over width (drop width cells) rows) all
    ∙ ap (λ (zs : List Cell). made (cells ++ zs) ∷ laid_over width (drop width cells) rows) gone
    ∙ ap (λ (zs : List Cell). made zs ∷ laid_over width (drop width cells) rows) (append-nil cells)
    ∙ ap (λ (zs : List Cell). made cells ∷ laid_over width zs rows) rest
    ∙ ap (λ (rs : List PoolRow). made cells ∷ rs) (laid_nil width rows)

-- cells of a whole row that are written are its cells, and no other row is changed
pub written_row : (pool : Pool) (number : ℕ) (cells : List Cell) → IsPool pool → number < length pool.rows → length cells ≡ pool.width
    → written_pool pool number cells ≡ with_cells pool number cells
written_row pool number cells lawful below e =
    let row : PoolRow = get_or pool.rows number none in
    let new : PoolRow = record { taken = row.taken; cells = cells } in
    let wide : length row.cells ≡ pool.width = All-get_or (λ (r : PoolRow). length r.cells ≡ pool.width) pool.rows number none below lawful.even in
    let made : List PoolRow → Pool = λ rs. record { width = pool.width; rows = rs } in
    let next : number + 1 ≡ suc number = add-one number in
    ap made
    (ap (λ (rs : List PoolRow). take number pool.rows ++ laid_over pool.width cells rs) (drop_more pool.rows number none below)
    ∙ ap (λ (rs : List PoolRow). take number pool.rows ++ rs) (laid_one pool.width cells row (drop (number + 1) pool.rows) e wide)
    ∙ ap (λ (n : ℕ). take number pool.rows ++ new ∷ drop n pool.rows) next
    ∙ sym (set_split pool.rows number new below))

-- a pool whose rows are set one by one stays a pool
pub with_cells_lawful : (pool : Pool) (number : ℕ) (cells : List Cell) → IsPool pool → length cells ≡ pool.width → IsPool (with_cells pool number cells)
with_cells_lawful pool number cells lawful e = record {
  even = All-set (λ (r : PoolRow). length r.cells ≡ pool.width) pool.rows number (record { taken = (row_at pool number).taken; cells = cells }) e lawful.even;
  few = rw length-set lawful.few;
  narrow = lawful.narrow;
}

pub own_cells : (pool : Pool) (number : ℕ) (cells : List Cell) → number < length pool.rows → row_of (with_cells pool number cells) number ≡ cells
own_cells pool number cells below =
    let new : PoolRow = record { taken = (row_at pool number).taken; cells = cells } in
    ap (λ (r : PoolRow). r.cells) (get_or-set_same pool.rows number new none below)

pub other_cells : (pool : Pool) (number other : ℕ) (cells : List Cell) → other ≢ number → row_at (with_cells pool number cells) other ≡ row_at pool other
other_cells pool number other cells differ = get_or-set_other pool.rows number other (record { taken = (row_at pool number).taken; cells = cells }) none differ

-- a number past the rows is no row that is taken
pub below_rows : (pool : Pool) (number : ℕ) → IsTakenRow pool number → number < length pool.rows
below_rows pool number taken =
    elim (cases_lt number (length pool.rows)) [
      | inl h ↦ h
      | inr h ↦ absurd (let e : false ≡ true = sym (ap (λ (r : PoolRow). r.taken) (get_or_past pool.rows number none h)) ∙ taken in cc)
    ]

-- a row that was there, in the pool that has grown
pub grown_row : (pool : Pool) (count nodes number : ℕ) → number < length pool.rows → row_at (grown pool count nodes) number ≡ widened_row (max pool.width nodes) (row_at pool number)
grown_row pool count nodes number below =
    let w : ℕ = max pool.width nodes in
    let front : List PoolRow = map (widened_row w) pool.rows in
    let counted : number < length front = rw length-map below in
    get_or_append_left front (replicate (count - length pool.rows) (free_row w)) none number counted
    ∙ get_or_default front number none (widened_row w none) counted
    ∙ get_or-map (widened_row w) pool.rows number none

pub grown_taken : (pool : Pool) (count nodes number : ℕ) → IsTakenRow pool number → IsTakenRow (grown pool count nodes) number
grown_taken pool count nodes number taken = ap (λ (r : PoolRow). r.taken) (grown_row pool count nodes number (below_rows pool number taken)) ∙ taken

pub grown_begins : (pool : Pool) (count nodes number : ℕ) → number < length pool.rows → (more : List Cell) × (row_of (grown pool count nodes) number ≡ row_of pool number ++ more)
grown_begins pool count nodes number below = (_, ap (λ (r : PoolRow). r.cells) (grown_row pool count nodes number below))
