-- A free row that is lent for a question.
use Rattle.std.proofs.Common.{◌≡◌, ◌≢◌, ◌<◌, ◌+◌, ℕ, suc, Bool, true, false, not, cond, List, [], ◌∷◌, length, get_or, count_by, All, refl, sym, ap, subst, ◌∙◌, inl, inr, arith, length-set, get_or-set_same}
use Rattle.std.proofs.lemmas.Bool.{cases_eq}
use Rattle.std.proofs.lemmas.List.Elements.{All-weaker}
use Rattle.std.proofs.lemmas.List.Sums.{sum_by-cons}
use Rattle.row_pool.specs.declared.cell.Cell.{Cell}
use Rattle.row_pool.specs.Pool.{PoolRow, Pool, IsPool, row_at, row_of, IsTakenRow, IsFree, free_rows, marked, written_pool, with_cells}
use Rattle.row_pool.proofs.Pools.{written_row, other_cells, below_rows}
use Rattle.repair.specs.declared.slot.Slot.{Slot}
use Rattle.repair.specs.Slots.{HasRows, AreOwn, IsRowsOf}
use Rattle.repair.specs.Keeping.{TakesRows}
use Rattle.repair.proofs.Taking.{marked_own, marked_other, marked_lawful, marked_free, free_there}
use Rattle.problem_model.specs.Parents.{IsRow}
use Rattle.problem_model.specs.Tables.{ArcTable, reversed_table}
use Rattle.row_pool.specs.Row.{cells_of}
use Rattle.distances.specs.Changes.{AreBlank}
use Rattle.solver.specs.Changes.{LeavesTaken}

abbrev none : PoolRow
none = record { taken = false; cells = [] }

-- where some row is free one can be taken
pub some_free : (pool : Pool) → 0 < free_rows pool → ((n : ℕ) → IsFree pool n → ⊥) → ⊥
some_free pool some none_is = let row = free_there pool (omega (arith, some)) in none_is row.0 row.1

-- rows of which as many are taken as of others
pub free_same : (rows others : List PoolRow) → length rows ≡ length others → ((k : ℕ) → (get_or rows k none).taken ≡ (get_or others k none).taken)
    → count_by (λ row. not row.taken) rows ≡ count_by (λ row. not row.taken) others
free_same [] [] as_many same = refl
free_same [] (other ∷ others) as_many same = absurd (let none_is : 0 ≡ suc (length others) = as_many in omega arith)
free_same (row ∷ rows) [] as_many same = absurd (let none_is : suc (length rows) ≡ 0 = as_many in omega arith)
free_same (row ∷ rows) (other ∷ others) as_many same =
    let f : PoolRow → ℕ = λ r. cond (not r.taken) 1 0 in
    let one : count_by (λ r. not r.taken) (row ∷ rows) ≡ f row + count_by (λ r. not r.taken) rows = sum_by-cons f row rows in
    let two : count_by (λ r. not r.taken) (other ∷ others) ≡ f other + count_by (λ r. not r.taken) others = sum_by-cons f other others in
    let here : f row ≡ f other = ap (λ (b : Bool). cond (not b) 1 0) (same 0) in
    let long : suc (length rows) ≡ suc (length others) = as_many in
    let rest = free_same rows others (omega (arith, long)) (λ k. same (suc k)) in
    omega (arith, one, two, here, rest)

-- the two rows that a slot takes are two free ones less
module _ (old new : Pool) (slot : Slot) (takes : TakesRows old new slot) where
  abbrev first : Pool
  first = marked old slot.from true

  second_free : IsFree first slot.to
  second_free = (
    subst (λ (n : ℕ). slot.to < n) (sym (length-set old.rows slot.from (record { taken = true; cells = row_of old slot.from }))) takes.was_free.1.0,
    ap (λ (r : PoolRow). r.taken) (marked_other old slot.from slot.to true (λ e. takes.has.two (sym e))) ∙ takes.was_free.1.1,
  )

  abbrev both : Pool
  both = marked first slot.to true

  flags_same : (k : ℕ) → (row_at new k).taken ≡ (row_at both k).taken
  flags_same k = elim (cases_eq k slot.to) [
    | inl to ↦
        ap (λ (j : ℕ). (row_at new j).taken) to ∙ takes.has.to
        ∙ sym (ap (λ (j : ℕ). (row_at both j).taken) to ∙ ap (λ (r : PoolRow). r.taken) (marked_own first slot.to true second_free.0))
    | inr not_to ↦ elim (cases_eq k slot.from) [
      | inl from ↦
          ap (λ (j : ℕ). (row_at new j).taken) from ∙ takes.has.from
          ∙ sym (ap (λ (r : PoolRow). r.taken) (marked_other first slot.to k true not_to)
          ∙ ap (λ (j : ℕ). (row_at first j).taken) from ∙ ap (λ (r : PoolRow). r.taken) (marked_own old slot.from true takes.was_free.0.0))
      | inr not_from ↦
          takes.taken k not_from not_to
          ∙ sym (ap (λ (r : PoolRow). r.taken) (marked_other first slot.to k true not_to) ∙ ap (λ (r : PoolRow). r.taken) (marked_other old slot.from k true not_from))
    ]
  ]

  pub two_less : free_rows new + 2 ≡ free_rows old
  two_less =
      let long : length new.rows ≡ length both.rows =
      takes.count ∙ sym (length-set first.rows slot.to (record { taken = true; cells = row_of first slot.to }) ∙ length-set old.rows slot.from (record { taken = true; cells = row_of old slot.from })) in
      let same : free_rows new ≡ free_rows both = free_same new.rows both.rows long flags_same in
      let one : free_rows first + 1 ≡ free_rows old = marked_free old slot.from takes.was_free.0 in
      let two : free_rows both + 1 ≡ free_rows first = marked_free first slot.to second_free in
      omega (arith, same, one, two)

-- a free row was taken, written and given back
module _ (pool : Pool) (lawful : IsPool pool) (row : ℕ) (cells : List Cell) (free : IsFree pool row) (wide : length cells ≡ pool.width) where
  abbrev lent : Pool
  lent = marked pool row true

  abbrev filled : Pool
  filled = written_pool lent row cells

  below_lent : row < length lent.rows
  below_lent = subst (λ (n : ℕ). row < n) (sym (length-set pool.rows row (record { taken = true; cells = row_of pool row }))) free.0

  lawful_lent : IsPool lent
  lawful_lent = marked_lawful pool row true lawful free.0

  is_filled : filled ≡ with_cells lent row cells
  is_filled = written_row lent row cells lawful_lent below_lent wide

  pub taken_filled : IsTakenRow filled row
  taken_filled =
      ap (λ (x : Pool). (row_at x row).taken) is_filled
      ∙ ap (λ (r : PoolRow). r.taken) (get_or-set_same lent.rows row (record { taken = (row_at lent row).taken; cells = cells }) none below_lent)
      ∙ ap (λ (r : PoolRow). r.taken) (marked_own pool row true free.0)

  below_filled : row < length filled.rows
  below_filled = below_rows filled row taken_filled

  other_row : (k : ℕ) → k ≢ row → row_at (marked filled row false) k ≡ row_at pool k
  other_row k differ =
      marked_other filled row k false differ
      ∙ ap (λ (x : Pool). row_at x k) is_filled
      ∙ other_cells lent row k cells differ
      ∙ marked_other pool row k true differ

  as_many_rows : length (marked filled row false).rows ≡ length pool.rows
  as_many_rows =
      length-set filled.rows row (record { taken = false; cells = row_of filled row })
      ∙ ap (λ (x : Pool). length x.rows) is_filled
      ∙ length-set lent.rows row (record { taken = (row_at lent row).taken; cells = cells })
      ∙ length-set pool.rows row (record { taken = true; cells = row_of pool row })

  taken_again : (k : ℕ) → (row_at (marked filled row false) k).taken ≡ (row_at pool k).taken
  taken_again k = elim (cases_eq k row) [
    | inl same ↦
        ap (λ (j : ℕ). (row_at (marked filled row false) j).taken) same
        ∙ ap (λ (r : PoolRow). r.taken) (marked_own filled row false below_filled)
        ∙ sym free.1 ∙ ap (λ (j : ℕ). (row_at pool j).taken) (sym same)
    | inr differ ↦ ap (λ (r : PoolRow). r.taken) (other_row k differ)
  ]

  pub given_back : LeavesTaken pool (marked filled row false)
  given_back = record {
    width = refl;
    count = as_many_rows;
    taken = taken_again;
    free = free_same (marked filled row false).rows pool.rows as_many_rows taken_again;
    cells = λ k taken. ap (λ (r : PoolRow). r.cells) (other_row k (λ same. (
        let set : (row_at pool row).taken ≡ true = ap (λ (j : ℕ). (row_at pool j).taken) (sym same) ∙ taken in
        let unset : (row_at pool row).taken ≡ false = free.1 in
        let z : ⊥ = cc in z)));
  }

-- ---- slots' rows are as they were

module _ (old new : Pool) (leaves : LeavesTaken old new) where
  pub own_left : (slots : List Slot) → AreOwn old slots → AreOwn new slots
  own_left slots own = record {
    taken = All-weaker (HasRows old) (HasRows new) (λ s has. record { from = leaves.taken s.from ∙ has.from; to = leaves.taken s.to ∙ has.to; two = has.two }) slots own.taken;
    apart = own.apart;
  }

  rows_of_slot : (nodes : ℕ) (table : ArcTable) (slot : Slot) → HasRows old slot → IsRowsOf nodes table old slot → IsRowsOf nodes table new slot
  rows_of_slot nodes table slot has rows =
      let from : row_of new slot.from ≡ row_of old slot.from = leaves.cells slot.from has.from in
      let to : row_of new slot.to ≡ row_of old slot.to = leaves.cells slot.to has.to in
      record {
        from = subst (λ (cs : List Cell). IsRow nodes table slot.node (cells_of cs)) (sym from) rows.from;
        to = subst (λ (cs : List Cell). IsRow nodes (reversed_table table) slot.node (cells_of cs)) (sym to) rows.to;
        blank_from = subst AreBlank (sym from) rows.blank_from;
        blank_to = subst AreBlank (sym to) rows.blank_to;
      }

  pub rows_left : (nodes : ℕ) (table : ArcTable) (slots : List Slot) → AreOwn old slots → All (IsRowsOf nodes table old) slots → All (IsRowsOf nodes table new) slots
  rows_left nodes table slots own rows k d below = rows_of_slot nodes table (get_or slots k d) (own.taken k d below) (rows k d below)
