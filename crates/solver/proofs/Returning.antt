-- Rows that were lent and are given back.
use Rattle.std.proofs.Common.{◌≡◌, ◌≢◌, ℕ, ◌<◌, true, false, length, inl, inr, sym, subst, ◌∙◌, ap, length-set}
use Rattle.std.proofs.lemmas.Bool.{cases_eq}
use Rattle.row_pool.specs.Pool.{PoolRow, Pool, row_at, row_of, IsTakenRow, IsFree, marked}
use Rattle.row_pool.proofs.Pools.{below_rows}
use Rattle.repair.specs.declared.slot.Slot.{Slot}
use Rattle.repair.specs.Keeping.{TakesRows}
use Rattle.repair.proofs.Taking.{marked_own, marked_other}
use Rattle.solver.specs.Changes.{LeavesTaken}
use Rattle.solver.proofs.Lending.{free_same}

-- a row that was free is none that was taken
not_free : (pool : Pool) (j k : ℕ) → IsFree pool j → IsTakenRow pool k → k ≢ j
not_free pool j k free taken same =
    let set : (row_at pool j).taken ≡ true = ap (λ (i : ℕ). (row_at pool i).taken) (sym same) ∙ taken in
    let unset : (row_at pool j).taken ≡ false = free.1 in
    let z : ⊥ = cc in z

module _ (old mid : Pool) (slot : Slot) (takes : TakesRows old mid slot) where
  abbrev half : Pool
  half = marked mid slot.from false

  abbrev back : Pool
  back = marked half slot.to false

  below_to : slot.to < length half.rows
  below_to = subst (λ (n : ℕ). slot.to < n) (sym (length-set mid.rows slot.from (record { taken = false; cells = row_of mid slot.from }))) (below_rows mid slot.to takes.has.to)

  as_many : length back.rows ≡ length old.rows
  as_many =
      length-set half.rows slot.to (record { taken = false; cells = row_of half slot.to })
      ∙ length-set mid.rows slot.from (record { taken = false; cells = row_of mid slot.from }) ∙ takes.count

  flags : (k : ℕ) → (row_at back k).taken ≡ (row_at old k).taken
  flags k = elim (cases_eq k slot.to) [
    | inl to ↦
        ap (λ (j : ℕ). (row_at back j).taken) to ∙ ap (λ (r : PoolRow). r.taken) (marked_own half slot.to false below_to)
        ∙ sym takes.was_free.1.1 ∙ ap (λ (j : ℕ). (row_at old j).taken) (sym to)
    | inr not_to ↦ elim (cases_eq k slot.from) [
      | inl from ↦
          ap (λ (r : PoolRow). r.taken) (marked_other half slot.to k false not_to) ∙ ap (λ (j : ℕ). (row_at half j).taken) from
          ∙ ap (λ (r : PoolRow). r.taken) (marked_own mid slot.from false (below_rows mid slot.from takes.has.from))
          ∙ sym takes.was_free.0.1 ∙ ap (λ (j : ℕ). (row_at old j).taken) (sym from)
      | inr not_from ↦
          ap (λ (r : PoolRow). r.taken) (marked_other half slot.to k false not_to)
          ∙ ap (λ (r : PoolRow). r.taken) (marked_other mid slot.from k false not_from) ∙ takes.taken k not_from not_to
    ]
  ]

  -- the two rows of a slot are free again, and what they hold is all that may differ
  pub given_up : LeavesTaken old (marked (marked mid slot.from false) slot.to false)
  given_up = record {
    width = takes.width;
    count = as_many;
    taken = flags;
    free = free_same back.rows old.rows as_many flags;
    cells = λ k taken.
        let not_from = not_free old slot.from k takes.was_free.0 taken in
        let not_to = not_free old slot.to k takes.was_free.1 taken in
        ap (λ (r : PoolRow). r.cells) (marked_other half slot.to k false not_to)
        ∙ ap (λ (r : PoolRow). r.cells) (marked_other mid slot.from k false not_from) ∙ takes.others k not_from not_to;
  }
