-- Rows of a pool that are taken, and free ones that are left.
use Rattle.std.proofs.Common.{◌≡◌, ◌≢◌, ℕ, suc, ◌+◌, ◌<◌, ◌≤◌, Bool, true, false, not, cond, List, [], ◌∷◌, length, get_or, count_by, inl, inr, sym, ◌∙◌, ap, arith, length-set, get_or-set_same, get_or-set_other}
use Rattle.std.proofs.lemmas.Bool.{cases_Bool}
use Rattle.std.proofs.lemmas.List.Elements.{All-get_or, All-set}
use Rattle.std.proofs.lemmas.List.Sums.{sum_by-cons, sum_by-set}
use Rattle.row_pool.specs.Pool.{PoolRow, Pool, IsPool, row_at, row_of, IsFree, free_rows, marked}
use Rattle.repair.specs.declared.slot.Slot.{Slot}
use Rattle.repair.specs.Slots.{HasRows, HaveOwnRows}
use Rattle.repair.specs.Keeping.{TakesRows}

abbrev none : PoolRow
none = record { taken = false; cells = [] }

-- a row that is taken or free from now on
pub marked_own : (pool : Pool) (number : ℕ) (taken : Bool) → number < length pool.rows → row_at (marked pool number taken) number ≡ record { taken = taken; cells = row_of pool number }
marked_own pool number taken below = get_or-set_same pool.rows number (record { taken = taken; cells = row_of pool number }) none below

pub marked_other : (pool : Pool) (number other : ℕ) (taken : Bool) → other ≢ number → row_at (marked pool number taken) other ≡ row_at pool other
marked_other pool number other taken differ = get_or-set_other pool.rows number other (record { taken = taken; cells = row_of pool number }) none differ

pub marked_lawful : (pool : Pool) (number : ℕ) (taken : Bool) → IsPool pool → number < length pool.rows → IsPool (marked pool number taken)
marked_lawful pool number taken lawful below =
    let wide : length (row_of pool number) ≡ pool.width = All-get_or (λ (r : PoolRow). length r.cells ≡ pool.width) pool.rows number none below lawful.even in
    record {
      even = All-set (λ (r : PoolRow). length r.cells ≡ pool.width) pool.rows number (record { taken = taken; cells = row_of pool number }) wide lawful.even;
      few = rw length-set lawful.few;
      narrow = lawful.narrow;
    }

-- a free row that is taken is one free row less
pub marked_free : (pool : Pool) (number : ℕ) → IsFree pool number → free_rows (marked pool number true) + 1 ≡ free_rows pool
marked_free pool number free =
    let f : PoolRow → ℕ = λ r. cond (not r.taken) 1 0 in
    let new : PoolRow = record { taken = true; cells = row_of pool number } in
    let was : f (get_or pool.rows number none) ≡ 1 = ap (λ (b : Bool). cond (not b) 1 0) free.1 in
    let sum : free_rows (marked pool number true) + f (get_or pool.rows number none) ≡ free_rows pool + 0 = sum_by-set f pool.rows number new none free.0 in
    omega (arith, sum, was)

free_among : (rows : List PoolRow) → 1 ≤ count_by (λ row. not row.taken) rows → (n : ℕ) × (n < length rows) × ((get_or rows n none).taken ≡ false)
free_among [] some = absurd (let no : 1 ≤ 0 = some in omega arith)
free_among (row ∷ rows) some = elim (cases_Bool row.taken) [
  | inl taken ↦
      let f : PoolRow → ℕ = λ r. cond (not r.taken) 1 0 in
      let sum : count_by (λ r. not r.taken) (row ∷ rows) ≡ f row + count_by (λ r. not r.taken) rows = sum_by-cons f row rows in
      let here : f row ≡ 0 = ap (λ (b : Bool). cond (not b) 1 0) taken in
      let rest = free_among rows (omega (arith, some, sum, here)) in
      let below : suc rest.0 < suc (length rows) = omega (arith, rest.1) in (suc rest.0, below, rest.2)
  | inr free ↦ let below : 0 < suc (length rows) = omega arith in (0, below, free)
]

-- where the count of free rows is not 0 there is one
pub free_there : (pool : Pool) → 1 ≤ free_rows pool → (n : ℕ) × IsFree pool n
free_there pool some = let row = free_among pool.rows some in (row.0, (row.1, row.2))

-- where two rows are free the first can be taken, and then a second one
pub one_free : (pool : Pool) → 2 ≤ free_rows pool → ((n : ℕ) → IsFree pool n → ⊥) → ⊥
one_free pool two nobody = let row = free_there pool (omega arith) in nobody row.0 row.1

pub two_free : (pool mid : Pool) (number : ℕ) → 2 ≤ free_rows pool → IsFree pool number → mid ≡ marked pool number true → ((n : ℕ) → IsFree mid n → ⊥) → ⊥
two_free pool mid number two free is nobody =
    let less : free_rows (marked pool number true) + 1 ≡ free_rows pool = marked_free pool number free in
    let left : free_rows mid ≡ free_rows (marked pool number true) = ap free_rows is in
    let row = free_there mid (omega (arith, less, left)) in nobody row.0 row.1

-- a row that was free is none of those of slots
misses_free : (old : Pool) (k : ℕ) (other : Slot) → HasRows old other → IsFree old k → (other.from ≢ k) × (other.to ≢ k)
misses_free old k other has free = (
  λ e. absurd (let set : (row_at old k).taken ≡ true = ap (λ (j : ℕ). (row_at old j).taken) (sym e) ∙ has.from in let unset : (row_at old k).taken ≡ false = free.1 in cc),
  λ e. absurd (let set : (row_at old k).taken ≡ true = ap (λ (j : ℕ). (row_at old j).taken) (sym e) ∙ has.to in let unset : (row_at old k).taken ≡ false = free.1 in cc),
)

-- so a slot's own rows are as they were
module _ (old new : Pool) (slot : Slot) (takes : TakesRows old new slot) (other : Slot) (has : HasRows old other) where
  miss_from : (other.from ≢ slot.from) × (other.to ≢ slot.from)
  miss_from = misses_free old slot.from other has takes.was_free.0

  miss_to : (other.from ≢ slot.to) × (other.to ≢ slot.to)
  miss_to = misses_free old slot.to other has takes.was_free.1

  pub has_still : HasRows new other
  has_still = record { from = takes.taken other.from miss_from.0 miss_to.0 ∙ has.from; to = takes.taken other.to miss_from.1 miss_to.1 ∙ has.to; two = has.two }

  pub from_still : row_of new other.from ≡ row_of old other.from
  from_still = takes.others other.from miss_from.0 miss_to.0

  pub to_still : row_of new other.to ≡ row_of old other.to
  to_still = takes.others other.to miss_from.1 miss_to.1

  pub apart_of : HaveOwnRows other slot
  apart_of = record { from_from = miss_from.0; from_to = miss_to.0; to_from = miss_from.1; to_to = miss_to.1 }

  pub apart_from : HaveOwnRows slot other
  apart_from = record { from_from = λ e. miss_from.0 (sym e); from_to = λ e. miss_from.1 (sym e); to_from = λ e. miss_to.0 (sym e); to_to = λ e. miss_to.1 (sym e) }
