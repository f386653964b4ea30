-- Nodes that are kept from now on.
use Rattle.std.specs.Prelude.{◌≡◌, ◌≢◌, ℕ, ◌+◌, ◌∷◌, [], ◌++◌, length, slice_get, Some, None}
use Rattle.row_pool.specs.Pool.{Pool, row_at, row_of, IsFree}
use Rattle.repair.specs.declared.slot.Slot.{Slot}
use Rattle.repair.specs.declared.keep.KeepError.{KeepError}
use Rattle.repair.specs.declared.keep.KeepError.TheVariants.{Already, Full}
use Rattle.repair.specs.Slots.{KeptRows, slot_of, HasRows}

-- two rows that were free are those of the slot; each other row is as before
pub record TakesRows (old new : Pool) (slot : Slot) : Type 0 where
  pub width : new.width ≡ old.width
  pub count : length new.rows ≡ length old.rows
  pub was_free : IsFree old slot.from × IsFree old slot.to
  pub has : HasRows new slot
  pub taken : (k : ℕ) → k ≢ slot.from → k ≢ slot.to → (row_at new k).taken ≡ (row_at old k).taken
  pub others : (k : ℕ) → k ≢ slot.from → k ≢ slot.to → row_of new k ≡ row_of old k

-- one slot more
abbrev pub with_slot : KeptRows → Slot → KeptRows
with_slot kept slot = record { slots = kept.slots ++ slot ∷ []; source = kept.source; present = kept.present; room = kept.room; found = kept.found }

-- the slot of the source
abbrev pub with_source : KeptRows → Slot → KeptRows
with_source kept slot = record { slots = kept.slots; source = Some slot; present = kept.present; room = kept.room; found = kept.found }

-- the slot of the node has this number, counted from 1
abbrev pub IsSlotNumber : KeptRows → ℕ → ℕ → Type 0
IsSlotNumber kept p place = (slot : Slot) × (slot_of kept p ≡ Some slot) × (k : ℕ) × (place ≡ k + 1) × (slice_get kept.slots k ≡ Some slot)

-- the node has this slot already, or it has none and there are eight
abbrev pub IsKeepRefused : KeptRows → ℕ → KeepError → Type 0
IsKeepRefused kept p (Already place) = IsSlotNumber kept p place
IsKeepRefused kept p Full = (slot_of kept p ≡ None) × (length kept.slots ≡ 8)
