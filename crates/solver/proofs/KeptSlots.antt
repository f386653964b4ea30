-- Slots that stay, with rows that are changed or not, and slots that come.
use Rattle.std.proofs.Common.{◌≡◌, ◌<◌, ◌+◌, ℕ, true, List, [], ◌∷◌, ◌++◌, length, All, Result, Ok, Err, refl, sym, ap, subst, ◌∙◌, arith}
use Rattle.std.specs.Prelude.{Option, None, Some, OnOk, OnErr}
use Rattle.std.proofs.lemmas.List.Elements.{All-cons, All-push}
use Rattle.row_pool.specs.Pool.{Pool, free_rows}
use Rattle.repair.specs.declared.slot.Slot.{Slot}
use Rattle.repair.specs.declared.keep.KeepError.{KeepError}
use Rattle.repair.specs.Slots.{KeptRows, behind, all_slots, AreOwnRows, AreRowsOf, AreNodes, ChangesRowsOf}
use Rattle.repair.specs.Keeping.{TakesRows, with_slot, with_source}
use Rattle.repair.proofs.Found.{of_events}
use Rattle.solver.specs.Solver.{SolverLists}
use Rattle.solver.specs.Changes.{KeepsSlots}
use Rattle.solver.specs.Current.{IsCurrent}
use Rattle.solver.proofs.Lending.{free_same, two_less}
use Rattle.solver.proofs.Staying.{with_rows, current_with_rows, rows_now}

-- ---- slots that stay
pub rows_as_before : (slots : List Slot) (pool : Pool) → ChangesRowsOf slots pool pool
rows_as_before slots pool = record { width = refl; count = refl; taken = λ k. refl; others = λ k misses. refl }

pub keeps_slots : (old new : SolverLists) → new.kept.slots ≡ old.kept.slots → new.kept.source ≡ old.kept.source → new.kept.room ≡ old.kept.room → new.front ≡ old.front
    → ChangesRowsOf (all_slots old.kept) old.pool new.pool → IsCurrent new → KeepsSlots old new
keeps_slots old new slots source found front rows current = record {
  slots = slots;
  source = source;
  found = found;
  front = front;
  rows = rows;
  free = free_same new.pool.rows old.pool.rows rows.count rows.taken;
  current = current;
}

-- whatever becomes of the graph in between
pub keeps_after : (old mid new : SolverLists) → mid.kept ≡ old.kept → mid.pool ≡ old.pool → mid.front ≡ old.front → KeepsSlots mid new → KeepsSlots old new
keeps_after old mid new kept pool front keeps = record {
  slots = keeps.slots ∙ ap (λ (k : KeptRows). k.slots) kept;
  source = keeps.source ∙ ap (λ (k : KeptRows). k.source) kept;
  found = keeps.found ∙ ap (λ (k : KeptRows). k.room) kept;
  front = keeps.front ∙ front;
  rows = subst (λ (k : KeptRows). ChangesRowsOf (all_slots k) old.pool new.pool) kept (subst (λ (p : Pool). ChangesRowsOf (all_slots mid.kept) p new.pool) pool keeps.rows);
  free = keeps.free ∙ ap free_rows pool;
  current = keeps.current;
}

-- ---- slots that come
all_behind : (P : Slot → Type 0) (source : Option Slot) (slots : List Slot) (slot : Slot) → All P (behind source slots) → P slot → All P (behind source (slots ++ slot ∷ []))
all_behind P None slots slot all one = All-push P slots slot all one
all_behind P (Some source) slots slot all one = All-push P (source ∷ slots) slot all one

module _ (s : SolverLists) (current : IsCurrent s) (node : ℕ) (below : node < length s.graph.nodes) (pool : Pool) (front : ℕ) (long : front ≡ s.front) where
  module _ (slot : Slot) (of_node : slot.node ≡ node) (takes : TakesRows s.pool pool slot) where
    below_slot : slot.node < length s.graph.nodes
    below_slot = subst (λ (n : ℕ). n < length s.graph.nodes) (sym of_node) below

    with_kept : (kept : KeptRows) → AreNodes s.graph kept → kept.present ≡ s.kept.present → kept.room ≡ s.kept.room → AreOwnRows kept pool → (s.earliest.is_solved ≡ true → AreRowsOf s.graph kept pool)
        → IsCurrent (with_rows s pool kept front)
    with_kept kept nodes present room own rows =
        current_with_rows s current pool kept front own nodes present rows
        (omega (arith, takes.width)) (omega (arith, room)) (omega (arith, long))

    pub slot_current : (kept : KeptRows) → kept ≡ with_slot s.kept slot → AreOwnRows kept pool → (s.earliest.is_solved ≡ true → AreRowsOf s.graph kept pool) → IsCurrent (with_rows s pool kept front)
    slot_current kept is own rows =
        with_kept kept
        (subst (AreNodes s.graph) (sym is) (all_behind (λ (t : Slot). t.node < length s.graph.nodes) s.kept.source s.kept.slots slot current.set_up.nodes below_slot))
        (ap (λ (k : KeptRows). k.present) is) (ap (λ (k : KeptRows). k.room) is) own rows

    pub source_current : (kept : KeptRows) → kept ≡ with_source s.kept slot → AreOwnRows kept pool → (s.earliest.is_solved ≡ true → AreRowsOf s.graph kept pool) → IsCurrent (with_rows s pool kept front)
    source_current kept is own rows =
        with_kept kept
        (subst (AreNodes s.graph) (sym is) (All-cons (λ (t : Slot). t.node < length s.graph.nodes) slot s.kept.slots below_slot (of_events (λ (t : Slot). t.node < length s.graph.nodes) s.kept.source s.kept.slots current.set_up.nodes)))
        (ap (λ (k : KeptRows). k.present) is) (ap (λ (k : KeptRows). k.room) is) own rows

  refused_current : (kept : KeptRows) → kept ≡ s.kept → pool ≡ s.pool → IsCurrent (with_rows s pool kept front)
  refused_current kept same pool_same =
      subst (λ (p : Pool). IsCurrent (with_rows s p kept front)) (sym pool_same)
      (subst (λ (k : KeptRows). IsCurrent (with_rows s s.pool k front)) (sym same)
      (current_with_rows s current s.pool s.kept front current.set_up.own current.set_up.nodes refl (rows_now s current) (omega arith) (omega arith) (omega (arith, long))))

  pub keep_current : (kept : KeptRows) (r : Result ℕ KeepError) → OnOk r ((slot : Slot) × (slot.node ≡ node) × (kept ≡ with_slot s.kept slot) × TakesRows s.pool pool slot)
      → OnErr r ((kept ≡ s.kept) × (pool ≡ s.pool)) → AreOwnRows kept pool → (s.earliest.is_solved ≡ true → AreRowsOf s.graph kept pool) → IsCurrent (with_rows s pool kept front)
  keep_current kept (Ok place) takes same own rows = slot_current takes.0 takes.1 takes.3 kept takes.2 own rows
  keep_current kept (Err error) takes same own rows = refused_current kept same.0 same.1

pub keep_free : (old new : Pool) (node : ℕ) (was kept : KeptRows) (r : Result ℕ KeepError) → OnOk r ((slot : Slot) × (slot.node ≡ node) × (kept ≡ with_slot was slot) × TakesRows old new slot)
    → OnOk r (free_rows new + 2 ≡ free_rows old)
keep_free old new node was kept (Ok place) takes = two_less old new takes.0 takes.3
keep_free old new node was kept (Err error) takes = tt
