-- Rows that are repaired once arcs are withdrawn, one slot after the other.
use Rattle.std.proofs.Common.{◌≡◌, ℕ, Option, Some, None, ◌+◌, ◌≤◌, Bool, List, [], ◌∷◌, length, All, sum_by, refl, ap, subst, ◌∙◌, arith}
use Rattle.std.proofs.lemmas.List.Elements.{All-nil, All-cons, All-head, All-tail}
use Rattle.std.proofs.lemmas.List.Sums.{sum_by-cons}
use Rattle.sync_graph.specs.declared.arc.Arc.{Arc}
use Rattle.sync_graph.specs.Graph.{GraphLists, table_of}
use Rattle.row_pool.specs.declared.cell.Cell.{Cell}
use Rattle.row_pool.specs.Row.{cell_at}
use Rattle.row_pool.specs.Pool.{Pool}
use Rattle.repair.specs.RowWithdrawals.{IsAffectedFrom, IsAffectedTo}
use Rattle.repair.specs.declared.slot.Slot.{Slot}
use Rattle.repair.specs.Slots.{behind, HaveOwnRows, AreOwn, IsRowsOf, ChangesRowsOf}
use Rattle.repair.specs.Renewals.{Renews}
use Rattle.repair.specs.Withdrawals.{WereRows, MarksAffected, withdrawal_steps, TakesFewToWithdraw, AreMarkedAtMost, LeavesCells, ChangesFewCells, WritesFewPlaces, WithdrawsRows}
use Rattle.repair.proofs.Renewing.{IsSame, miss_from, miss_to, pairs-head, others_same, rows_same, rows_rest, both, unchanged, all_source, renews_none, renews_more, renews_behind, steps_of_one}

-- ---- what the rows were

pub were_head : (g : GraphLists) (removed : List Arc) (slot : Slot) (rest : List Slot) (pool : Pool) → WereRows g removed pool (slot ∷ rest) → WereRows g removed pool (slot ∷ [])
were_head g removed slot rest pool were =
    let P : Slot → Type 0 = IsRowsOf (length were.0.nodes) (table_of were.0) pool in
    (were.0, were.1, All-cons P slot [] (All-head P slot rest were.2) (All-nil P))

-- the rest of the slots has its rows still
pub were_rest : (g : GraphLists) (removed : List Arc) (slot : Slot) (rest : List Slot) (old mid : Pool) → AreOwn old (slot ∷ rest) → ChangesRowsOf (slot ∷ []) old mid
    → WereRows g removed old (slot ∷ rest) → WereRows g removed mid rest
were_rest g removed slot rest old mid own changes were = (were.0, were.1, rows_rest (length were.0.nodes) (table_of were.0) slot rest old mid own changes were.2)

pub were_source : (g : GraphLists) (removed : List Arc) (source : Option Slot) (slots : List Slot) (pool : Pool) → WereRows g removed pool (behind source slots) → WereRows g removed pool (behind source [])
were_source g removed source slots pool were = (were.0, were.1, all_source (IsRowsOf (length were.0.nodes) (table_of were.0) pool) source slots were.2)

pub were_events : (g : GraphLists) (removed : List Arc) (source : Option Slot) (slots : List Slot) (old mid : Pool) → AreOwn old (behind source slots) → Renews g (behind source []) old mid
    → WereRows g removed old (behind source slots) → WereRows g removed mid slots
were_events g removed None slots old mid own first were =
    let P : Slot → Type 0 = IsRowsOf (length were.0.nodes) (table_of were.0) old in
    let Q : Slot → Type 0 = IsRowsOf (length were.0.nodes) (table_of were.0) mid in
    (were.0, were.1, both P (IsSame old mid) Q slots (λ s is same. rows_same (length were.0.nodes) (table_of were.0) old mid s same is) were.2 (unchanged slots old mid first.changes))
were_events g removed (Some slot) slots old mid own first were = were_rest g removed slot slots old mid own first.changes were

-- ---- who is affected

-- a pool with the same rows has the same affected nodes
marks_same : (g : GraphLists) (removed : List Arc) (marks : ℕ → ℕ → Bool) (old mid : Pool) (slot : Slot) → IsSame old mid slot → MarksAffected g removed old marks slot → MarksAffected g removed mid marks slot
marks_same g removed marks old mid slot same m = record {
  from = λ k affected. m.from k (subst (λ (cs : List Cell). IsAffectedFrom g removed slot.node cs k) same.0 affected);
  to = λ k affected. m.to k (subst (λ (cs : List Cell). IsAffectedTo g removed slot.node cs k) same.1 affected);
}

all_marks_same : (g : GraphLists) (removed : List Arc) (marks : ℕ → ℕ → Bool) (old mid : Pool) (slots : List Slot) → All (IsSame old mid) slots → All (MarksAffected g removed old marks) slots
    → All (MarksAffected g removed mid marks) slots
all_marks_same g removed marks old mid slots same all =
    both (MarksAffected g removed old marks) (IsSame old mid) (MarksAffected g removed mid marks) slots (λ s m is. marks_same g removed marks old mid s is m) all same

-- the steps of both rows of one slot
pub few_rows : (before between after f t s : ℕ) → between ≤ before + f + 2 → after ≤ between + t + 2 → s ≡ (f + 2) + (t + 2) → after ≤ (before + s)
few_rows before between after f t s h k e = omega arith

-- ---- cells that are left alone

-- and stay so
cells_after : (marks : ℕ → ℕ → Bool) (old mid new : Pool) (slot : Slot) → IsSame mid new slot → LeavesCells marks old mid slot → LeavesCells marks old new slot
cells_after marks old mid new slot same c = record {
  from = λ k free. ap (λ (cs : List Cell). cell_at cs k) same.0 ∙ c.from k free;
  to = λ k free. ap (λ (cs : List Cell). cell_at cs k) same.1 ∙ c.to k free;
}

-- and were so before
cells_before : (marks : ℕ → ℕ → Bool) (old mid new : Pool) (slot : Slot) → IsSame old mid slot → LeavesCells marks mid new slot → LeavesCells marks old new slot
cells_before marks old mid new slot same c = record {
  from = λ k free. c.from k free ∙ ap (λ (cs : List Cell). cell_at cs k) same.0;
  to = λ k free. c.to k free ∙ ap (λ (cs : List Cell). cell_at cs k) same.1;
}

all_before : (marks : ℕ → ℕ → Bool) (old mid new : Pool) (slots : List Slot) → All (IsSame old mid) slots → All (LeavesCells marks mid new) slots → All (LeavesCells marks old new) slots
all_before marks old mid new slots same all =
    both (LeavesCells marks mid new) (IsSame old mid) (LeavesCells marks old new) slots (λ s c is. cells_before marks old mid new s is c) all same

-- ---- one slot after the other

pub withdraws_none : (g : GraphLists) (removed : List Arc) (pool : Pool) (found : List ℕ) (steps : ℕ) → WithdrawsRows g removed [] pool pool found found steps steps
withdraws_none g removed pool found steps = record { renews = renews_none g pool; few = λ marks all. omega arith; cells = λ marks all. All-nil (LeavesCells marks pool pool); places = λ marks most all at i l. refl }

few_more : (before between after a b c e : ℕ) → between ≤ before + a → after ≤ between + c → a ≡ b → e ≡ b + c → after ≤ (before + e)
few_more before between after a b c e h k p q = omega arith

pub withdraws_more : (g : GraphLists) (removed : List Arc) (slot : Slot) (rest : List Slot) (old mid new : Pool) (found listed last : List ℕ) (before between after : ℕ) → AreOwn old (slot ∷ rest) → IsRowsOf (length g.nodes) (table_of g) mid slot
    → ChangesRowsOf (slot ∷ []) old mid → TakesFewToWithdraw g removed (slot ∷ []) old before between → ChangesFewCells g removed (slot ∷ []) old mid → WritesFewPlaces g removed (slot ∷ []) old found listed → WithdrawsRows g removed rest mid new listed last between after
    → WithdrawsRows g removed (slot ∷ rest) old new found last before after
withdraws_more g removed slot rest old mid new found listed last before between after own is first few cells places then = record {
  renews = renews_more g slot rest old mid new own is first then.renews;
  few = λ marks all.
      let P : Slot → Type 0 = MarksAffected g removed old marks in
      let f : Slot → ℕ = withdrawal_steps g marks in
      let here : All P (slot ∷ []) = All-cons P slot [] (All-head P slot rest all) (All-nil P) in
      let there : All (MarksAffected g removed mid marks) rest = all_marks_same g removed marks old mid rest (others_same slot rest old mid (pairs-head slot rest own.apart) first) (All-tail P slot rest all) in
      few_more before between after (sum_by f (slot ∷ [])) (f slot) (sum_by f rest) (sum_by f (slot ∷ rest)) (few marks here) (then.few marks there) (steps_of_one f slot) (sum_by-cons f slot rest);
  cells = λ marks all.
      let P : Slot → Type 0 = MarksAffected g removed old marks in
      let apart : All (HaveOwnRows slot) rest = pairs-head slot rest own.apart in
      let here : All P (slot ∷ []) = All-cons P slot [] (All-head P slot rest all) (All-nil P) in
      let others : All (IsSame old mid) rest = others_same slot rest old mid apart first in
      let there : All (MarksAffected g removed mid marks) rest = all_marks_same g removed marks old mid rest others (All-tail P slot rest all) in
      let same : IsSame mid new slot = (then.renews.changes.others slot.from (miss_from slot rest apart), then.renews.changes.others slot.to (miss_to slot rest apart)) in
      All-cons (LeavesCells marks old new) slot rest (cells_after marks old mid new slot same (All-head (LeavesCells marks old mid) slot [] (cells marks here)))
      (all_before marks old mid new rest others (then.cells marks there));
  places = λ marks most all at i l.
      let P : Slot → Type 0 = MarksAffected g removed old marks in
      let Q : Slot → Type 0 = AreMarkedAtMost g marks most in
      let here : All P (slot ∷ []) = All-cons P slot [] (All-head P slot rest all) (All-nil P) in
      let there : All (MarksAffected g removed mid marks) rest = all_marks_same g removed marks old mid rest (others_same slot rest old mid (pairs-head slot rest own.apart) first) (All-tail P slot rest all) in
      then.places marks most there (All-tail Q slot rest at) i l ∙ places marks most here (All-cons Q slot [] (All-head Q slot rest at) (All-nil Q)) i l;
}

few_then : (before between after a : ℕ) → between ≤ before + 0 → after ≤ between + a → after ≤ (before + a)
few_then before between after a h k = omega arith

-- the slot of the source first, and then those of events
pub withdraws_behind : (g : GraphLists) (removed : List Arc) (source : Option Slot) (slots : List Slot) (old mid new : Pool) (found listed last : List ℕ) (before between after : ℕ) → AreOwn old (behind source slots)
    → WithdrawsRows g removed (behind source []) old mid found listed before between → WithdrawsRows g removed slots mid new listed last between after → WithdrawsRows g removed (behind source slots) old new found last before after
withdraws_behind g removed None slots old mid new found listed last before between after own first then = record {
  renews = renews_behind g None slots old mid new own first.renews then.renews;
  few = λ marks all.
      few_then before between after (sum_by (withdrawal_steps g marks) slots) (first.few marks (All-nil (MarksAffected g removed old marks)))
      (then.few marks (all_marks_same g removed marks old mid slots (unchanged slots old mid first.renews.changes) all));
  cells = λ marks all.
      let same : All (IsSame old mid) slots = unchanged slots old mid first.renews.changes in
      all_before marks old mid new slots same (then.cells marks (all_marks_same g removed marks old mid slots same all));
  places = λ marks most all at i l.
      then.places marks most (all_marks_same g removed marks old mid slots (unchanged slots old mid first.renews.changes) all) at i l
      ∙ first.places marks most (All-nil (MarksAffected g removed old marks)) (All-nil (AreMarkedAtMost g marks most)) i l;
}
withdraws_behind g removed (Some slot) slots old mid new found listed last before between after own first then =
    withdraws_more g removed slot slots old mid new found listed last before between after own (All-head (IsRowsOf (length g.nodes) (table_of g) mid) slot [] first.renews.rows) first.renews.changes first.few first.cells first.places then
