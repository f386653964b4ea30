use Rattle.std.proofs.Common.{◌≡◌, ◌==◌, ◌∷◌, [], ◌++◌, List, All, Option, length, slice_get, sym, ap, subst, ◌∙◌}
use Rattle.std.specs.Prelude.{find}
use Rattle.sync_graph.specs.Graph.{table_of}
use Rattle.distances.specs.Searched.{nodes}
use Rattle.repair.specs.declared.slot.Slot.{Slot}
use Rattle.repair.specs.Slots.{KeptRows, slots_in, slot_of, behind, AreOwn, AreOwnRows, AreRowsOf, IsRowsOf}
use Rattle.repair.specs.Keeping.{with_slot}
use Rattle.repair.proofs.Found.{slot_at, slots_push}
use Rattle.repair.proofs.Slotting.{all_push, whole_push, own_last, rows_last, if_both}
use Rattle.repair.proofs.kept.Kept.keep.Goals as goal

pub returns-in-Some-clause-refused : goal.returns-in-Some-clause-refused
returns-in-Some-clause-refused g c =
    let t = c.in-Some.ensures.place in (
      t.0,
      ap (λ (k : KeptRows). slot_of k c.args.p) (sym c.self.view_is) ∙ ap (λ (xs : List (Option Slot)). find (λ s. s.node == c.args.p) (slots_in xs)) (sym c.deref.ensures.0) ∙ t.2,
      t.1,
      t.3,
      ap (λ (k : KeptRows). slice_get k.slots t.1) (sym c.self.view_is)
          ∙ slot_at c.self.inside.slots.items t.1 t.0 c.self.invariant.0 (ap (λ (xs : List (Option Slot)). slice_get xs t.1) (sym c.deref.ensures.0) ∙ t.4),
    )

pub invariant_of-self : goal.invariant_of-self
invariant_of-self g c = (
  subst (λ (xs : List (Option Slot)). length (slots_in xs) ≡ length xs) (sym c.push.ensures.items) (whole_push c.self.inside.slots.items c.new_slot-slot.result c.self.invariant.0),
  c.self.invariant.1,
)

pub returns-clause-takes : goal.returns-clause-takes
returns-clause-takes g c =
    let made : List Slot → KeptRows = λ xs. record { slots = xs; source = c.self.inside.source; present = c.self.inside.present; room = c.self.inside.room; found = c.self.inside.found.items } in (
      c.new_slot-slot.result,
      c.new_slot-slot.ensures.node,
      ap (λ (xs : List (Option Slot)). made (slots_in xs)) c.push.ensures.items ∙ ap made (slots_push c.self.inside.slots.items c.new_slot-slot.result)
          ∙ ap (λ (k : KeptRows). with_slot k c.new_slot-slot.result) c.self.view_is,
      c.new_slot-slot.ensures.takes,
    )

pub returns-clause-own : goal.returns-clause-own
returns-clause-own g c =
    let slots : List Slot = behind c.self.inside.source (slots_in c.self.inside.slots.items) in
    let own : AreOwn c.args.pool.now slots = subst (λ (k : KeptRows). AreOwnRows k c.args.pool.now) (sym c.self.view_is) c.requires.own in
    let more : behind c.self.inside.source (slots_in c.push.new.self.items) ≡ slots ++ c.new_slot-slot.result ∷ [] =
    ap (λ (xs : List (Option Slot)). behind c.self.inside.source (slots_in xs)) c.push.ensures.items ∙ all_push c.self.inside.source c.self.inside.slots.items c.new_slot-slot.result in
    subst (AreOwn c.new_slot-slot.new.pool) (sym more) (own_last c.args.pool.now c.new_slot-slot.new.pool c.new_slot-slot.result c.new_slot-slot.ensures.takes slots own)

pub returns-clause-rows : goal.returns-clause-rows
returns-clause-rows g c =
    let slots : List Slot = behind c.self.inside.source (slots_in c.self.inside.slots.items) in
    let own : AreOwn c.args.pool.now slots = subst (λ (k : KeptRows). AreOwnRows k c.args.pool.now) (sym c.self.view_is) c.requires.own in
    let more : behind c.self.inside.source (slots_in c.push.new.self.items) ≡ slots ++ c.new_slot-slot.result ∷ [] =
    ap (λ (xs : List (Option Slot)). behind c.self.inside.source (slots_in xs)) c.push.ensures.items ∙ all_push c.self.inside.source c.self.inside.slots.items c.new_slot-slot.result in
    if_both (λ s. AreRowsOf s.graph c.args.self.now c.args.pool.now) (λ s. IsRowsOf (nodes s) (table_of s.graph) c.new_slot-slot.new.pool c.new_slot-slot.result)
    (λ s. All (IsRowsOf (nodes s) (table_of s.graph) c.new_slot-slot.new.pool) (behind c.self.inside.source (slots_in c.push.new.self.items))) c.args.search.now
    (λ s before made.
    let rows : All (IsRowsOf (nodes s) (table_of s.graph) c.args.pool.now) slots = subst (λ (k : KeptRows). AreRowsOf s.graph k c.args.pool.now) (sym c.self.view_is) before in
    subst (λ (xs : List Slot). All (IsRowsOf (nodes s) (table_of s.graph) c.new_slot-slot.new.pool) xs) (sym more)
    (rows_last c.args.pool.now c.new_slot-slot.new.pool c.new_slot-slot.result c.new_slot-slot.ensures.takes slots own (nodes s) (table_of s.graph) rows made))
    c.requires.rows c.new_slot-slot.ensures.rows
