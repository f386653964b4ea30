use Rattle.std.proofs.Common.{◌≡◌, ◌∷◌, List, All, sym, ap, subst, ◌∙◌}
use Rattle.sync_graph.specs.Graph.{table_of}
use Rattle.distances.specs.Searched.{nodes}
use Rattle.repair.specs.declared.slot.Slot.{Slot}
use Rattle.repair.specs.Slots.{slots_in, behind, all_slots, AreOwn, AreRowsOf, IsRowsOf}
use Rattle.repair.proofs.Slotting.{own_first, rows_first, if_both}
use Rattle.repair.proofs.kept.Kept.keep_source.Goals as goal

pub returns-clause-own : goal.returns-clause-own
returns-clause-own g c =
    let events : all_slots c.args.self.now ≡ slots_in c.self.inside.slots.items = ap (λ s. behind s c.args.self.now.slots) c.requires.none ∙ ap (λ k. k.slots) (sym c.self.view_is) in
    own_first c.args.pool.now c.new_slot-slot.new.pool c.new_slot-slot.result c.new_slot-slot.ensures.takes (slots_in c.self.inside.slots.items) (subst (AreOwn c.args.pool.now) events c.requires.own)

pub returns-clause-rows : goal.returns-clause-rows
returns-clause-rows g c =
    let events : all_slots c.args.self.now ≡ slots_in c.self.inside.slots.items = ap (λ s. behind s c.args.self.now.slots) c.requires.none ∙ ap (λ k. k.slots) (sym c.self.view_is) in
    if_both (λ s. AreRowsOf s.graph c.args.self.now c.args.pool.now) (λ s. IsRowsOf (nodes s) (table_of s.graph) c.new_slot-slot.new.pool c.new_slot-slot.result)
    (λ s. All (IsRowsOf (nodes s) (table_of s.graph) c.new_slot-slot.new.pool) (c.new_slot-slot.result ∷ slots_in c.self.inside.slots.items)) c.args.search.now
    (λ s rows made. rows_first c.args.pool.now c.new_slot-slot.new.pool c.new_slot-slot.result c.new_slot-slot.ensures.takes (slots_in c.self.inside.slots.items) (subst (AreOwn c.args.pool.now) events c.requires.own)
    (nodes s) (table_of s.graph) (subst (λ (xs : List Slot). All (IsRowsOf (nodes s) (table_of s.graph) c.args.pool.now) xs) events rows) made)
    c.requires.rows c.new_slot-slot.ensures.rows
