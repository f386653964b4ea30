use Rattle.std.proofs.Common.{◌<◌, All, sym, subst}
use Rattle.distances.specs.Searched.{nodes}
use Rattle.repair.specs.declared.slot.Slot.{Slot}
use Rattle.repair.specs.Slots.{KeptRows, slots_in, behind, all_slots, AreOwn, AreOwnRows, ChangesRowsOf}
use Rattle.repair.specs.Renewals.{Renews}
use Rattle.repair.proofs.Renewing.{own_still}
use Rattle.repair.proofs.Turning.{can_still}
use Rattle.repair.proofs.Whole.{own_one, all_one, all_rest, own_others, renews_whole}
use Rattle.repair.proofs.kept.Kept.refresh.Goals as goal

pub make_all-requires-clause-own : goal.make_all-requires-clause-own
make_all-requires-clause-own g c =
    let own : AreOwn c.args.pool.now (behind c.self.inside.source (slots_in c.self.inside.slots.items)) = subst (λ (k : KeptRows). AreOwnRows k c.args.pool.now) (sym c.self.view_is) c.requires.own in
    own_one c.self.inside.source c.self.inside.slots.items c.from_ref.result.now c.from_ref.ensures.value c.args.pool.now own

pub make_all-requires-clause-below : goal.make_all-requires-clause-below
make_all-requires-clause-below g c =
    all_one c.self.inside.source c.self.inside.slots.items c.from_ref.result.now c.from_ref.ensures.value (λ (s : Slot). s.node < nodes c.args.search.now)
    (subst (λ (k : KeptRows). All (λ (s : Slot). s.node < nodes c.args.search.now) (all_slots k)) (sym c.self.view_is) c.requires.nodes)

pub make_all-requires-2-clause-own : goal.make_all-requires-2-clause-own
make_all-requires-2-clause-own g c =
    let own : AreOwn c.args.pool.now (behind c.self.inside.source (slots_in c.self.inside.slots.items)) = subst (λ (k : KeptRows). AreOwnRows k c.args.pool.now) (sym c.self.view_is) c.requires.own in
    own_others c.self.inside.source c.self.inside.slots.items c.from_ref.result.now c.from_ref.ensures.value c.deref.result.now c.deref.ensures.0 c.args.search.now.graph c.args.pool.now c.make_all.new.pool own c.make_all.ensures.renews

pub make_all-requires-2-clause-below : goal.make_all-requires-2-clause-below
make_all-requires-2-clause-below g c =
    all_rest c.self.inside.source c.self.inside.slots.items c.from_ref.result.now c.from_ref.ensures.value c.deref.result.now c.deref.ensures.0 (λ (s : Slot). s.node < nodes c.args.search.now)
    (subst (λ (k : KeptRows). All (λ (s : Slot). s.node < nodes c.args.search.now) (all_slots k)) (sym c.self.view_is) c.requires.nodes)

pub make_all-requires-2-clause-can : goal.make_all-requires-2-clause-can
make_all-requires-2-clause-can g c =
    can_still c.args.search.now c.args.pool.now c.make_all.new.pool c.args.queue.now c.make_all.new.queue c.requires.can c.make_all.ensures.renews.changes.width c.make_all.ensures.queue

pub returns-clause-own : goal.returns-clause-own
returns-clause-own g c =
    let own : AreOwn c.args.pool.now (behind c.self.inside.source (slots_in c.self.inside.slots.items)) = subst (λ (k : KeptRows). AreOwnRows k c.args.pool.now) (sym c.self.view_is) c.requires.own in
    let all = renews_whole c.self.inside.source c.self.inside.slots.items c.from_ref.result.now c.from_ref.ensures.value c.deref.result.now c.deref.ensures.0 c.args.search.now.graph c.args.pool.now c.make_all.new.pool own c.make_all.ensures.renews c.make_all-2.new.pool c.make_all-2.ensures.renews in
    own_still (behind c.self.inside.source (slots_in c.self.inside.slots.items)) c.args.pool.now c.make_all-2.new.pool (behind c.self.inside.source (slots_in c.self.inside.slots.items)) own all.changes

pub returns-clause-rows : goal.returns-clause-rows
returns-clause-rows g c =
    let own : AreOwn c.args.pool.now (behind c.self.inside.source (slots_in c.self.inside.slots.items)) = subst (λ (k : KeptRows). AreOwnRows k c.args.pool.now) (sym c.self.view_is) c.requires.own in
    (renews_whole c.self.inside.source c.self.inside.slots.items c.from_ref.result.now c.from_ref.ensures.value c.deref.result.now c.deref.ensures.0 c.args.search.now.graph c.args.pool.now c.make_all.new.pool own c.make_all.ensures.renews c.make_all-2.new.pool c.make_all-2.ensures.renews).rows

pub returns-clause-others : goal.returns-clause-others
returns-clause-others g c =
    let own : AreOwn c.args.pool.now (behind c.self.inside.source (slots_in c.self.inside.slots.items)) = subst (λ (k : KeptRows). AreOwnRows k c.args.pool.now) (sym c.self.view_is) c.requires.own in
    let all : Renews c.args.search.now.graph (behind c.self.inside.source (slots_in c.self.inside.slots.items)) c.args.pool.now c.make_all-2.new.pool =
    renews_whole c.self.inside.source c.self.inside.slots.items c.from_ref.result.now c.from_ref.ensures.value c.deref.result.now c.deref.ensures.0 c.args.search.now.graph c.args.pool.now c.make_all.new.pool own c.make_all.ensures.renews c.make_all-2.new.pool c.make_all-2.ensures.renews in
    subst (λ (k : KeptRows). ChangesRowsOf (all_slots k) c.args.pool.now c.make_all-2.new.pool) c.self.view_is all.changes
