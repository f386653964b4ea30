use Rattle.std.proofs.Common.{All, sym, subst}
use Rattle.problem_model.specs.Tables.{without}
use Rattle.sync_graph.specs.Graph.{table_of}
use Rattle.distances.specs.Searched.{nodes}
use Rattle.repair.specs.Slots.{KeptRows, slots_in, behind, all_slots, AreOwn, AreOwnRows, IsRowsOf, ChangesRowsOf}
use Rattle.repair.specs.Renewals.{Repairs, TakesFewSteps}
use Rattle.repair.proofs.Renewing.{own_still}
use Rattle.repair.proofs.Turning.{can_still}
use Rattle.repair.proofs.Whole.{own_one, all_one, own_others, rows_others, repairs_whole}
use Rattle.repair.proofs.kept.Kept.after_insert.Goals as goal

pub repair_all-requires-clause-own : goal.repair_all-requires-clause-own
repair_all-requires-clause-own g c =
    let own : AreOwn c.args.pool.now (behind c.self.inside.source (slots_in c.self.inside.slots.items)) = subst (λ (k : KeptRows). AreOwnRows k c.args.pool.now) (sym c.self.view_is) c.requires.own in
    own_one c.self.inside.source c.self.inside.slots.items c.from_ref.result.now c.from_ref.ensures.value c.args.pool.now own

pub repair_all-requires-clause-before : goal.repair_all-requires-clause-before
repair_all-requires-clause-before g c =
    all_one c.self.inside.source c.self.inside.slots.items c.from_ref.result.now c.from_ref.ensures.value (IsRowsOf (nodes c.args.search.now) (without (table_of c.args.search.now.graph) c.args.arc) c.args.pool.now)
    (subst (λ (k : KeptRows). All (IsRowsOf (nodes c.args.search.now) (without (table_of c.args.search.now.graph) c.args.arc) c.args.pool.now) (all_slots k)) (sym c.self.view_is) c.requires.before)

pub repair_all-requires-2-clause-own : goal.repair_all-requires-2-clause-own
repair_all-requires-2-clause-own g c =
    let own : AreOwn c.args.pool.now (behind c.self.inside.source (slots_in c.self.inside.slots.items)) = subst (λ (k : KeptRows). AreOwnRows k c.args.pool.now) (sym c.self.view_is) c.requires.own in
    own_others c.self.inside.source c.self.inside.slots.items c.from_ref.result.now c.from_ref.ensures.value c.deref.result.now c.deref.ensures.0 c.args.search.now.graph c.args.pool.now c.repair_all.new.pool own c.repair_all.ensures.repairs.renews

pub repair_all-requires-2-clause-before : goal.repair_all-requires-2-clause-before
repair_all-requires-2-clause-before g c =
    let own : AreOwn c.args.pool.now (behind c.self.inside.source (slots_in c.self.inside.slots.items)) = subst (λ (k : KeptRows). AreOwnRows k c.args.pool.now) (sym c.self.view_is) c.requires.own in
    rows_others c.self.inside.source c.self.inside.slots.items c.from_ref.result.now c.from_ref.ensures.value c.deref.result.now c.deref.ensures.0 c.args.search.now.graph c.args.pool.now c.repair_all.new.pool own c.repair_all.ensures.repairs.renews (without (table_of c.args.search.now.graph) c.args.arc)
    (subst (λ (k : KeptRows). All (IsRowsOf (nodes c.args.search.now) (without (table_of c.args.search.now.graph) c.args.arc) c.args.pool.now) (all_slots k)) (sym c.self.view_is) c.requires.before)

pub repair_all-requires-2-clause-can : goal.repair_all-requires-2-clause-can
repair_all-requires-2-clause-can g c =
    can_still c.args.search.now c.args.pool.now c.repair_all.new.pool c.args.queue.now c.repair_all.new.queue c.requires.can c.repair_all.ensures.repairs.renews.changes.width c.repair_all.ensures.queue

pub returns-clause-own : goal.returns-clause-own
returns-clause-own g c =
    let own : AreOwn c.args.pool.now (behind c.self.inside.source (slots_in c.self.inside.slots.items)) = subst (λ (k : KeptRows). AreOwnRows k c.args.pool.now) (sym c.self.view_is) c.requires.own in
    let all = repairs_whole c.self.inside.source c.self.inside.slots.items c.from_ref.result.now c.from_ref.ensures.value c.deref.result.now c.deref.ensures.0 c.args.search.now.graph c.args.pool.now c.repair_all.new.pool own c.repair_all-2.new.pool c.args.steps.now c.repair_all.new.steps c.repair_all-2.new.steps c.repair_all.ensures.repairs c.repair_all-2.ensures.repairs in
    own_still (behind c.self.inside.source (slots_in c.self.inside.slots.items)) c.args.pool.now c.repair_all-2.new.pool (behind c.self.inside.source (slots_in c.self.inside.slots.items)) own all.renews.changes

pub returns-clause-rows : goal.returns-clause-rows
returns-clause-rows g c =
    let own : AreOwn c.args.pool.now (behind c.self.inside.source (slots_in c.self.inside.slots.items)) = subst (λ (k : KeptRows). AreOwnRows k c.args.pool.now) (sym c.self.view_is) c.requires.own in
    (repairs_whole c.self.inside.source c.self.inside.slots.items c.from_ref.result.now c.from_ref.ensures.value c.deref.result.now c.deref.ensures.0 c.args.search.now.graph c.args.pool.now c.repair_all.new.pool own c.repair_all-2.new.pool c.args.steps.now c.repair_all.new.steps c.repair_all-2.new.steps c.repair_all.ensures.repairs c.repair_all-2.ensures.repairs).renews.rows

pub returns-clause-others : goal.returns-clause-others
returns-clause-others g c =
    let own : AreOwn c.args.pool.now (behind c.self.inside.source (slots_in c.self.inside.slots.items)) = subst (λ (k : KeptRows). AreOwnRows k c.args.pool.now) (sym c.self.view_is) c.requires.own in
    let all : Repairs c.args.search.now.graph (behind c.self.inside.source (slots_in c.self.inside.slots.items)) c.args.pool.now c.repair_all-2.new.pool c.args.steps.now c.repair_all-2.new.steps =
    repairs_whole c.self.inside.source c.self.inside.slots.items c.from_ref.result.now c.from_ref.ensures.value c.deref.result.now c.deref.ensures.0 c.args.search.now.graph c.args.pool.now c.repair_all.new.pool own c.repair_all-2.new.pool c.args.steps.now c.repair_all.new.steps c.repair_all-2.new.steps c.repair_all.ensures.repairs c.repair_all-2.ensures.repairs in
    subst (λ (k : KeptRows). ChangesRowsOf (all_slots k) c.args.pool.now c.repair_all-2.new.pool) c.self.view_is all.renews.changes

pub returns-clause-few : goal.returns-clause-few
returns-clause-few g c =
    let own : AreOwn c.args.pool.now (behind c.self.inside.source (slots_in c.self.inside.slots.items)) = subst (λ (k : KeptRows). AreOwnRows k c.args.pool.now) (sym c.self.view_is) c.requires.own in
    let all : Repairs c.args.search.now.graph (behind c.self.inside.source (slots_in c.self.inside.slots.items)) c.args.pool.now c.repair_all-2.new.pool c.args.steps.now c.repair_all-2.new.steps =
    repairs_whole c.self.inside.source c.self.inside.slots.items c.from_ref.result.now c.from_ref.ensures.value c.deref.result.now c.deref.ensures.0 c.args.search.now.graph c.args.pool.now c.repair_all.new.pool own c.repair_all-2.new.pool c.args.steps.now c.repair_all.new.steps c.repair_all-2.new.steps c.repair_all.ensures.repairs c.repair_all-2.ensures.repairs in
    subst (λ (k : KeptRows). TakesFewSteps c.args.search.now.graph (all_slots k) c.args.pool.now c.repair_all-2.new.pool c.args.steps.now c.repair_all-2.new.steps) c.self.view_is all.few
