use Rattle.std.proofs.Common.{◌≡◌, ℕ, List, ◌++◌, length, take, drop, sym, subst, ◌∙◌, rules}
use Rattle.repair.specs.Slots.{KeptRows, slots_in, behind, all_slots, AreOwn, AreOwnRows, ChangesRowsOf}
use Rattle.repair.specs.Withdrawals.{WereRows, WithdrawsRows, TakesFewToWithdraw, ChangesFewCells, WritesFewPlaces}
use Rattle.earliest.proofs.Lent.{whole_again}
use Rattle.repair.proofs.Renewing.{own_still}
use Rattle.repair.proofs.Turning.{can_still}
use Rattle.repair.proofs.Whole.{own_one, were_one, own_others, were_others, withdraws_whole}
use Rattle.repair.proofs.kept.Kept.after_withdraw.Goals as goal

pub withdraw_all-requires-clause-own : goal.withdraw_all-requires-clause-own
withdraw_all-requires-clause-own g c =
    let own : AreOwn c.args.pool.now (behind c.self.inside.source (slots_in c.self.inside.slots.items)) = subst (λ (k : KeptRows). AreOwnRows k c.args.pool.now) (sym c.self.view_is) c.requires.own in
    own_one c.self.inside.source c.self.inside.slots.items c.from_ref.result.now c.from_ref.ensures.value c.args.pool.now own

pub withdraw_all-requires-clause-before : goal.withdraw_all-requires-clause-before
withdraw_all-requires-clause-before g c =
    were_one c.self.inside.source c.self.inside.slots.items c.from_ref.result.now c.from_ref.ensures.value c.args.withdrawal.now.search.graph c.args.withdrawal.now.removed.now c.args.pool.now
    (subst (λ (k : KeptRows). WereRows c.args.withdrawal.now.search.graph c.args.withdrawal.now.removed.now c.args.pool.now (all_slots k)) (sym c.self.view_is) c.requires.before)

pub withdraw_all-requires-2-clause-own : goal.withdraw_all-requires-2-clause-own
withdraw_all-requires-2-clause-own g c =
    let own : AreOwn c.args.pool.now (behind c.self.inside.source (slots_in c.self.inside.slots.items)) = subst (λ (k : KeptRows). AreOwnRows k c.args.pool.now) (sym c.self.view_is) c.requires.own in
    own_others c.self.inside.source c.self.inside.slots.items c.from_ref.result.now c.from_ref.ensures.value c.deref.result.now c.deref.ensures.0 c.args.withdrawal.now.search.graph c.args.pool.now c.withdraw_all.new.pool own c.withdraw_all.ensures.withdraws.renews

pub withdraw_all-requires-2-clause-before : goal.withdraw_all-requires-2-clause-before
withdraw_all-requires-2-clause-before g c =
    let own : AreOwn c.args.pool.now (behind c.self.inside.source (slots_in c.self.inside.slots.items)) = subst (λ (k : KeptRows). AreOwnRows k c.args.pool.now) (sym c.self.view_is) c.requires.own in
    were_others c.self.inside.source c.self.inside.slots.items c.from_ref.result.now c.from_ref.ensures.value c.deref.result.now c.deref.ensures.0 c.args.withdrawal.now.search.graph c.args.pool.now c.withdraw_all.new.pool own c.withdraw_all.ensures.withdraws.renews c.args.withdrawal.now.removed.now
    (subst (λ (k : KeptRows). WereRows c.args.withdrawal.now.search.graph c.args.withdrawal.now.removed.now c.args.pool.now (all_slots k)) (sym c.self.view_is) c.requires.before)

pub withdraw_all-requires-2-clause-can : goal.withdraw_all-requires-2-clause-can
withdraw_all-requires-2-clause-can g c =
    can_still c.args.withdrawal.now.search c.args.pool.now c.withdraw_all.new.pool c.args.queue.now c.withdraw_all.new.queue c.requires.can c.withdraw_all.ensures.withdraws.renews.changes.width c.withdraw_all.ensures.queue

pub returns-clause-own : goal.returns-clause-own
returns-clause-own g c =
    let own : AreOwn c.args.pool.now (behind c.self.inside.source (slots_in c.self.inside.slots.items)) = subst (λ (k : KeptRows). AreOwnRows k c.args.pool.now) (sym c.self.view_is) c.requires.own in
    let all = withdraws_whole c.self.inside.source c.self.inside.slots.items c.from_ref.result.now c.from_ref.ensures.value c.deref.result.now c.deref.ensures.0 c.args.withdrawal.now.search.graph c.args.pool.now c.withdraw_all.new.pool own c.args.withdrawal.now.removed.now c.withdraw_all-2.new.pool c.deref_mut.result.now c.withdraw_all.new.found c.deref_mut-2.result.now c.withdraw_all-2.new.found (c.deref_mut-2.ensures.value ∙ whole_again c.self.inside.found.len c.withdraw_all.new.found (drop (length c.withdraw_all.new.found) c.self.inside.found.items) (search rules)) c.args.steps.now c.withdraw_all.new.steps c.withdraw_all-2.new.steps c.withdraw_all.ensures.withdraws c.withdraw_all-2.ensures.withdraws in
    own_still (behind c.self.inside.source (slots_in c.self.inside.slots.items)) c.args.pool.now c.withdraw_all-2.new.pool (behind c.self.inside.source (slots_in c.self.inside.slots.items)) own all.renews.changes

pub returns-clause-rows : goal.returns-clause-rows
returns-clause-rows g c =
    let own : AreOwn c.args.pool.now (behind c.self.inside.source (slots_in c.self.inside.slots.items)) = subst (λ (k : KeptRows). AreOwnRows k c.args.pool.now) (sym c.self.view_is) c.requires.own in
    (withdraws_whole c.self.inside.source c.self.inside.slots.items c.from_ref.result.now c.from_ref.ensures.value c.deref.result.now c.deref.ensures.0 c.args.withdrawal.now.search.graph c.args.pool.now c.withdraw_all.new.pool own c.args.withdrawal.now.removed.now c.withdraw_all-2.new.pool c.deref_mut.result.now c.withdraw_all.new.found c.deref_mut-2.result.now c.withdraw_all-2.new.found (c.deref_mut-2.ensures.value ∙ whole_again c.self.inside.found.len c.withdraw_all.new.found (drop (length c.withdraw_all.new.found) c.self.inside.found.items) (search rules)) c.args.steps.now c.withdraw_all.new.steps c.withdraw_all-2.new.steps c.withdraw_all.ensures.withdraws c.withdraw_all-2.ensures.withdraws).renews.rows

pub returns-clause-others : goal.returns-clause-others
returns-clause-others g c =
    let own : AreOwn c.args.pool.now (behind c.self.inside.source (slots_in c.self.inside.slots.items)) = subst (λ (k : KeptRows). AreOwnRows k c.args.pool.now) (sym c.self.view_is) c.requires.own in
    let all : WithdrawsRows c.args.withdrawal.now.search.graph c.args.withdrawal.now.removed.now (behind c.self.inside.source (slots_in c.self.inside.slots.items)) c.args.pool.now c.withdraw_all-2.new.pool c.deref_mut.result.now c.withdraw_all-2.new.found c.args.steps.now c.withdraw_all-2.new.steps =
    withdraws_whole c.self.inside.source c.self.inside.slots.items c.from_ref.result.now c.from_ref.ensures.value c.deref.result.now c.deref.ensures.0 c.args.withdrawal.now.search.graph c.args.pool.now c.withdraw_all.new.pool own c.args.withdrawal.now.removed.now c.withdraw_all-2.new.pool c.deref_mut.result.now c.withdraw_all.new.found c.deref_mut-2.result.now c.withdraw_all-2.new.found (c.deref_mut-2.ensures.value ∙ whole_again c.self.inside.found.len c.withdraw_all.new.found (drop (length c.withdraw_all.new.found) c.self.inside.found.items) (search rules)) c.args.steps.now c.withdraw_all.new.steps c.withdraw_all-2.new.steps c.withdraw_all.ensures.withdraws c.withdraw_all-2.ensures.withdraws in
    subst (λ (k : KeptRows). ChangesRowsOf (all_slots k) c.args.pool.now c.withdraw_all-2.new.pool) c.self.view_is all.renews.changes

pub returns-clause-few : goal.returns-clause-few
returns-clause-few g c =
    let own : AreOwn c.args.pool.now (behind c.self.inside.source (slots_in c.self.inside.slots.items)) = subst (λ (k : KeptRows). AreOwnRows k c.args.pool.now) (sym c.self.view_is) c.requires.own in
    let all : WithdrawsRows c.args.withdrawal.now.search.graph c.args.withdrawal.now.removed.now (behind c.self.inside.source (slots_in c.self.inside.slots.items)) c.args.pool.now c.withdraw_all-2.new.pool c.deref_mut.result.now c.withdraw_all-2.new.found c.args.steps.now c.withdraw_all-2.new.steps =
    withdraws_whole c.self.inside.source c.self.inside.slots.items c.from_ref.result.now c.from_ref.ensures.value c.deref.result.now c.deref.ensures.0 c.args.withdrawal.now.search.graph c.args.pool.now c.withdraw_all.new.pool own c.args.withdrawal.now.removed.now c.withdraw_all-2.new.pool c.deref_mut.result.now c.withdraw_all.new.found c.deref_mut-2.result.now c.withdraw_all-2.new.found (c.deref_mut-2.ensures.value ∙ whole_again c.self.inside.found.len c.withdraw_all.new.found (drop (length c.withdraw_all.new.found) c.self.inside.found.items) (search rules)) c.args.steps.now c.withdraw_all.new.steps c.withdraw_all-2.new.steps c.withdraw_all.ensures.withdraws c.withdraw_all-2.ensures.withdraws in
    subst (λ (k : KeptRows). TakesFewToWithdraw c.args.withdrawal.now.search.graph c.args.withdrawal.now.removed.now (all_slots k) c.args.pool.now c.args.steps.now c.withdraw_all-2.new.steps) c.self.view_is all.few

pub returns-clause-cells : goal.returns-clause-cells
returns-clause-cells g c =
    let own : AreOwn c.args.pool.now (behind c.self.inside.source (slots_in c.self.inside.slots.items)) = subst (λ (k : KeptRows). AreOwnRows k c.args.pool.now) (sym c.self.view_is) c.requires.own in
    let all : WithdrawsRows c.args.withdrawal.now.search.graph c.args.withdrawal.now.removed.now (behind c.self.inside.source (slots_in c.self.inside.slots.items)) c.args.pool.now c.withdraw_all-2.new.pool c.deref_mut.result.now c.withdraw_all-2.new.found c.args.steps.now c.withdraw_all-2.new.steps =
    withdraws_whole c.self.inside.source c.self.inside.slots.items c.from_ref.result.now c.from_ref.ensures.value c.deref.result.now c.deref.ensures.0 c.args.withdrawal.now.search.graph c.args.pool.now c.withdraw_all.new.pool own c.args.withdrawal.now.removed.now c.withdraw_all-2.new.pool c.deref_mut.result.now c.withdraw_all.new.found c.deref_mut-2.result.now c.withdraw_all-2.new.found (c.deref_mut-2.ensures.value ∙ whole_again c.self.inside.found.len c.withdraw_all.new.found (drop (length c.withdraw_all.new.found) c.self.inside.found.items) (search rules)) c.args.steps.now c.withdraw_all.new.steps c.withdraw_all-2.new.steps c.withdraw_all.ensures.withdraws c.withdraw_all-2.ensures.withdraws in
    subst (λ (k : KeptRows). ChangesFewCells c.args.withdrawal.now.search.graph c.args.withdrawal.now.removed.now (all_slots k) c.args.pool.now c.withdraw_all-2.new.pool) c.self.view_is all.cells

pub returns-clause-places : goal.returns-clause-places
returns-clause-places g c =
    let own : AreOwn c.args.pool.now (behind c.self.inside.source (slots_in c.self.inside.slots.items)) = subst (λ (k : KeptRows). AreOwnRows k c.args.pool.now) (sym c.self.view_is) c.requires.own in
    let all : WithdrawsRows c.args.withdrawal.now.search.graph c.args.withdrawal.now.removed.now (behind c.self.inside.source (slots_in c.self.inside.slots.items)) c.args.pool.now c.withdraw_all-2.new.pool c.deref_mut.result.now c.withdraw_all-2.new.found c.args.steps.now c.withdraw_all-2.new.steps =
    withdraws_whole c.self.inside.source c.self.inside.slots.items c.from_ref.result.now c.from_ref.ensures.value c.deref.result.now c.deref.ensures.0 c.args.withdrawal.now.search.graph c.args.pool.now c.withdraw_all.new.pool own c.args.withdrawal.now.removed.now c.withdraw_all-2.new.pool c.deref_mut.result.now c.withdraw_all.new.found c.deref_mut-2.result.now c.withdraw_all-2.new.found (c.deref_mut-2.ensures.value ∙ whole_again c.self.inside.found.len c.withdraw_all.new.found (drop (length c.withdraw_all.new.found) c.self.inside.found.items) (search rules)) c.args.steps.now c.withdraw_all.new.steps c.withdraw_all-2.new.steps c.withdraw_all.ensures.withdraws c.withdraw_all-2.ensures.withdraws in
    let written : WritesFewPlaces c.args.withdrawal.now.search.graph c.args.withdrawal.now.removed.now (behind c.self.inside.source (slots_in c.self.inside.slots.items)) c.args.pool.now c.self.inside.found.items c.withdraw_all-2.new.found =
    subst (λ (ls : List ℕ). WritesFewPlaces c.args.withdrawal.now.search.graph c.args.withdrawal.now.removed.now (behind c.self.inside.source (slots_in c.self.inside.slots.items)) c.args.pool.now ls c.withdraw_all-2.new.found) c.deref_mut.ensures.value all.places in
    let first : List ℕ = c.withdraw_all.new.found in
    let middle : List ℕ = take c.self.inside.found.len (first ++ drop (length first) c.self.inside.found.items) in
    let last : List ℕ = c.withdraw_all-2.new.found in
    let back : List ℕ = take c.self.inside.found.len (last ++ drop (length last) middle) in
    let len : c.self.inside.found.len ≡ length last = search rules in
    subst (λ (k : KeptRows). WritesFewPlaces c.args.withdrawal.now.search.graph c.args.withdrawal.now.removed.now (all_slots k) c.args.pool.now k.found back) c.self.view_is
    (subst (λ (ls : List ℕ). WritesFewPlaces c.args.withdrawal.now.search.graph c.args.withdrawal.now.removed.now (behind c.self.inside.source (slots_in c.self.inside.slots.items)) c.args.pool.now c.self.inside.found.items ls)
    (sym (whole_again c.self.inside.found.len last (drop (length last) middle) len)) written)
