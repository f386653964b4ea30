use Rattle.std.proofs.Common.{◌≤◌, List, refl, sym, ap, subst, ◌∙◌}
use Rattle.sync_graph.specs.declared.arc.Arc.{Arc}
use Rattle.distances.specs.Searched.{Searched, nodes}
use Rattle.repair.specs.Slots.{KeptRows, all_slots, AreRowsOf}
use Rattle.repair.specs.Withdrawals.{WereRows, TakesFewToWithdraw}
use Rattle.solver.specs.Solver.{SolverLists}
use Rattle.solver.specs.Changes.{KeepsSlots}
use Rattle.solver.specs.Current.{IsCurrent}
use Rattle.solver.specs.Costs.{TakesFewToWithdrawAll}
use Rattle.solver.specs.Withdrawn.{IsCutDown}
use Rattle.solver.specs.contracts.solver.Solver.{the_view}
use Rattle.solver.proofs.Cutting.{few_both}
use Rattle.solver.proofs.Searching.{can_by, renewed}
use Rattle.solver.proofs.KeptSlots.{keeps_slots}
use Rattle.solver.proofs.solver.Solver.repair.Goals as goal

pub after_withdraw-requires-clause-before : goal.after_withdraw-requires-clause-before
after_withdraw-requires-clause-before g c =
    let s : SolverLists = the_view c.self.inside in
    let cut : IsCutDown c.args.removed.now s = subst (IsCutDown c.args.removed.now) (sym c.self.view_is) c.requires in
    subst (λ (xs : List Arc). WereRows c.new-withdrawal.result.search.graph xs s.pool (all_slots s.kept)) (sym c.new-withdrawal.ensures.removed)
    (subst (λ (r : Searched). WereRows r.graph c.args.removed.now s.pool (all_slots s.kept)) (sym c.new-withdrawal.ensures.search) cut.rows)

pub after_withdraw-requires-clause-can : goal.after_withdraw-requires-clause-can
after_withdraw-requires-clause-can g c =
    let s : SolverLists = the_view c.self.inside in
    let cut : IsCutDown c.args.removed.now s = subst (IsCutDown c.args.removed.now) (sym c.self.view_is) c.requires in
    let after : SolverLists = record { graph = s.graph; earliest = c.withdraw.new.self; contradiction = s.contradiction; pool = s.pool; kept = s.kept; front = s.front } in
    can_by after c.new-withdrawal.result.search c.new-withdrawal.ensures.search (record { rows = cut.set_up.room.rows; found = cut.set_up.room.found; front = cut.set_up.room.front }) s.pool c.withdraw.new.queue refl c.withdraw.ensures.queue

pub after_withdraw-requires-clause-found : goal.after_withdraw-requires-clause-found
after_withdraw-requires-clause-found g c =
    let s : SolverLists = the_view c.self.inside in
    let cut : IsCutDown c.args.removed.now s = subst (IsCutDown c.args.removed.now) (sym c.self.view_is) c.requires in
    subst (λ (r : Searched). nodes r ≤ s.kept.room) (sym c.new-withdrawal.ensures.search) cut.set_up.room.found

pub returns-clause-slots : goal.returns-clause-slots
returns-clause-slots g c =
    let s : SolverLists = the_view c.self.inside in
    let cut : IsCutDown c.args.removed.now s = subst (IsCutDown c.args.removed.now) (sym c.self.view_is) c.requires in
    let new : SolverLists = record { graph = s.graph; earliest = c.withdraw.new.self; contradiction = s.contradiction; pool = c.after_withdraw.new.pool; kept = c.after_withdraw.new.self; front = c.after_withdraw.new.queue } in
    let current : IsCurrent new = renewed s cut.set_up c.withdraw.new.self s.contradiction c.after_withdraw.new.pool c.after_withdraw.new.self c.after_withdraw.new.queue c.withdraw.ensures.earliest.execution.one_each
    c.withdraw.ensures.solved c.withdraw.ensures.earliest cut.none c.after_withdraw.ensures.slots c.after_withdraw.ensures.own
    (subst (λ (r : Searched). AreRowsOf r.graph c.after_withdraw.new.self c.after_withdraw.new.pool) c.new-withdrawal.ensures.search c.after_withdraw.ensures.rows) c.after_withdraw.ensures.others
    (c.after_withdraw.ensures.queue ∙ c.withdraw.ensures.queue) in
    subst (λ (x : SolverLists). KeepsSlots x new) c.self.view_is
    (keeps_slots s new
    (ap (λ (k : KeptRows). k.slots) c.after_withdraw.ensures.slots) (ap (λ (k : KeptRows). k.source) c.after_withdraw.ensures.slots) (ap (λ (k : KeptRows). k.room) c.after_withdraw.ensures.slots)
    (c.after_withdraw.ensures.queue ∙ c.withdraw.ensures.queue) c.after_withdraw.ensures.others current)

pub returns-clause-steps : goal.returns-clause-steps
returns-clause-steps g c =
    let s : SolverLists = the_view c.self.inside in
    let new : SolverLists = record { graph = s.graph; earliest = c.withdraw.new.self; contradiction = s.contradiction; pool = c.after_withdraw.new.pool; kept = c.after_withdraw.new.self; front = c.after_withdraw.new.queue } in
    let few : TakesFewToWithdraw s.graph c.args.removed.now (all_slots s.kept) s.pool c.withdraw.new.steps c.after_withdraw.new.steps =
    subst (λ (r : Searched). TakesFewToWithdraw r.graph c.args.removed.now (all_slots s.kept) s.pool c.withdraw.new.steps c.after_withdraw.new.steps) c.new-withdrawal.ensures.search
    (subst (λ (xs : List Arc). TakesFewToWithdraw c.new-withdrawal.result.search.graph xs (all_slots s.kept) s.pool c.withdraw.new.steps c.after_withdraw.new.steps) c.new-withdrawal.ensures.removed c.after_withdraw.ensures.few) in
    subst (λ (x : SolverLists). TakesFewToWithdrawAll x new c.args.removed.now c.args.steps.now c.after_withdraw.new.steps) c.self.view_is
    (λ marked marks all. few_both c.args.steps.now c.withdraw.new.steps c.after_withdraw.new.steps _ _ (c.withdraw.ensures.steps marked all.values) (few marks all.rows))
