use Rattle.std.proofs.Common.{◌≡◌, ◌+◌, ◌≤◌, true, false, refl, sym, ap, subst, ◌∙◌}
use Rattle.std.specs.Prelude.{slice_index_or}
use Rattle.sync_graph.specs.Graph.{table_of}
use Rattle.earliest.specs.declared.inserted.Inserted.{Inserted}
use Rattle.earliest.specs.declared.inserted.Inserted.TheVariants.{Kept}
use Rattle.earliest.specs.Inserted.{IsInserted}
use Rattle.earliest.specs.Steps.{most_insert_steps}
use Rattle.distances.specs.Searched.{Searched, table}
use Rattle.repair.specs.Slots.{KeptRows, all_slots, AreRowsBut, AreRowsOf}
use Rattle.repair.specs.Renewals.{TakesFewSteps}
use Rattle.solver.specs.Solver.{SolverLists}
use Rattle.solver.specs.Changes.{KeepsSlots}
use Rattle.solver.specs.Current.{IsCurrent}
use Rattle.solver.specs.Costs.{pushing_steps}
use Rattle.solver.specs.Pushed.{IsPushed}
use Rattle.solver.specs.contracts.solver.Solver.{the_view}
use Rattle.solver.proofs.Searching.{can_by, renewed, pushed_few}
use Rattle.solver.proofs.KeptSlots.{keeps_slots}
use Rattle.solver.proofs.solver.Solver.bring_in.Goals as goal

pub new-search-requires-clause-solved : goal.new-search-requires-clause-solved
new-search-requires-clause-solved g c =
    let s : SolverLists = the_view c.self.inside in
    let found : IsInserted s.graph c.insert.new.self Kept = subst (IsInserted s.graph c.insert.new.self) c.in-Kept.is c.in_ok-insert.ensures.found in
    found.0

pub new-search-requires-clause-earliest : goal.new-search-requires-clause-earliest
new-search-requires-clause-earliest g c =
    let s : SolverLists = the_view c.self.inside in
    let found : IsInserted s.graph c.insert.new.self Kept = subst (IsInserted s.graph c.insert.new.self) c.in-Kept.is c.in_ok-insert.ensures.found in
    found.1

pub after_insert-requires-clause-before : goal.after_insert-requires-clause-before
after_insert-requires-clause-before g c =
    let s : SolverLists = the_view c.self.inside in
    let pushed : IsPushed c.args.arc s = subst (IsPushed c.args.arc) (sym c.self.view_is) c.requires.before in
    subst (λ (r : Searched). AreRowsBut r.graph c.args.arc s.kept s.pool) (sym c.new-search.ensures) pushed.rows

pub after_insert-requires-clause-in_force : goal.after_insert-requires-clause-in_force
after_insert-requires-clause-in_force g c =
    let s : SolverLists = the_view c.self.inside in
    let force : (table_of s.graph).in_force c.args.arc ≡ true = subst (λ (x : SolverLists). slice_index_or x.graph.in_force c.args.arc false ≡ true) (sym c.self.view_is) c.requires.in_force in
    subst (λ (r : Searched). (table r).in_force c.args.arc ≡ true) (sym c.new-search.ensures) force

pub after_insert-requires-clause-can : goal.after_insert-requires-clause-can
after_insert-requires-clause-can g c =
    let s : SolverLists = the_view c.self.inside in
    let pushed : IsPushed c.args.arc s = subst (IsPushed c.args.arc) (sym c.self.view_is) c.requires.before in
    let after : SolverLists = record { graph = s.graph; earliest = c.insert.new.self; contradiction = s.contradiction; pool = s.pool; kept = s.kept; front = s.front } in
    can_by after c.new-search.result c.new-search.ensures (record { rows = pushed.set_up.room.rows; found = pushed.set_up.room.found; front = pushed.set_up.room.front }) s.pool c.insert.new.queue refl c.insert.ensures.queue

pub returns-in-Kept-clause-slots : goal.returns-in-Kept-clause-slots
returns-in-Kept-clause-slots g c =
    let s : SolverLists = the_view c.self.inside in
    let pushed : IsPushed c.args.arc s = subst (IsPushed c.args.arc) (sym c.self.view_is) c.requires.before in
    let found : IsInserted s.graph c.insert.new.self Kept = subst (IsInserted s.graph c.insert.new.self) c.in-Kept.is c.in_ok-insert.ensures.found in
    let new : SolverLists = record { graph = s.graph; earliest = c.insert.new.self; contradiction = s.contradiction; pool = c.after_insert.new.pool; kept = c.after_insert.new.self; front = c.after_insert.new.queue } in
    let current : IsCurrent new = renewed s pushed.set_up c.insert.new.self s.contradiction c.after_insert.new.pool c.after_insert.new.self c.after_insert.new.queue found.1.execution.one_each found.0 found.1 pushed.none
    c.after_insert.ensures.slots c.after_insert.ensures.own (subst (λ (r : Searched). AreRowsOf r.graph c.after_insert.new.self c.after_insert.new.pool) c.new-search.ensures c.after_insert.ensures.rows)
    c.after_insert.ensures.others (c.after_insert.ensures.queue ∙ c.insert.ensures.queue) in
    subst (λ (x : SolverLists). KeepsSlots x new) c.self.view_is
    (keeps_slots s new
    (ap (λ (k : KeptRows). k.slots) c.after_insert.ensures.slots) (ap (λ (k : KeptRows). k.source) c.after_insert.ensures.slots) (ap (λ (k : KeptRows). k.room) c.after_insert.ensures.slots)
    (c.after_insert.ensures.queue ∙ c.insert.ensures.queue) c.after_insert.ensures.others current)

pub returns-in-Kept-clause-steps : goal.returns-in-Kept-clause-steps
returns-in-Kept-clause-steps g c =
    let s : SolverLists = the_view c.self.inside in
    let pushed : IsPushed c.args.arc s = subst (IsPushed c.args.arc) (sym c.self.view_is) c.requires.before in
    let found : IsInserted s.graph c.insert.new.self Kept = subst (IsInserted s.graph c.insert.new.self) c.in-Kept.is c.in_ok-insert.ensures.found in
    let new : SolverLists = record { graph = s.graph; earliest = c.insert.new.self; contradiction = s.contradiction; pool = c.after_insert.new.pool; kept = c.after_insert.new.self; front = c.after_insert.new.queue } in
    let values : c.insert.new.steps ≤ c.args.steps.now + most_insert_steps s.graph s.earliest.values c.insert.new.self.values Kept =
    subst (λ (f : Inserted). c.insert.new.steps ≤ c.args.steps.now + most_insert_steps s.graph s.earliest.values c.insert.new.self.values f) c.in-Kept.is c.in_ok-insert.ensures.steps in
    let rows : TakesFewSteps s.graph (all_slots s.kept) s.pool c.after_insert.new.pool c.insert.new.steps c.after_insert.new.steps =
    subst (λ (r : Searched). TakesFewSteps r.graph (all_slots s.kept) s.pool c.after_insert.new.pool c.insert.new.steps c.after_insert.new.steps) c.new-search.ensures c.after_insert.ensures.few in
    subst (λ (x : SolverLists). c.after_insert.new.steps ≤ c.args.steps.now + pushing_steps x new) c.self.view_is
    (pushed_few s new c.args.steps.now c.insert.new.steps c.after_insert.new.steps pushed.solved found.0 values rows)
