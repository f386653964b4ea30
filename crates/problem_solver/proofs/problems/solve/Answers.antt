use Rattle.std.proofs.Common.{◌≤◌, ◌+◌, List, length, All, ◌∙◌, sym, subst}
use Rattle.std.specs.List.{flat_map}
use Rattle.problem_model.specs.Limits.{most_arcs}
use Rattle.problem_solver.specs.declared.items.Ranked.{Ranked}
use Rattle.problem_solver.specs.Items.{IsItem, bounds_of, items_of}
use Rattle.problem_solver.specs.Pushing.{AddsBounds}
use Rattle.problem_solver.proofs.Covering.{covered}
use Rattle.problem_solver.proofs.Bringing.{nodes_all, few_enough, holds_bounds, is_solution}
use Rattle.problem_solver.proofs.problems.solve.Goals as goal

pub push_items-requires-clause-current : goal.push_items-requires-clause-current
push_items-requires-clause-current g c = (c.in_ok-s.ensures.come c.readings-readings.result.now c.readings-readings.ensures).current

pub push_items-requires-clause-nodes : goal.push_items-requires-clause-nodes
push_items-requires-clause-nodes g c =
    let rs = c.readings-readings.result.now in
    nodes_all c.args.p.now rs c.events.ensures.lawful c.readings-readings.ensures c.in_ok-s.s (c.in_ok-s.ensures.come rs c.readings-readings.ensures)

pub push_items-requires-clause-none : goal.push_items-requires-clause-none
push_items-requires-clause-none g c = (c.in_ok-s.ensures.come c.readings-readings.result.now c.readings-readings.ensures).left.no_arcs

pub push_items-requires-clause-items : goal.push_items-requires-clause-items
push_items-requires-clause-items g c =
    subst (λ (xs : List Ranked). All (IsItem c.args.p.now c.readings-readings.result.now) (items_of xs)) (sym c.deref.ensures.value) c.in_ok-items.ensures.each

pub push_items-requires-clause-few : goal.push_items-requires-clause-few
push_items-requires-clause-few g c =
    subst (λ (xs : List Ranked). length xs + length xs ≤ most_arcs) (sym c.deref.ensures.value)
    (few_enough c.args.p.now c.readings-readings.result.now c.in_ok-items.items.items c.events.ensures.lawful c.readings-readings.ensures c.in_ok-items.ensures)

pub returns-clause-solution : goal.returns-clause-solution
returns-clause-solution g c =
    let p = c.args.p.now in
    let rs = c.readings-readings.result.now in
    is_solution p rs (flat_map (bounds_of p rs) (items_of c.in_ok-items.items.items)) c.in_ok-s.s c.push_items.new.s c.readings-readings.ensures
    (c.in_ok-s.ensures.come rs c.readings-readings.ensures)
    (subst (λ (xs : List Ranked). AddsBounds p (flat_map (bounds_of p rs) (items_of xs)) c.in_ok-s.s c.push_items.new.s) c.deref.ensures.value c.in_ok-push_items.ensures)
    (covered p rs (items_of c.in_ok-items.items.items) c.in_ok-items.ensures) c.events.ensures.lawful

pub returns-clause-bounds : goal.returns-clause-bounds
returns-clause-bounds g c =
    let p = c.args.p.now in
    let rs = c.readings-readings.result.now in
    holds_bounds p rs (flat_map (bounds_of p rs) (items_of c.in_ok-items.items.items)) c.in_ok-s.s c.push_items.new.s c.readings-readings.ensures
    (c.in_ok-s.ensures.come rs c.readings-readings.ensures)
    (subst (λ (xs : List Ranked). AddsBounds p (flat_map (bounds_of p rs) (items_of xs)) c.in_ok-s.s c.push_items.new.s) c.deref.ensures.value c.in_ok-push_items.ensures)
    (covered p rs (items_of c.in_ok-items.items.items) c.in_ok-items.ensures)

pub returns-clause-nodes : goal.returns-clause-nodes
returns-clause-nodes g c = λ others are.
    let rs = c.readings-readings.result.now in
    c.in_ok-push_items.ensures.nodes
    ∙ nodes_all c.args.p.now rs c.events.ensures.lawful c.readings-readings.ensures c.in_ok-s.s (c.in_ok-s.ensures.come rs c.readings-readings.ensures) others are

pub returns-clause-free : goal.returns-clause-free
returns-clause-free g c = c.in_ok-push_items.ensures.free ∙ c.in_ok-s.ensures.free

pub returns-clause-count : goal.returns-clause-count
returns-clause-count g c = c.in_ok-push_items.ensures.rows ∙ c.in_ok-s.ensures.count

pub returns-clause-slots : goal.returns-clause-slots
returns-clause-slots g c = c.in_ok-push_items.ensures.slots ∙ c.in_ok-s.ensures.slots

pub returns-clause-source : goal.returns-clause-source
returns-clause-source g c = c.in_ok-push_items.ensures.source ∙ c.in_ok-s.ensures.source
