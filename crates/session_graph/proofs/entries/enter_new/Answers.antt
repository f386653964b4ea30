use Rattle.std.proofs.Common.{◌<◌, length, subst, sym, ◌∙◌, arith}
use Rattle.problem_model.specs.declared.items.Node.TheVariants as nodes
use Rattle.decl.specs.Declaration.{Declaration}
use Rattle.roster.specs.declared.came.Came.{Came}
use Rattle.roster.specs.Groups.{group_at}
use Rattle.roster.specs.Readings.{HasStamp}
use Rattle.roster.specs.Roster.{RosterLists}
use Rattle.roster.proofs.Beside.{group_inside}
use Rattle.session_graph.specs.Links.{AreThere}
use Rattle.session_graph.proofs.Extending.{few_then, few_by_nodes}
use Rattle.session_graph.proofs.OneEvent.{own_shown, nodes_shown, reading_new, entered_event, entered_reading, entered_there, comes, stands, nodes_few, arcs_few}
use Rattle.session_graph.proofs.entries.enter_new.Goals as goal

pub clock_of-place-requires : goal.clock_of-place-requires
clock_of-place-requires g c =
    let r = c.args.roster.now in
    let e : Came = c.event-came.result in
    let is = c.decl.ensures.lawful in
    let (k, number, at) = is.every c.args.v e c.event-came.ensures in
    let inside : e.label < length r.under = group_inside r.under e.label k c.args.v at in
    let many = is.labels in
    omega (arith, inside, many)

pub bounds_of-own-requires-clause-label : goal.bounds_of-own-requires-clause-label
bounds_of-own-requires-clause-label g c =
    let r = c.args.roster.now in
    let e : Came = c.event-came.result in
    let is = c.decl.ensures.lawful in
    let (k, number, at) = is.every c.args.v e c.event-came.ensures in
    let inside : e.label < length r.under = group_inside r.under e.label k c.args.v at in
    let many = is.labels in
    omega (arith, inside, many)

pub nearest_of-nearest-requires-clause-shown : goal.nearest_of-nearest-requires-clause-shown
nearest_of-nearest-requires-clause-shown g c = own_shown c.args.roster.now c.decl.ensures.lawful c.args.v c.event-came.result c.event-came.ensures c.args.solver.now c.requires.new c.clock_of-place.result (c.clock_of-place.ensures.is c.event-came.result.number)

pub nearest_of-nearest-requires-clause-nodes : goal.nearest_of-nearest-requires-clause-nodes
nearest_of-nearest-requires-clause-nodes g c = nodes_shown c.args.roster.now c.decl.ensures.lawful c.requires.ready.0 c.requires.ready.1 c.args.solver.now c.requires.ready.2

pub push_event-requires-clause-new : goal.push_event-requires-clause-new
push_event-requires-clause-new g c = λ k at. c.requires.new (k, at)

pub push_reading-requires-clause-shown : goal.push_reading-requires-clause-shown
push_reading-requires-clause-shown g c =
    subst (λ (r : RosterLists). HasStamp (group_at r.readings c.clock_of-place.result) c.event-came.result.stamp) (sym c.in_ok-push_event.ensures.told) (own_shown c.args.roster.now c.decl.ensures.lawful c.args.v c.event-came.result c.event-came.ensures c.args.solver.now c.requires.new c.clock_of-place.result (c.clock_of-place.ensures.is c.event-came.result.number))

pub push_reading-requires-clause-new : goal.push_reading-requires-clause-new
push_reading-requires-clause-new g c =
    λ k. reading_new c.args.solver.now c.push_event.new.solver c.args.v c.clock_of-place.result c.event-came.result.stamp c.in_ok-push_event.ensures.graph (c.is_known-known.ensures.new k)

pub push_entry-requires-clause-event : goal.push_entry-requires-clause-event
push_entry-requires-clause-event g c = entered_event c.args.roster.now c.decl.ensures.lawful c.args.v c.event-came.result c.event-came.ensures c.args.solver.now c.requires.new c.clock_of-place.result (c.clock_of-place.ensures.is c.event-came.result.number) c.is_known-known.result c.nearest_of-nearest.result c.is_known-known.ensures.known c.is_known-known.ensures.new c.nearest_of-nearest.ensures.nearest c.nearest_of-nearest.ensures.inside c.push_event.new.solver c.push_reading.new.solver c.in_ok-push_event.ensures.graph (λ k. (c.in_ok-push_reading.ensures.known k).0) c.in_ok-push_reading.ensures.graph

pub push_entry-requires-clause-reading : goal.push_entry-requires-clause-reading
push_entry-requires-clause-reading g c = entered_reading c.args.roster.now c.decl.ensures.lawful c.args.v c.event-came.result c.event-came.ensures c.args.solver.now c.requires.new c.clock_of-place.result (c.clock_of-place.ensures.is c.event-came.result.number) c.is_known-known.result c.nearest_of-nearest.result c.is_known-known.ensures.known c.is_known-known.ensures.new c.nearest_of-nearest.ensures.nearest c.nearest_of-nearest.ensures.inside c.push_event.new.solver c.push_reading.new.solver c.in_ok-push_event.ensures.graph (λ k. (c.in_ok-push_reading.ensures.known k).0) c.in_ok-push_reading.ensures.graph

pub push_entry-requires-clause-there : goal.push_entry-requires-clause-there
push_entry-requires-clause-there g c =
    subst (λ (d : Declaration). AreThere (length d.clocks) c.push_reading.new.solver.graph c.clock_of-place.result c.event-came.result.stamp c.nearest_of-nearest.result) (sym (c.push_reading.ensures.declaration ∙ c.push_event.ensures.err))
    (entered_there c.args.roster.now c.decl.ensures.lawful c.args.v c.event-came.result c.event-came.ensures c.args.solver.now c.requires.new c.clock_of-place.result (c.clock_of-place.ensures.is c.event-came.result.number) c.is_known-known.result c.nearest_of-nearest.result c.is_known-known.ensures.known c.is_known-known.ensures.new c.nearest_of-nearest.ensures.nearest c.nearest_of-nearest.ensures.inside c.push_event.new.solver c.push_reading.new.solver c.in_ok-push_event.ensures.graph (λ k. (c.in_ok-push_reading.ensures.known k).0) c.in_ok-push_reading.ensures.graph)

pub returns-clause-come : goal.returns-clause-come
returns-clause-come g c = comes c.args.roster.now c.decl.ensures.lawful c.args.v c.event-came.result c.event-came.ensures c.args.solver.now c.requires.new c.clock_of-place.result (c.clock_of-place.ensures.is c.event-came.result.number) c.is_known-known.result c.nearest_of-nearest.result c.is_known-known.ensures.known c.is_known-known.ensures.new c.nearest_of-nearest.ensures.nearest c.nearest_of-nearest.ensures.inside c.push_event.new.solver c.push_reading.new.solver c.in_ok-push_event.ensures.graph (λ k. (c.in_ok-push_reading.ensures.known k).0) c.in_ok-push_reading.ensures.graph c.push_event.new.roster c.push_reading.new.roster c.in_ok-push_event.ensures.told (λ k. (c.in_ok-push_reading.ensures.known k).1) c.in_ok-push_reading.ensures.told c.push_entry.new.solver c.in_ok-push_entry.ensures.brings c.clock_at-clock.result c.clock_at-clock.ensures c.bounds_of-own.result (c.bounds_of-own.ensures c.event-came.result.number) (λ p flags y. c.in_ok-push_entry.ensures.left p flags y)

pub returns-clause-entered : goal.returns-clause-entered
returns-clause-entered g c = stands c.args.roster.now c.decl.ensures.lawful c.args.v c.event-came.result c.event-came.ensures c.args.solver.now c.requires.new c.clock_of-place.result (c.clock_of-place.ensures.is c.event-came.result.number) c.is_known-known.result c.nearest_of-nearest.result c.is_known-known.ensures.known c.is_known-known.ensures.new c.nearest_of-nearest.ensures.nearest c.nearest_of-nearest.ensures.inside c.push_event.new.solver c.push_reading.new.solver c.in_ok-push_event.ensures.graph (λ k. (c.in_ok-push_reading.ensures.known k).0) c.in_ok-push_reading.ensures.graph c.push_event.new.roster c.push_reading.new.roster c.in_ok-push_event.ensures.told (λ k. (c.in_ok-push_reading.ensures.known k).1) c.in_ok-push_reading.ensures.told c.push_entry.new.solver c.in_ok-push_entry.ensures.brings c.clock_at-clock.result c.clock_at-clock.ensures c.bounds_of-own.result (c.bounds_of-own.ensures c.event-came.result.number) (λ p flags y. c.in_ok-push_entry.ensures.left p flags y)

pub returns-clause-nodes : goal.returns-clause-nodes
returns-clause-nodes g c = nodes_few c.args.roster.now c.decl.ensures.lawful c.args.v c.event-came.result c.event-came.ensures c.args.solver.now c.requires.new c.clock_of-place.result (c.clock_of-place.ensures.is c.event-came.result.number) c.is_known-known.result c.nearest_of-nearest.result c.is_known-known.ensures.known c.is_known-known.ensures.new c.nearest_of-nearest.ensures.nearest c.nearest_of-nearest.ensures.inside c.push_event.new.solver c.push_reading.new.solver c.in_ok-push_event.ensures.graph (λ k. (c.in_ok-push_reading.ensures.known k).0) c.in_ok-push_reading.ensures.graph c.push_event.new.roster c.push_reading.new.roster c.in_ok-push_event.ensures.told (λ k. (c.in_ok-push_reading.ensures.known k).1) c.in_ok-push_reading.ensures.told c.push_entry.new.solver c.in_ok-push_entry.ensures.brings c.clock_at-clock.result c.clock_at-clock.ensures c.bounds_of-own.result (c.bounds_of-own.ensures c.event-came.result.number) (λ p flags y. c.in_ok-push_entry.ensures.left p flags y)

pub returns-clause-arcs : goal.returns-clause-arcs
returns-clause-arcs g c = arcs_few c.args.roster.now c.decl.ensures.lawful c.args.v c.event-came.result c.event-came.ensures c.args.solver.now c.requires.new c.clock_of-place.result (c.clock_of-place.ensures.is c.event-came.result.number) c.is_known-known.result c.nearest_of-nearest.result c.is_known-known.ensures.known c.is_known-known.ensures.new c.nearest_of-nearest.ensures.nearest c.nearest_of-nearest.ensures.inside c.push_event.new.solver c.push_reading.new.solver c.in_ok-push_event.ensures.graph (λ k. (c.in_ok-push_reading.ensures.known k).0) c.in_ok-push_reading.ensures.graph c.push_event.new.roster c.push_reading.new.roster c.in_ok-push_event.ensures.told (λ k. (c.in_ok-push_reading.ensures.known k).1) c.in_ok-push_reading.ensures.told c.push_entry.new.solver c.in_ok-push_entry.ensures.brings c.clock_at-clock.result c.clock_at-clock.ensures c.bounds_of-own.result (c.bounds_of-own.ensures c.event-came.result.number) (λ p flags y. c.in_ok-push_entry.ensures.left p flags y)

pub returns-clause-steps : goal.returns-clause-steps
returns-clause-steps g c =
    few_then c.args.solver.now c.push_reading.new.solver c.push_entry.new.solver c.args.steps.now c.args.steps.now c.push_entry.new.steps
    (few_by_nodes c.args.solver.now c.push_event.new.solver c.push_reading.new.solver c.is_known-known.result (nodes.Event c.args.v) (nodes.Reading c.clock_of-place.result c.event-came.result.stamp) c.in_ok-push_event.ensures.graph (λ k. (c.in_ok-push_reading.ensures.known k).0) c.in_ok-push_reading.ensures.graph c.args.steps.now
    c.in_ok-push_event.ensures.current c.in_ok-push_reading.ensures.current)
    c.in_ok-push_entry.ensures.steps
