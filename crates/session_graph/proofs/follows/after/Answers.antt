use Rattle.std.proofs.Common.{◌<◌, ◌+◌, length, arith}
use Rattle.session_graph.proofs.HostClocks.{next_there, on_begins, on_goes, on_found, on_ends}
use Rattle.session_graph.proofs.follows.after.Goals as goal

pub loop-clock-init : goal.loop-clock-init
loop-clock-init c = on_begins c.args.roster.now.declaration c.decl.ensures.lawful.declared c.args.solver.now.graph c.args.place c.requires.clock

pub overflow_add-clock : goal.overflow_add-clock
overflow_add-clock c =
    let inside : c.loop-clock.clock + 1 < length c.args.roster.now.declaration.clocks = next_there c.args.roster.now.declaration c.decl.ensures.lawful.declared c.loop-clock.clock (c.leads_on.ensures.one c.loop-clock-test.true) in
    let few = c.decl.ensures.lawful.declared.limits.clock_limit in
    omega (arith, inside, few)

pub first_of-requires-clause-clock : goal.first_of-requires-clause-clock
first_of-requires-clause-clock c = next_there c.args.roster.now.declaration c.decl.ensures.lawful.declared c.loop-clock.clock (c.leads_on.ensures.one c.loop-clock-test.true)

pub returns-in-Some-clause-inside : goal.returns-in-Some-clause-inside
returns-in-Some-clause-inside c = next_there c.args.roster.now.declaration c.decl.ensures.lawful.declared c.loop-clock.clock (c.leads_on.ensures.one c.loop-clock-test.true)

pub returns-in-Some-clause-nearest : goal.returns-in-Some-clause-nearest
returns-in-Some-clause-nearest c = λ p follows.
    on_found c.args.roster.now.declaration c.decl.ensures.lawful.declared c.args.solver.now.graph c.args.place p follows c.loop-clock.clock c.in-Some.stamp c.loop-clock.invariant (c.leads_on.ensures.one c.loop-clock-test.true) c.in-Some.ensures.some

pub loop-clock-smaller : goal.loop-clock-smaller
loop-clock-smaller c =
    let inside : c.loop-clock.clock + 1 < length c.args.roster.now.declaration.clocks = next_there c.args.roster.now.declaration c.decl.ensures.lawful.declared c.loop-clock.clock (c.leads_on.ensures.one c.loop-clock-test.true) in
    omega (arith, inside)

pub loop-clock-preserved : goal.loop-clock-preserved
loop-clock-preserved c =
    on_goes c.args.roster.now.declaration c.decl.ensures.lawful.declared c.args.solver.now.graph c.args.place c.loop-clock.clock c.loop-clock.invariant (c.leads_on.ensures.one c.loop-clock-test.true) c.in_default.ensures.none

pub returns-clause-nearest : goal.returns-clause-nearest
returns-clause-nearest c = λ p follows.
    on_ends c.args.roster.now.declaration c.decl.ensures.lawful.declared c.args.solver.now.graph c.args.place p follows c.loop-clock.clock c.loop-clock.invariant (c.leads_on.ensures.not c.loop-clock-test.false)
