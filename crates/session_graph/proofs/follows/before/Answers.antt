use Rattle.session_graph.proofs.HostClocks.{back_begins, back_goes, back_found, back_ends}
use Rattle.session_graph.proofs.follows.before.Goals as goal

pub loop-clock-init : goal.loop-clock-init
loop-clock-init c = back_begins c.args.roster.now.declaration c.decl.ensures.lawful.declared c.args.solver.now.graph c.args.place c.requires.clock

pub returns-in-Some : goal.returns-in-Some
returns-in-Some c = λ p follows.
    back_found c.args.roster.now.declaration c.decl.ensures.lawful.declared c.args.solver.now.graph c.args.place p follows c.loop-clock.clock c.in-Some.stamp c.loop-clock.invariant (c.leads_back.ensures.one c.loop-clock-test.true) c.in-Some.ensures.some

pub loop-clock-preserved : goal.loop-clock-preserved
loop-clock-preserved c =
    back_goes c.args.roster.now.declaration c.decl.ensures.lawful.declared c.args.solver.now.graph c.args.place c.loop-clock.clock c.loop-clock.invariant (c.leads_back.ensures.one c.loop-clock-test.true) c.in_default.ensures.none

pub returns : goal.returns
returns c = λ p follows.
    back_ends c.args.roster.now.declaration c.decl.ensures.lawful.declared c.args.solver.now.graph c.args.place p follows c.loop-clock.clock c.loop-clock.invariant (c.leads_back.ensures.not c.loop-clock-test.false)
