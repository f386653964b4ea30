use Rattle.session_answers.proofs.RosterEvents.{found_inside, called_here}
use Rattle.session_answers.proofs.events.find_event.Goals as goal

pub event-came-requires : goal.event-came-requires
event-came-requires c = found_inside c.args.names.now c.decl.ensures.lawful c.args.name.now c.in-Some.number c.in-Some.ensures

pub returns-in-Some-clause-some : goal.returns-in-Some-clause-some
returns-in-Some-clause-some c = called_here c.args.names.now c.decl.ensures.lawful c.args.name.now c.in-Some.number c.event-came.result c.in-Some.ensures c.event-came.ensures
