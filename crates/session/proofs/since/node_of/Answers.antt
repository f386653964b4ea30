use Rattle.session.proofs.Settles.{node_found, number_inside}
use Rattle.session.proofs.since.node_of.Goals as goal

pub event-requires : goal.event-requires
event-requires c = number_inside c.args.names.now c.decl.ensures.lawful c.args.event c.number_of.result c.number_of.ensures

pub returns : goal.returns
returns c = node_found c.args.names.now c.decl.ensures.lawful c.args.event c.number_of.result c.event.result c.number_of.ensures c.event.ensures
