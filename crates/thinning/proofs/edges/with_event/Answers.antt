use Rattle.thinning.proofs.Edging.{edges_with}
use Rattle.thinning.proofs.edges.with_event.Goals as goal

pub returns-in-Some : goal.returns-in-Some
returns-in-Some c =
    edges_with c.args.events.now c.args.place c.args.edges c.in-Some.edges c.earlier_of.result c.later_of.result c.in-Some.is c.requires c.earlier_of.ensures c.later_of.ensures
