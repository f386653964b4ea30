use Rattle.std.proofs.Common.{◌∷◌, [], List, arith}
use Rattle.problem_model.specs.declared.items.Bound.{Bound}
use Rattle.problem_model.specs.declared.items.Bound.TheVariants.{Late, Early}
use Rattle.problem_model.specs.declared.items.Node.TheVariants as nodes
use Rattle.session_graph.specs.Links.{bounds_beside}
use Rattle.session_graph.proofs.Bringing.{brings_then, has_still, links_few}
use Rattle.session_graph.proofs.Extending.{few_then}
use Rattle.session_graph.proofs.entries.push_entry.Goals as goal

pub push_stamp-requires-clause-current : goal.push_stamp-requires-clause-current
push_stamp-requires-clause-current g c = c.in_ok-push_links.ensures.brings.current

pub push_stamp-requires-clause-from : goal.push_stamp-requires-clause-from
push_stamp-requires-clause-from g c = has_still c.args.solver.now c.push_links.new.solver (nodes.Reading c.args.reading.now.place c.args.reading.now.stamp) c.in_ok-push_links.ensures.brings.nodes c.requires.reading

pub push_stamp-requires-clause-to : goal.push_stamp-requires-clause-to
push_stamp-requires-clause-to g c = has_still c.args.solver.now c.push_links.new.solver (nodes.Event c.args.v) c.in_ok-push_links.ensures.brings.nodes c.requires.event

pub push_stamp-requires-clause-room : goal.push_stamp-requires-clause-room
push_stamp-requires-clause-room g c =
    let few = links_few c.args.reading.now.place c.args.reading.now.stamp c.args.nearest.now c.requires.there.first c.requires.there.last in
    let count = c.in_ok-push_links.ensures.brings.count in
    let room = c.requires.room in
    omega (arith, few, count, room)

pub returns-clause-brings : goal.returns-clause-brings
returns-clause-brings g c =
    let own : List Bound = Late c.args.v ∷ Early c.args.v ∷ [] in
    brings_then (bounds_beside c.args.reading.now.place c.args.reading.now.stamp c.args.nearest.now) own c.args.solver.now c.push_links.new.solver c.push_stamp.new.solver c.in_ok-push_links.ensures.brings c.in_ok-push_stamp.ensures.brings

pub returns-clause-left : goal.returns-clause-left
returns-clause-left g c = λ p entered event on is stamped bounded clock follows beside left.
    let own : List Bound = Late c.args.v ∷ Early c.args.v ∷ [] in
    c.in_ok-push_stamp.ensures.left p entered [] event on is stamped bounded clock (c.in_ok-push_links.ensures.left p entered own clock follows beside left)

pub returns-clause-steps : goal.returns-clause-steps
returns-clause-steps g c =
    few_then c.args.solver.now c.push_links.new.solver c.push_stamp.new.solver c.args.steps.now c.push_links.new.steps c.push_stamp.new.steps
    c.in_ok-push_links.ensures.steps c.in_ok-push_stamp.ensures.steps
