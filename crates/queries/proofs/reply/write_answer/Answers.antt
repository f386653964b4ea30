use Rattle.std.proofs.Common.{◌≡◌, inl}
use Rattle.problem_model.specs.declared.items.Node.TheVariants as nodes
use Rattle.problem.specs.Listing.{all_readings}
use Rattle.problem.proofs.OwnReadings.{own_readings}
use Rattle.ports.proofs.Writing.{writes_as}
use Rattle.queries.proofs.Solutions.{event_by, event_below}
use Rattle.queries.proofs.Hands.{where_one_kept}
use Rattle.queries.proofs.reply.write_answer.Goals as goal

pub pair-pair-requires-clause-p : goal.pair-pair-requires-clause-p
pair-pair-requires-clause-p g c =
    let asked = c.requires.asked in
    event_below (g.N.Listing.listed c.args.names.now) asked.problem c.args.solver.now asked.solution asked.events.0 c.args.question.first asked.events.2

pub pair-pair-requires-clause-q : goal.pair-pair-requires-clause-q
pair-pair-requires-clause-q g c =
    let asked = c.requires.asked in
    event_below (g.N.Listing.listed c.args.names.now) asked.problem c.args.solver.now asked.solution asked.events.1 c.args.question.second asked.events.3

pub line_for-line-requires : goal.line_for-line-requires
line_for-line-requires g c =
    let l = g.N.Listing.listed c.args.names.now in
    let s = c.args.solver.now in
    let asked = c.requires.asked in
    let p = asked.problem in
    c.pairs.ensures.fits l p s c.args.question.first c.args.question.second c.pair-pair.result asked.solution asked.none
    (event_below l p s asked.solution asked.events.0 c.args.question.first asked.events.2) (event_below l p s asked.solution asked.events.1 c.args.question.second asked.events.3) c.pair-pair.ensures.pair

pub returns-clause-writes : goal.returns-clause-writes
returns-clause-writes g c = λ p i j solution at at'.
    let l = g.N.Listing.listed c.args.names.now in
    let s = c.args.solver.now in
    let rs = all_readings p.events in
    let are = own_readings p in
    let none = c.requires.asked.none in
    let some = c.executions.ensures.earliest l p rs s are solution none in
    let is = c.pairs.ensures.pair l p rs s c.args.question.first c.args.question.second (nodes.Event i) (nodes.Event j) c.pair-pair.result are solution none
    (event_by l p s solution i c.args.question.first at) (event_by l p s solution j c.args.question.second at') c.pair-pair.ensures.pair in
    (c.line_for-line.result.items, inl ((some.0, some.2.execution), c.line_for-line.ensures p i j is), writes_as c.as_slice.ensures.value c.write_whole.ensures)

pub returns-clause-steps : goal.returns-clause-steps
returns-clause-steps g c =
    where_one_kept c.args.solver.now c.requires.asked.none (c.pair-pair.new.steps ≡ c.args.steps.now) c.args.question.first c.args.question.second c.pair-pair.ensures.steps c.pair-pair.ensures.steps_turned
