use Rattle.problem_model.specs.declared.items.Node.TheVariants as nodes
use Rattle.problem.specs.Listing.{listing_of, all_readings}
use Rattle.problem_graph.proofs.HeldStanding.{own_event}
use Rattle.problem.proofs.OwnReadings.{own_readings}
use Rattle.queries.proofs.Solutions.{event_by, event_below}
use Rattle.problem_commands.proofs.ends.interval.Goals as goal

pub pair-pair-requires-clause-p : goal.pair-pair-requires-clause-p
pair-pair-requires-clause-p g c =
    let p = c.args.p.now in
    event_below (listing_of p) p c.args.solver.now c.requires.solution c.args.from c.args.from (c.args.from, own_event p c.readings.result.now c.events.ensures.lawful c.readings.ensures c.args.from c.requires.from)

pub pair-pair-requires-clause-q : goal.pair-pair-requires-clause-q
pair-pair-requires-clause-q g c =
    let p = c.args.p.now in
    event_below (listing_of p) p c.args.solver.now c.requires.solution c.args.to c.args.to (c.args.to, own_event p c.readings.result.now c.events.ensures.lawful c.readings.ensures c.args.to c.requires.to)

pub answer-requires : goal.answer-requires
answer-requires g c =
    let p = c.args.p.now in
    let l = listing_of p in
    let s = c.args.solver.now in
    let solution = c.requires.solution in
    let at = own_event p c.readings.result.now c.events.ensures.lawful c.readings.ensures c.args.from c.requires.from in
    let at' = own_event p c.readings.result.now c.events.ensures.lawful c.readings.ensures c.args.to c.requires.to in
    c.pairs.ensures.fits l p s c.args.from c.args.to c.pair-pair.result solution c.requires.solved
    (event_below l p s solution c.args.from c.args.from (c.args.from, at)) (event_below l p s solution c.args.to c.args.to (c.args.to, at')) c.pair-pair.ensures.pair

pub returns : goal.returns
returns g c =
    let p = c.args.p.now in
    let l = listing_of p in
    let s = c.args.solver.now in
    let solution = c.requires.solution in
    let at = own_event p c.readings.result.now c.events.ensures.lawful c.readings.ensures c.args.from c.requires.from in
    let at' = own_event p c.readings.result.now c.events.ensures.lawful c.readings.ensures c.args.to c.requires.to in
    c.answer.ensures p c.args.from c.args.to
    (c.pairs.ensures.pair l p (all_readings p.events) s c.args.from c.args.to (nodes.Event c.args.from) (nodes.Event c.args.to) c.pair-pair.result (own_readings p) solution c.requires.solved
    (event_by l p s solution c.args.from c.args.from (c.args.from, at)) (event_by l p s solution c.args.to c.args.to (c.args.to, at')) c.pair-pair.ensures.pair)
