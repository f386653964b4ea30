use Rattle.std.proofs.Common.{sym, ◌∙◌, inl}
use Rattle.std.proofs.lemmas.Option.{none-some}
use Rattle.problem_model.specs.declared.items.Node.TheVariants as nodes
use Rattle.problem.specs.Listing.{all_readings}
use Rattle.problem.proofs.OwnReadings.{own_readings}
use Rattle.queries.proofs.Solutions.{event_by, event_below, reading_by, reading_below, reading_is, slot_reading}
use Rattle.queries.proofs.time.write_answer.Goals as goal

pub source_pair-requires-clause-q : goal.source_pair-requires-clause-q
source_pair-requires-clause-q g c =
    event_below (g.N.Listing.listed c.args.names.now) c.requires.problem c.args.solver.now c.requires.solution c.requires.place c.args.event c.requires.at

pub write_line-requires : goal.write_line-requires
write_line-requires g c =
    let l = g.N.Listing.listed c.args.names.now in
    let p = c.requires.problem in
    let s = c.args.solver.now in
    let solution = c.requires.solution in
    let told = c.in-Some.ensures in
    let reads = slot_reading l p s solution told.0 told.1 c.requires.clock c.args.stamp c.requires.source in
    c.pairs.ensures.fits l p s told.0.node c.args.event c.in-Some.pair solution c.requires.none
    (reading_below l p s solution c.requires.clock c.args.stamp told.0.node reads) (event_below l p s solution c.requires.place c.args.event c.requires.at) told.2

pub unreachable-requires : goal.unreachable-requires
unreachable-requires g c =
    let source = c.requires.source in
    none-some source.0 (sym c.in-None.ensures ∙ source.1)

pub returns : goal.returns
returns g c = λ p clock place solution keeps source at.
    let l = g.N.Listing.listed c.args.names.now in
    let s = c.args.solver.now in
    let rs = all_readings p.events in
    let are = own_readings p in
    let none = c.requires.none in
    let told = c.in-Some.ensures in
    let some = c.executions.ensures.earliest l p rs s are solution none in
    let reads = slot_reading l p s solution told.0 told.1 clock c.args.stamp source in
    let is = c.pairs.ensures.pair l p rs s told.0.node c.args.event (nodes.Reading clock c.args.stamp) (nodes.Event place) c.in-Some.pair are solution none
    (reading_by l p s solution clock c.args.stamp told.0.node reads) (event_by l p s solution place c.args.event at) told.2 in
    let line = c.write_line.ensures p clock place keeps (reading_is l p s solution clock c.args.stamp told.0.node reads) is in
    (line.0, inl ((some.0, some.2.execution), line.1), line.2)
