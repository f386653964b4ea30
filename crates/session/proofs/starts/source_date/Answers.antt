use Rattle.std.proofs.Common.{sym, ◌∙◌, rules}
use Rattle.std.proofs.lemmas.Int.{to_z-of_z}
use mir.Syntax.{w128}
use mir.Val.{SFits}
use Rattle.std.proofs.lemmas.Option.{none-some}
use Rattle.problem_model.specs.declared.items.Node.TheVariants as nodes
use Rattle.problem.specs.Listing.{all_readings}
use Rattle.problem.proofs.OwnReadings.{own_readings}
use Rattle.roster.specs.Roster.{listed}
use Rattle.queries.proofs.Solutions.{event_by, event_below, reading_by, reading_below, slot_reading}
use Rattle.session.proofs.starts.source_date.Goals as goal

pub source_pair-requires-clause-q : goal.source_pair-requires-clause-q
source_pair-requires-clause-q c =
    event_below (listed c.args.names.now) c.requires.problem c.args.solver.now c.requires.solution c.requires.place c.args.came.now.node c.requires.at

pub least_or-requires : goal.least_or-requires
least_or-requires c =
    let l = listed c.args.names.now in
    let p = c.requires.problem in
    let s = c.args.solver.now in
    let solution = c.requires.solution in
    let told = c.in-Some.ensures in
    let reads = slot_reading l p s solution told.0 told.1 c.requires.clock c.args.stamp c.requires.source in
    c.pairs.ensures.fits l p s told.0.node c.args.came.now.node c.in-Some.pair solution c.requires.none
    (reading_below l p s solution c.requires.clock c.args.stamp told.0.node reads) (event_below l p s solution c.requires.place c.args.came.now.node c.requires.at) told.2

pub unreachable-requires : goal.unreachable-requires
unreachable-requires c =
    let source = c.requires.source in
    none-some source.0 (sym c.in-None.ensures ∙ source.1)

pub returns : goal.returns
returns c = λ p clock place solution source at.
    let l = listed c.args.names.now in
    let s = c.args.solver.now in
    let rs = all_readings p.events in
    let told = c.in-Some.ensures in
    let reads = slot_reading l p s solution told.0 told.1 clock c.args.stamp source in
    let is = c.pairs.ensures.pair l p rs s told.0.node c.args.came.now.node (nodes.Reading clock c.args.stamp) (nodes.Event place) c.in-Some.pair (own_readings p) solution c.requires.none
    (reading_by l p s solution clock c.args.stamp told.0.node reads) (event_by l p s solution place c.args.came.now.node at) told.2 in
    let fits : SFits w128 c.least_or.result = search rules in
    (_, (c.source_times.ensures p clock c.args.stamp (nodes.Event place) c.in-Some.pair is).below, to_z-of_z w128 c.least_or.result fits ∙ c.least_or.ensures)
