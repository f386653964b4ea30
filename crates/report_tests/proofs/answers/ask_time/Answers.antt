use Rattle.std.proofs.Common.{ℕ, sym, ap, subst}
use Rattle.problem.specs.Listing.{listing_of}
use Rattle.repair.specs.Slots.{KeptRows}
use Rattle.queries.specs.Asking.{IsListedReading}
use Rattle.queries.proofs.Solutions.{reading_below, goes_on}
use Rattle.report_tests.proofs.answers.ask_time.Goals as goal

pub keep_source-requires-clause-node : goal.keep_source-requires-clause-node
keep_source-requires-clause-node g c =
    let p = c.args.p.now in
    let reading = c.in_ok-reading.reading in
    reading_below (listing_of p) p c.args.solver.now c.requires.solution c.args.case.now.clock reading.0 reading.1 c.in_ok-reading.ensures

pub write_time-requires-clause-solution : goal.write_time-requires-clause-solution
write_time-requires-clause-solution g c =
    let p = c.args.p.now in
    (p, goes_on (listing_of p) p c.args.solver.now c.keep_source.new.self c.keep_source.ensures.leaves.answer c.keep_source.ensures.leaves.current c.requires.solution)

pub write_time-requires-clause-source : goal.write_time-requires-clause-source
write_time-requires-clause-source g c =
    let p = c.args.p.now in
    let reading = c.in_ok-reading.reading in
    let takes = c.keep_source.ensures.takes in
    let at = subst (λ (node : ℕ). IsListedReading (listing_of p) c.args.case.now.clock reading.0 node) (sym takes.1) c.in_ok-reading.ensures in
    (c.args.case.now.clock, (takes.0, ap (λ (kept : KeptRows). kept.source) takes.2, at))
