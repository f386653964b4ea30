use Rattle.std.proofs.Common.{length, ◌∙◌, subst, sym}
use Rattle.problem.specs.Listing.{listing_of}
use Rattle.problem_graph.specs.ListedStanding.{StandsForListed}
use Rattle.problem_graph.proofs.HeldStanding.{own_event}
use Rattle.attain.proofs.Events.{event_within}
use Rattle.solver_tests.proofs.interval_certificates.certify.Goals as goal

pub lend-lent-requires-clause-node : goal.lend-lent-requires-clause-node
lend-lent-requires-clause-node g c =
    let p = c.args.p.now in
    let readings = c.readings.result.now in
    let stands = c.requires.solution.stands readings c.readings.ensures in
    event_within (listing_of p) c.args.case.now.first (length c.args.s.now.graph.nodes) stands.nodes (c.args.case.now.first, (c.args.case.now.first, own_event p readings c.events.ensures.lawful c.readings.ensures c.args.case.now.first c.requires.first))

pub write_by-requires-clause-solution : goal.write_by-requires-clause-solution
write_by-requires-clause-solution g c = record {
  current = c.lend-lent.ensures.leaves.current;
  stands = λ readings are. subst (StandsForListed (listing_of c.args.p.now) c.args.p.now readings) (sym c.lend-lent.ensures.leaves.answer.graph) (c.requires.solution.stands readings are);
}

pub write_by-requires-clause-solved : goal.write_by-requires-clause-solved
write_by-requires-clause-solved g c = c.lend-lent.ensures.leaves.answer.contradiction ∙ c.requires.solved

pub write_by-requires-clause-rows : goal.write_by-requires-clause-rows
write_by-requires-clause-rows g c = record {
  from_node = c.lent.ensures.from c.args.case.now.first c.lend-lent.ensures.rows;
  to_node = c.lent.ensures.to c.args.case.now.first c.lend-lent.ensures.rows;
  cells_from = c.lent.ensures.cells_from;
  cells_to = c.lent.ensures.cells_to;
}
