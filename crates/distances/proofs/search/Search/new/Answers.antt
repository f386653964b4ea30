use Rattle.distances.proofs.Directions.{earliest_small, earliest_obeyed}
use Rattle.distances.proofs.Guiding.{no_guide_small}
use Rattle.distances.proofs.search.Search.new.Goals as goal

pub invariant_of-result : goal.invariant_of-result
invariant_of-result c = (
  c.requires.solved,
  c.requires.earliest.execution.one_each,
  earliest_small c.args.graph.now c.exact.ensures c.args.earliest.now.values c.requires.earliest,
  no_guide_small,
  record {
    graph = c.exact.ensures;
    obeyed = earliest_obeyed c.args.graph.now c.exact.ensures c.args.earliest.now.values c.requires.earliest;
    small = earliest_small c.args.graph.now c.exact.ensures c.args.earliest.now.values c.requires.earliest;
  },
)
