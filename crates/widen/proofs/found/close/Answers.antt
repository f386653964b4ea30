use Rattle.std.proofs.Common.{arith, sym, subst}
use Rattle.sync_graph.specs.Graph.{GraphLists}
use Rattle.problem_graph.specs.HeldBounds.{HoldsShortList}
use Rattle.widen.proofs.Concluding.{high_within}
use Rattle.widen.proofs.found.close.Goals as goal

pub widenings-init : goal.widenings-init
widenings-init g c =
    let high = high_within c.args.what c.args.p.now c.args.known.now c.requires.known in
    record { known = c.requires.known; some = omega arith; counted = omega (arith, high) }

pub try_widening-requires-clause-extra : goal.try_widening-requires-clause-extra
try_widening-requires-clause-extra g c =
    let high = high_within c.args.what c.args.p.now c.widenings.known c.widenings.invariant.known in
    omega (arith, high, c.next-extra.ensures.below)

pub try_widening-requires-clause-graph : goal.try_widening-requires-clause-graph
try_widening-requires-clause-graph g c = subst (λ (h : GraphLists). HoldsShortList c.args.p.now h) (sym c.graph-g.ensures) c.requires.graph

pub narrow-requires-clause-tried : goal.narrow-requires-clause-tried
narrow-requires-clause-tried g c = (c.args.what, c.args.p.now, c.in_ok-tried.ensures)

pub widenings-preserved : goal.widenings-preserved
widenings-preserved g c = record {
  known = c.narrow.ensures.known c.args.what c.args.p.now c.widenings.invariant.known c.in_ok-tried.ensures;
  some = omega arith;
  counted = omega (arith, c.narrow.ensures.closer, c.widenings.invariant.counted);
}

pub returns-clause-known : goal.returns-clause-known
returns-clause-known g c = c.widenings.invariant.known

pub returns-clause-some : goal.returns-clause-some
returns-clause-some g c = c.widenings.invariant.some
