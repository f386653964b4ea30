use Rattle.std.proofs.Common.{◌<◌, List, length, sym, subst, arith}
use Rattle.problem_model.specs.declared.items.Clock.{Clock}
use Rattle.problem_graph.specs.BoundArcs.{arcs_in}
use Rattle.problem_solver.proofs.ItemArcs.{below_all, clock_below, rising, span_of_item}
use Rattle.problem_solver.proofs.item_arcs.arcs_of_span.Goals as goal

pub bounds-clocks-a : goal.bounds-clocks-a
bounds-clocks-a c =
    subst (λ (cs : List Clock). c.args.a.0 < length cs) (sym c.clocks.ensures.value)
    (clock_below c.args.p.now c.args.readings.now c.clocks.ensures.lawful c.requires.readings c.args.k c.requires.item c.args.a c.args.b c.requires.a c.requires.b)

pub node_of_reading-first-requires : goal.node_of_reading-first-requires
node_of_reading-first-requires c = below_all c.args.p.now c.args.readings.now c.clocks.ensures.lawful c.requires.readings c.args.k (let inside = c.requires.item.0 in omega (arith, inside))

pub span_arcs-requires : goal.span_arcs-requires
span_arcs-requires c = rising c.args.p.now c.args.readings.now c.clocks.ensures.lawful c.requires.readings c.args.k c.requires.item c.args.a c.args.b c.requires.a c.requires.b

pub returns : goal.returns
returns c =
    span_of_item c.args.p.now c.args.readings.now c.clocks.ensures.lawful c.requires.readings c.args.k c.requires.item c.args.a c.args.b c.requires.a c.requires.b
    c.index-clocks-a.result c.clocks.result.now c.clocks.ensures.value c.index-clocks-a.is c.node_of_reading-first.result c.node_of_reading-first.ensures.node
    (arcs_in c.span_arcs.result) c.span_arcs.ensures
