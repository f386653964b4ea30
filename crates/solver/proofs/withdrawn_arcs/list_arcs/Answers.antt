use Rattle.std.proofs.Common.{◌∷◌, ◌++◌, [], List, get_or, ap, ◌∙◌, sym, arith}
use Rattle.sync_graph.specs.declared.arc.Arc.{Arc}
use Rattle.sync_graph.specs.Graph.{arc_at}
use Rattle.solver.proofs.Cutting.{numbered_more, numbered_all}
use Rattle.solver.proofs.withdrawn_arcs.list_arcs.Goals as goal

pub list_arc-requires : goal.list_arc-requires
list_arc-requires c = c.requires c.loop-k.k-index 0 c.loop-k-test.true

pub loop-k-preserved : goal.loop-k-preserved
loop-k-preserved c =
    c.in_ok-list_arc.ensures
    ∙ ap (λ (xs : List Arc). xs ++ arc_at c.args.g.now.arcs (get_or c.args.numbers.now c.loop-k.k-index 0) ∷ []) c.loop-k.invariant
    ∙ sym (numbered_more c.args.g.now.arcs c.args.numbers.now c.loop-k.k-index c.loop-k-test.true)

pub returns : goal.returns
returns c = c.loop-k.invariant ∙ numbered_all c.args.g.now.arcs c.args.numbers.now c.loop-k.k-index (omega (arith, c.loop-k-test.false))
