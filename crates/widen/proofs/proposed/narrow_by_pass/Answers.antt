use Rattle.std.proofs.Common.{sym, subst, ◌∙◌, ap}
use Rattle.std.specs.Prelude.{All}
use Rattle.sync_graph.specs.Graph.{GraphLists}
use Rattle.widen.specs.Weighed.{IsNameOf}
use Rattle.widen.proofs.Weighing.{names_held}
use Rattle.widen.proofs.proposed.narrow_by_pass.Goals as goal

pub propose-requires-clause-bounds : goal.propose-requires-clause-bounds
propose-requires-clause-bounds g c =
    let p = c.args.p.now in
    subst (λ (h : GraphLists). All (IsNameOf p) h.arcs) (sym c.graph.ensures) (names_held p c.readings.result.now c.args.s.now.graph c.readings.ensures c.requires.graph)

pub heals-requires-clause-nodes : goal.heals-requires-clause-nodes
heals-requires-clause-nodes g c = λ readings are. ap (λ (h : GraphLists). h.nodes) c.graph.ensures ∙ (c.requires.graph readings are).2.nodes_are
