use Rattle.std.proofs.Common.{◌<◌, length, sym, subst}
use Rattle.sync_graph.specs.Kinds.{named_arcs}
use Rattle.sync_graph.proofs.Compact.{arc_sound, arc_joins}
use Rattle.sync_graph.proofs.graph.Graph.arc.Goals as goal

pub node-from-requires : goal.node-from-requires
node-from-requires c =
    let s = c.self.inside in
    let inside : c.args.k < length (named_arcs s.numbers s.arcs) = subst (λ g. c.args.k < length g.arcs) (sym c.self.view_is) c.requires in
    (arc_sound s.numbers s.arcs c.args.k c.get-a.result c.self.invariant.sound c.self.invariant.named inside c.get-a.ensures).from

pub node-to-requires : goal.node-to-requires
node-to-requires c =
    let s = c.self.inside in
    let inside : c.args.k < length (named_arcs s.numbers s.arcs) = subst (λ g. c.args.k < length g.arcs) (sym c.self.view_is) c.requires in
    (arc_sound s.numbers s.arcs c.args.k c.get-a.result c.self.invariant.sound c.self.invariant.named inside c.get-a.ensures).to

pub name_between-requires : goal.name_between-requires
name_between-requires c =
    let s = c.self.inside in
    let inside : c.args.k < length (named_arcs s.numbers s.arcs) = subst (λ g. c.args.k < length g.arcs) (sym c.self.view_is) c.requires in
    arc_joins s.numbers s.arcs c.args.k c.get-a.result c.self.invariant.sound c.self.invariant.named inside c.get-a.ensures c.node-from.result c.node-to.result c.node-from.ensures c.node-to.ensures
