use Rattle.std.proofs.Common.{◌≡◌, slice_get, Some, sym, ap, ◌∙◌, ◌++◌, ◌∷◌, [], subst, List}
use Rattle.problem_model.specs.declared.items.Node.{Node}
use Rattle.sync_graph.specs.Graph.{GraphLists, IsGraph}
use Rattle.sync_graph.proofs.Copies.{front_more, not_before}
use Rattle.sync_graph.proofs.graph.Graph.without_arcs.Goals as goal

pub push_node-requires-clause-new : goal.push_node-requires-clause-new
push_node-requires-clause-new c = λ k at.
    let is : IsGraph c.args.self.now = subst IsGraph c.self.view_is c.self.invariant in
    let here : slice_get c.args.self.now.nodes c.loop-k.k ≡ Some c.node.result = subst (λ (g : GraphLists). slice_get g.nodes c.loop-k.k ≡ Some c.node.result) c.self.view_is c.node.ensures in
    not_before c.args.self.now.nodes c.loop-k.k c.node.result is.nodes_differ here k (subst (λ (ns : List Node). slice_get ns k ≡ Some c.node.result) c.loop-k.invariant.nodes at)

pub loop-k-preserved : goal.loop-k-preserved
loop-k-preserved c =
    let here : slice_get c.args.self.now.nodes c.loop-k.k ≡ Some c.node.result = subst (λ (g : GraphLists). slice_get g.nodes c.loop-k.k ≡ Some c.node.result) c.self.view_is c.node.ensures in
    record {
      nodes = ap (λ (g : GraphLists). g.nodes) c.in_ok-push_node.ensures.ok ∙ ap (λ (ns : List Node). ns ++ c.node.result ∷ []) c.loop-k.invariant.nodes ∙ sym (front_more c.args.self.now.nodes c.loop-k.k c.node.result here);
      arcs = ap (λ (g : GraphLists). g.arcs) c.in_ok-push_node.ensures.ok ∙ c.loop-k.invariant.arcs;
      flags = ap (λ (g : GraphLists). g.in_force) c.in_ok-push_node.ensures.ok ∙ c.loop-k.invariant.flags;
    }
