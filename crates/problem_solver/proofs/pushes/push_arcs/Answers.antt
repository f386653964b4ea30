use Rattle.std.proofs.Common.{◌∷◌, [], sym, subst}
use Rattle.sync_graph.specs.Graph.{GraphLists}
use Rattle.problem_graph.specs.declared.arcs.Arcs.{Arcs}
use Rattle.problem_graph.specs.BoundArcs.{FitsNodes, IsBoundAmong, arcs_in, names_of}
use Rattle.problem_graph.proofs.MadeArcs.{of_first, of_one, of_second}
use Rattle.problem_graph.proofs.OneMore.{on_ok}
use Rattle.problem_solver.specs.Pushing.{AddsBounds}
use Rattle.problem_solver.proofs.Bringing.{adds_then}
use Rattle.problem_solver.proofs.pushes.push_arcs.Goals as goal

pub push_arc-requires-in-Two-2-clause-fits : goal.push_arc-requires-in-Two-2-clause-fits
push_arc-requires-in-Two-2-clause-fits g c =
    subst (λ (h : GraphLists). FitsNodes h.nodes c.in-Two.b) (sym c.in_ok-push_arc-in-Two.ensures.graph)
    (of_second (FitsNodes c.args.s.now.graph.nodes) c.args.arcs c.requires.fit c.in-Two.a c.in-Two.b c.in-Two.is)

pub returns-in-One : goal.returns-in-One
returns-in-One g c = on_ok c.push_arc.result c.push_arc.ensures.added (λ added p each.
    subst (λ (x : Arcs). AddsBounds p (names_of (arcs_in x)) c.args.s.now c.push_arc.new.s) (sym c.in-One.is)
    (added p (of_one (IsBoundAmong p c.args.s.now.graph.nodes) c.args.arcs each c.in-One.a c.in-One.is)))

pub returns-in_ok-push_arc-in-Two : goal.returns-in_ok-push_arc-in-Two
returns-in_ok-push_arc-in-Two g c = on_ok c.push_arc-in-Two-2.result c.push_arc-in-Two-2.ensures.added (λ added p each.
    let s = c.args.s.now in
    let a = c.in-Two.a in
    let b = c.in-Two.b in
    let first : AddsBounds p (a.name ∷ []) s c.push_arc-in-Two.new.s =
    c.in_ok-push_arc-in-Two.ensures.added p (of_first (IsBoundAmong p s.graph.nodes) c.args.arcs each a b c.in-Two.is) in
    let bound : IsBoundAmong p c.push_arc-in-Two.new.s.graph.nodes b =
    subst (λ (h : GraphLists). IsBoundAmong p h.nodes b) (sym c.in_ok-push_arc-in-Two.ensures.graph) (of_second (IsBoundAmong p s.graph.nodes) c.args.arcs each a b c.in-Two.is) in
    subst (λ (x : Arcs). AddsBounds p (names_of (arcs_in x)) s c.push_arc-in-Two-2.new.s) (sym c.in-Two.is)
    (adds_then p (a.name ∷ []) (b.name ∷ []) s c.push_arc-in-Two.new.s c.push_arc-in-Two-2.new.s first (added p bound)))
