use Rattle.std.proofs.Common.{◌≡◌, ◌++◌, ◌∷◌, [], length, refl, sym, ◌∙◌, ap, subst, arith}
use Rattle.sync_graph.specs.Graph.{GraphLists, with_arc}
use Rattle.problem_graph.specs.declared.arcs.Arcs.{Arcs}
use Rattle.problem_graph.specs.BoundArcs.{FitsNodes, IsBoundAmong, arcs_in, names_of}
use Rattle.problem_graph.proofs.MadeArcs.{of_first, of_one, of_second}
use Rattle.problem_graph.proofs.OneMore.{on_ok}
use Rattle.roster.specs.Growing.{IsGrowing}
use Rattle.session_graph.specs.Pushes.{Brings, with_arcs}
use Rattle.session_graph.proofs.Bringing.{brings_none, brings_then, grows_one}
use Rattle.session_graph.proofs.Extending.{few_none, few_then}
use Rattle.session_graph.proofs.pushes.push_arcs.Goals as goal

-- ---- one
pub push_arc-requires-clause-room : goal.push_arc-requires-clause-room
push_arc-requires-clause-room g c =
    let many = ap (λ (x : Arcs). length (arcs_in x)) c.in-One.is in
    let room = c.requires.room in
    omega (arith, many, room)

pub returns-in-One-clause-brings : goal.returns-in-One-clause-brings
returns-in-One-clause-brings g c = on_ok c.push_arc.result c.push_arc.ensures.brings (λ brings.
    subst (λ (x : Arcs). Brings (names_of (arcs_in x)) c.args.solver.now c.push_arc.new.solver) (sym c.in-One.is) brings)

pub returns-in-One-clause-graph : goal.returns-in-One-clause-graph
returns-in-One-clause-graph g c = on_ok c.push_arc.result c.push_arc.ensures.graph (λ is.
    subst (λ (x : Arcs). c.push_arc.new.solver.graph ≡ with_arcs c.args.solver.now.graph (arcs_in x)) (sym c.in-One.is) is)

pub returns-in-One-clause-left : goal.returns-in-One-clause-left
returns-in-One-clause-left g c = on_ok c.push_arc.result c.push_arc.ensures.graph (λ is p entered rest each left.
    let s = c.args.solver.now in
    grows_one p entered rest s c.push_arc.new.solver c.in-One.a c.requires.current is (of_one (IsBoundAmong p s.graph.nodes) c.args.arcs each c.in-One.a c.in-One.is)
    (subst (λ (x : Arcs). IsGrowing p entered (names_of (arcs_in x) ++ rest) s.graph) c.in-One.is left))

-- ---- two
pub push_arc-requires-in-Two-clause-room : goal.push_arc-requires-in-Two-clause-room
push_arc-requires-in-Two-clause-room g c =
    let many = ap (λ (x : Arcs). length (arcs_in x)) c.in-Two.is in
    let room = c.requires.room in
    omega (arith, many, room)

pub push_arc-requires-in-Two-2-clause-current : goal.push_arc-requires-in-Two-2-clause-current
push_arc-requires-in-Two-2-clause-current g c = c.in_ok-push_arc-in-Two.ensures.brings.current

pub push_arc-requires-in-Two-2-clause-fits : goal.push_arc-requires-in-Two-2-clause-fits
push_arc-requires-in-Two-2-clause-fits g c =
    subst (λ (h : GraphLists). FitsNodes h.nodes c.in-Two.b) (sym c.in_ok-push_arc-in-Two.ensures.graph)
    (of_second (FitsNodes c.args.solver.now.graph.nodes) c.args.arcs c.requires.fit c.in-Two.a c.in-Two.b c.in-Two.is)

pub push_arc-requires-in-Two-2-clause-room : goal.push_arc-requires-in-Two-2-clause-room
push_arc-requires-in-Two-2-clause-room g c =
    let many = ap (λ (x : Arcs). length (arcs_in x)) c.in-Two.is in
    let count = c.in_ok-push_arc-in-Two.ensures.brings.count in
    let room = c.requires.room in
    omega (arith, many, count, room)

pub returns-in_ok-push_arc-in-Two-clause-brings : goal.returns-in_ok-push_arc-in-Two-clause-brings
returns-in_ok-push_arc-in-Two-clause-brings g c = on_ok c.push_arc-in-Two-2.result c.push_arc-in-Two-2.ensures.brings (λ brings.
    subst (λ (x : Arcs). Brings (names_of (arcs_in x)) c.args.solver.now c.push_arc-in-Two-2.new.solver) (sym c.in-Two.is)
    (brings_then (c.in-Two.a.name ∷ []) (c.in-Two.b.name ∷ []) c.args.solver.now c.push_arc-in-Two.new.solver c.push_arc-in-Two-2.new.solver c.in_ok-push_arc-in-Two.ensures.brings brings))

pub returns-in_ok-push_arc-in-Two-clause-steps : goal.returns-in_ok-push_arc-in-Two-clause-steps
returns-in_ok-push_arc-in-Two-clause-steps g c = on_ok c.push_arc-in-Two-2.result c.push_arc-in-Two-2.ensures.steps (λ few.
    few_then c.args.solver.now c.push_arc-in-Two.new.solver c.push_arc-in-Two-2.new.solver c.args.steps.now c.push_arc-in-Two.new.steps c.push_arc-in-Two-2.new.steps
    c.in_ok-push_arc-in-Two.ensures.steps few)

pub returns-in_ok-push_arc-in-Two-clause-graph : goal.returns-in_ok-push_arc-in-Two-clause-graph
returns-in_ok-push_arc-in-Two-clause-graph g c = on_ok c.push_arc-in-Two-2.result c.push_arc-in-Two-2.ensures.graph (λ is.
    subst (λ (x : Arcs). c.push_arc-in-Two-2.new.solver.graph ≡ with_arcs c.args.solver.now.graph (arcs_in x)) (sym c.in-Two.is)
    (is ∙ ap (λ (h : GraphLists). with_arc h c.in-Two.b) c.in_ok-push_arc-in-Two.ensures.graph))

pub returns-in_ok-push_arc-in-Two-clause-left : goal.returns-in_ok-push_arc-in-Two-clause-left
returns-in_ok-push_arc-in-Two-clause-left g c = on_ok c.push_arc-in-Two-2.result c.push_arc-in-Two-2.ensures.graph (λ is p entered rest each left.
    let s = c.args.solver.now in
    let mid = c.push_arc-in-Two.new.solver in
    let a = c.in-Two.a in
    let b = c.in-Two.b in
    let second : IsBoundAmong p mid.graph.nodes b =
    subst (λ (h : GraphLists). IsBoundAmong p h.nodes b) (sym c.in_ok-push_arc-in-Two.ensures.graph) (of_second (IsBoundAmong p s.graph.nodes) c.args.arcs each a b c.in-Two.is) in
    grows_one p entered rest mid c.push_arc-in-Two-2.new.solver b c.in_ok-push_arc-in-Two.ensures.brings.current is second
    (grows_one p entered (b.name ∷ rest) s mid a c.requires.current c.in_ok-push_arc-in-Two.ensures.graph (of_first (IsBoundAmong p s.graph.nodes) c.args.arcs each a b c.in-Two.is)
    (subst (λ (x : Arcs). IsGrowing p entered (names_of (arcs_in x) ++ rest) s.graph) c.in-Two.is left)))

-- ---- none
pub returns-in-Nothing-clause-brings : goal.returns-in-Nothing-clause-brings
returns-in-Nothing-clause-brings g c =
    subst (λ (x : Arcs). Brings (names_of (arcs_in x)) c.args.solver.now c.args.solver.now) (sym c.in-Nothing.is) (brings_none c.args.solver.now c.requires.current)

pub returns-in-Nothing-clause-steps : goal.returns-in-Nothing-clause-steps
returns-in-Nothing-clause-steps g c = few_none c.args.solver.now c.args.steps.now

pub returns-in-Nothing-clause-graph : goal.returns-in-Nothing-clause-graph
returns-in-Nothing-clause-graph g c = subst (λ (x : Arcs). c.args.solver.now.graph ≡ with_arcs c.args.solver.now.graph (arcs_in x)) (sym c.in-Nothing.is) refl

pub returns-in-Nothing-clause-left : goal.returns-in-Nothing-clause-left
returns-in-Nothing-clause-left g c = λ p entered rest each left.
    subst (λ (x : Arcs). IsGrowing p entered (names_of (arcs_in x) ++ rest) c.args.solver.now.graph) c.in-Nothing.is left
