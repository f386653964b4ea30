use Rattle.std.proofs.Common.{◌++◌, ℕ, List, sym, ap, subst, arith}
use Rattle.problem_model.specs.declared.items.Bound.{Bound}
use Rattle.problem_model.specs.declared.items.Node.TheVariants as nodes
use Rattle.problem.specs.Nearest.{gap_between}
use Rattle.problem_graph.proofs.MadeArcs.{as_many}
use Rattle.problem_graph.proofs.OneMore.{on_ok}
use Rattle.roster.specs.Growing.{IsGrowing}
use Rattle.session_graph.specs.Pushes.{Brings}
use Rattle.session_graph.proofs.Bringing.{reading_by}
use Rattle.session_graph.proofs.pushes.push_follow.Goals as goal

pub push_arcs-requires-clause-fit : goal.push_arcs-requires-clause-fit
push_arcs-requires-clause-fit g c = c.follow_arcs-arcs.ensures.fit c.args.solver.now.graph.nodes (c.number_of-first.ensures, c.number_of-second.ensures)

pub push_arcs-requires-clause-room : goal.push_arcs-requires-clause-room
push_arcs-requires-clause-room g c =
    let many = as_many c.follow_arcs-arcs.ensures in
    let room = c.requires.room in
    omega (arith, many, room)

pub returns-clause-brings : goal.returns-clause-brings
returns-clause-brings g c = on_ok c.push_arcs.result c.push_arcs.ensures.brings (λ brings.
    subst (λ (bs : List Bound). Brings bs c.args.solver.now c.push_arcs.new.solver) c.follow_arcs-arcs.ensures.named brings)

pub returns-clause-left : goal.returns-clause-left
returns-clause-left g c = on_ok c.push_arcs.result c.push_arcs.ensures.left (λ left p entered rest f has later gap after is.
    let is_s = reading_by p entered c.args.follow.now.earlier c.args.follow.now.s (is.nodes (nodes.Reading c.args.follow.now.earlier c.args.follow.now.s) c.requires.to) in
    let is_t = reading_by p entered c.args.later c.args.follow.now.t (is.nodes (nodes.Reading c.args.later c.args.follow.now.t) c.requires.from) in
    left p entered rest (c.follow_arcs-arcs.ensures.declared p c.args.solver.now.graph.nodes (c.number_of-first.ensures, c.number_of-second.ensures)
    (f, has, later, after, is_s, is_t, ap (λ (n : ℕ). gap_between c.args.follow.now.earlier c.args.follow.now.s c.args.later c.args.follow.now.t n) (sym gap)))
    (subst (λ (bs : List Bound). IsGrowing p entered (bs ++ rest) c.args.solver.now.graph) (sym c.follow_arcs-arcs.ensures.named) is))
