use Rattle.std.proofs.Common.{◌≡◌, ◌<◌, [], length, sym, subst}
use Rattle.sync_graph.specs.Graph.{GraphLists}
use Rattle.repair.specs.Pairs.{IsPairIn}
use Rattle.solver.specs.Solver.{SolverLists}
use Rattle.solver.specs.Current.{IsCurrent}
use Rattle.solver.specs.contracts.solver.Solver.{the_view}
use Rattle.solver.proofs.Asked.{of_this}
use Rattle.solver.proofs.Staying.{leaves_all}
use Rattle.solver.proofs.Telling.{pair_turned}
use Rattle.solver.proofs.solver.Solver.pair.Goals as goal

pub returns-in-Some-clause-pair : goal.returns-in-Some-clause-pair
returns-in-Some-clause-pair g c =
    let s : SolverLists = the_view c.self.inside in
    let current : IsCurrent s = subst IsCurrent (sym c.self.view_is) c.requires.current in
    let none : s.contradiction ≡ [] = subst (λ (x : SolverLists). x.contradiction ≡ []) (sym c.self.view_is) c.requires.solved in
    subst (λ (x : SolverLists). IsPairIn x.graph c.args.p c.args.q c.in-Some.pair) c.self.view_is
    (of_this s current none (λ (h : GraphLists). IsPairIn h c.args.p c.args.q c.in-Some.pair) c.in-Some.ensures.2)

pub returns-in-Some-look-clause-pair : goal.returns-in-Some-look-clause-pair
returns-in-Some-look-clause-pair g c =
    let s : SolverLists = the_view c.self.inside in
    let current : IsCurrent s = subst IsCurrent (sym c.self.view_is) c.requires.current in
    let none : s.contradiction ≡ [] = subst (λ (x : SolverLists). x.contradiction ≡ []) (sym c.self.view_is) c.requires.solved in
    let p : c.args.p < length s.graph.nodes = subst (λ (x : SolverLists). c.args.p < length x.graph.nodes) (sym c.self.view_is) c.requires.p in
    let q : c.args.q < length s.graph.nodes = subst (λ (x : SolverLists). c.args.q < length x.graph.nodes) (sym c.self.view_is) c.requires.q in
    let back : IsPairIn s.graph c.args.q c.args.p c.in-Some-look.pair = of_this s current none (λ (h : GraphLists). IsPairIn h c.args.q c.args.p c.in-Some-look.pair) c.in-Some-look.ensures.2 in
    subst (λ (x : SolverLists). IsPairIn x.graph c.args.p c.args.q c.turned.result) c.self.view_is
    (pair_turned s.graph c.args.p c.args.q c.in-Some-look.pair c.turned.result p q back c.turned.ensures.up c.turned.ensures.down)

pub returns-in-Some-clause-leaves : goal.returns-in-Some-clause-leaves
returns-in-Some-clause-leaves g c = leaves_all c.args.self.now c.requires.current

pub returns-in-Some-look-clause-leaves : goal.returns-in-Some-look-clause-leaves
returns-in-Some-look-clause-leaves g c = leaves_all c.args.self.now c.requires.current
