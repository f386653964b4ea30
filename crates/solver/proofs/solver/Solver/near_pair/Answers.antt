use Rattle.std.proofs.Common.{◌≡◌, ℕ, ◌<◌, List, [], length, sym, ap, subst, ◌∙◌}
use Rattle.std.specs.Prelude.{IfSome}
use Rattle.row_pool.specs.declared.cell.Cell.{Cell}
use Rattle.row_pool.specs.Pool.{row_of, IsTakenRow}
use Rattle.distances.specs.Ends.{AreRowsAround}
use Rattle.repair.specs.Pairs.{IsPairIn}
use Rattle.solver.specs.Solver.{SolverLists}
use Rattle.solver.specs.Current.{IsCurrent}
use Rattle.solver.specs.contracts.solver.Solver.{the_view}
use Rattle.solver.proofs.Asked.{source_has, source_rows}
use Rattle.solver.proofs.Staying.{with_rows, solved_now}
use Rattle.solver.proofs.solver.Solver.near_pair.Goals as goal

pub row-requires : goal.row-requires
row-requires g c =
    let s : SolverLists = the_view c.self.inside in
    let current : IsCurrent s = subst IsCurrent (sym c.self.view_is) c.requires.current in
    let none : s.contradiction ≡ [] = subst (λ (x : SolverLists). x.contradiction ≡ []) (sym c.self.view_is) c.requires.solved in
    let told = c.in_ok-from.ensures in
    subst (λ (n : ℕ). IsTakenRow c.self.inside.pool n) (sym told.2) (source_has s current none told.0 told.1).from

pub row-requires-2 : goal.row-requires-2
row-requires-2 g c =
    let s : SolverLists = the_view c.self.inside in
    let current : IsCurrent s = subst IsCurrent (sym c.self.view_is) c.requires.current in
    let none : s.contradiction ≡ [] = subst (λ (x : SolverLists). x.contradiction ≡ []) (sym c.self.view_is) c.requires.solved in
    let told = c.in_ok-from.ensures in
    subst (λ (n : ℕ). IsTakenRow c.self.inside.pool n) (sym told.3) (source_has s current none told.0 told.1).to

pub pair_near-requires-clause-solved : goal.pair_near-requires-clause-solved
pair_near-requires-clause-solved g c =
    let s : SolverLists = the_view c.self.inside in
    let current : IsCurrent s = subst IsCurrent (sym c.self.view_is) c.requires.current in
    let none : s.contradiction ≡ [] = subst (λ (x : SolverLists). x.contradiction ≡ []) (sym c.self.view_is) c.requires.solved in
    (solved_now s current none).solved

pub pair_near-requires-clause-earliest : goal.pair_near-requires-clause-earliest
pair_near-requires-clause-earliest g c =
    let s : SolverLists = the_view c.self.inside in
    let current : IsCurrent s = subst IsCurrent (sym c.self.view_is) c.requires.current in
    let none : s.contradiction ≡ [] = subst (λ (x : SolverLists). x.contradiction ≡ []) (sym c.self.view_is) c.requires.solved in
    (solved_now s current none).earliest

pub pair_near-requires-clause-rows : goal.pair_near-requires-clause-rows
pair_near-requires-clause-rows g c =
    let s : SolverLists = the_view c.self.inside in
    let current : IsCurrent s = subst IsCurrent (sym c.self.view_is) c.requires.current in
    let none : s.contradiction ≡ [] = subst (λ (x : SolverLists). x.contradiction ≡ []) (sym c.self.view_is) c.requires.solved in
    let told = c.in_ok-from.ensures in
    let from : c.row.result.now ≡ row_of c.self.inside.pool told.0.from = c.row.ensures.value ∙ ap (row_of c.self.inside.pool) told.2 in
    let to : c.row-2.result.now ≡ row_of c.self.inside.pool told.0.to = c.row-2.ensures.value ∙ ap (row_of c.self.inside.pool) told.3 in
    subst (λ (cs : List Cell). AreRowsAround s.graph cs c.row-2.result.now) (sym from)
    (subst (λ (cs : List Cell). AreRowsAround s.graph (row_of s.pool told.0.from) cs) (sym to) (source_rows s current none told.0 told.1))

pub pair_near-requires-clause-p : goal.pair_near-requires-clause-p
pair_near-requires-clause-p g c = subst (λ (x : SolverLists). c.args.p < length x.graph.nodes) (sym c.self.view_is) c.requires.p

pub pair_near-requires-clause-q : goal.pair_near-requires-clause-q
pair_near-requires-clause-q g c = subst (λ (x : SolverLists). c.args.q < length x.graph.nodes) (sym c.self.view_is) c.requires.q

pub pair_near-requires-clause-room : goal.pair_near-requires-clause-room
pair_near-requires-clause-room g c =
    let s : SolverLists = the_view c.self.inside in
    let current : IsCurrent s = subst IsCurrent (sym c.self.view_is) c.requires.current in
    current.set_up.room.front

pub returns-clause-pair : goal.returns-clause-pair
returns-clause-pair g c =
    subst (λ (x : SolverLists). IfSome c.pair_near.result (λ pair. IsPairIn x.graph c.args.p c.args.q pair)) c.self.view_is c.pair_near.ensures.pair

pub returns-clause-same : goal.returns-clause-same
returns-clause-same g c =
    let s : SolverLists = the_view c.self.inside in
    ap (λ (front : ℕ). with_rows s s.pool s.kept front) c.pair_near.ensures.queue ∙ c.self.view_is
