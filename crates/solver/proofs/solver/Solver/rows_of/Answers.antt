use Rattle.std.proofs.Common.{◌≡◌, ℕ, List, [], length, sym, ap, subst, ◌∙◌}
use Rattle.problem_model.specs.Parents.{IsRow}
use Rattle.problem_model.specs.Tables.{reversed_table}
use Rattle.sync_graph.specs.Graph.{table_of}
use Rattle.row_pool.specs.declared.cell.Cell.{Cell}
use Rattle.row_pool.specs.Row.{cells_of}
use Rattle.row_pool.specs.Pool.{row_of, IsTakenRow}
use Rattle.solver.specs.Solver.{SolverLists}
use Rattle.solver.specs.Current.{IsCurrent}
use Rattle.solver.specs.contracts.solver.Solver.{the_view}
use Rattle.solver.proofs.Asked.{slot_has, from_is, to_is}
use Rattle.solver.proofs.solver.Solver.rows_of.Goals as goal

pub row-requires : goal.row-requires
row-requires c =
    let s : SolverLists = the_view c.self.inside in
    let current : IsCurrent s = subst IsCurrent (sym c.self.view_is) c.requires.current in
    let none : s.contradiction ≡ [] = subst (λ (x : SolverLists). x.contradiction ≡ []) (sym c.self.view_is) c.requires.solved in
    let told = c.in_ok-from.ensures in
    subst (λ (n : ℕ). IsTakenRow c.self.inside.pool n) (sym told.2) (slot_has s current none c.args.p told.0 told.1).from

pub row-requires-2 : goal.row-requires-2
row-requires-2 c =
    let s : SolverLists = the_view c.self.inside in
    let current : IsCurrent s = subst IsCurrent (sym c.self.view_is) c.requires.current in
    let none : s.contradiction ≡ [] = subst (λ (x : SolverLists). x.contradiction ≡ []) (sym c.self.view_is) c.requires.solved in
    let told = c.in_ok-from.ensures in
    subst (λ (n : ℕ). IsTakenRow c.self.inside.pool n) (sym told.3) (slot_has s current none c.args.p told.0 told.1).to

pub returns-clause-rows : goal.returns-clause-rows
returns-clause-rows c =
    let s : SolverLists = the_view c.self.inside in
    let current : IsCurrent s = subst IsCurrent (sym c.self.view_is) c.requires.current in
    let none : s.contradiction ≡ [] = subst (λ (x : SolverLists). x.contradiction ≡ []) (sym c.self.view_is) c.requires.solved in
    let told = c.in_ok-from.ensures in
    let from : c.row.result.now ≡ row_of c.self.inside.pool told.0.from = c.row.ensures.value ∙ ap (row_of c.self.inside.pool) told.2 in
    let to : c.row-2.result.now ≡ row_of c.self.inside.pool told.0.to = c.row-2.ensures.value ∙ ap (row_of c.self.inside.pool) told.3 in
    subst (λ (x : SolverLists). IsRow (length x.graph.nodes) (table_of x.graph) c.args.p (cells_of c.row.result.now) × IsRow (length x.graph.nodes) (reversed_table (table_of x.graph)) c.args.p (cells_of c.row-2.result.now)) c.self.view_is (
      subst (λ (cs : List Cell). IsRow (length s.graph.nodes) (table_of s.graph) c.args.p (cells_of cs)) (sym from) (from_is s current none c.args.p told.0 told.1),
      subst (λ (cs : List Cell). IsRow (length s.graph.nodes) (reversed_table (table_of s.graph)) c.args.p (cells_of cs)) (sym to) (to_is s current none c.args.p told.0 told.1),
    )
