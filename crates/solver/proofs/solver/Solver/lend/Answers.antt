use Rattle.std.proofs.Common.{◌≡◌, ◌+◌, ◌<◌, [], length, sym, subst}
use Rattle.sync_graph.specs.Graph.{table_of}
use Rattle.row_pool.specs.Pool.{free_rows}
use Rattle.distances.specs.Searched.{nodes}
use Rattle.repair.specs.Slots.{IsRowsOf}
use Rattle.repair.specs.Renewals.{CanRenew}
use Rattle.solver.specs.Solver.{SolverLists}
use Rattle.solver.specs.Changes.{StaysCurrent}
use Rattle.solver.specs.Current.{IsCurrent}
use Rattle.solver.specs.contracts.solver.Solver.{the_view}
use Rattle.solver.proofs.Lending.{two_less}
use Rattle.solver.proofs.Loans.{lent_current}
use Rattle.solver.proofs.Searching.{can_renew, if_found, found_so}
use Rattle.solver.proofs.Staying.{with_rows, stays_with_rows, solved_now, earliest_now}
use Rattle.solver.proofs.solver.Solver.lend.Goals as goal

pub search_of-search-requires : goal.search_of-search-requires
search_of-search-requires g c =
    let s : SolverLists = the_view c.self.inside in
    let current : IsCurrent s = subst IsCurrent (sym c.self.view_is) c.requires.current in
    earliest_now s current

pub new_slot-slot-requires-clause-node : goal.new_slot-slot-requires-clause-node
new_slot-slot-requires-clause-node g c =
    let s : SolverLists = the_view c.self.inside in
    let current : IsCurrent s = subst IsCurrent (sym c.self.view_is) c.requires.current in
    let below : c.args.p < length s.graph.nodes = subst (λ (x : SolverLists). c.args.p < length x.graph.nodes) (sym c.self.view_is) c.requires.node in
    if_found s.graph s.earliest (λ r. c.args.p < nodes r) c.search_of-search.result c.search_of-search.ensures (λ solved. below)

pub new_slot-slot-requires-clause-can : goal.new_slot-slot-requires-clause-can
new_slot-slot-requires-clause-can g c =
    let s : SolverLists = the_view c.self.inside in
    let current : IsCurrent s = subst IsCurrent (sym c.self.view_is) c.requires.current in
    if_found s.graph s.earliest (λ r. CanRenew r s.pool s.front) c.search_of-search.result c.search_of-search.ensures (λ solved. can_renew s current)

pub returns-clause-free : goal.returns-clause-free
returns-clause-free g c =
    subst (λ (s : SolverLists). free_rows c.new_slot-slot.new.pool + 2 ≡ free_rows s.pool) c.self.view_is
    (two_less c.self.inside.pool c.new_slot-slot.new.pool c.new_slot-slot.result c.new_slot-slot.ensures.takes)

pub returns-clause-leaves : goal.returns-clause-leaves
returns-clause-leaves g c =
    let s : SolverLists = the_view c.self.inside in
    let current : IsCurrent s = subst IsCurrent (sym c.self.view_is) c.requires.current in
    let none : s.contradiction ≡ [] = subst (λ (x : SolverLists). x.contradiction ≡ []) (sym c.self.view_is) c.requires.solved in
    let made : IsRowsOf (length s.graph.nodes) (table_of s.graph) c.new_slot-slot.new.pool c.new_slot-slot.result =
    found_so s.graph s.earliest (λ r. IsRowsOf (nodes r) (table_of r.graph) c.new_slot-slot.new.pool c.new_slot-slot.result) c.search_of-search.result c.search_of-search.ensures c.new_slot-slot.ensures.rows
    (solved_now s current none).solved in
    let now : IsCurrent (with_rows s c.new_slot-slot.new.pool s.kept c.new_slot-slot.new.queue) = lent_current s current c.new_slot-slot.new.pool c.new_slot-slot.new.queue c.new_slot-slot.result c.new_slot-slot.ensures.takes made c.new_slot-slot.ensures.queue in
    subst (λ (x : SolverLists). StaysCurrent x (with_rows s c.new_slot-slot.new.pool s.kept c.new_slot-slot.new.queue)) c.self.view_is (stays_with_rows s c.new_slot-slot.new.pool s.kept c.new_slot-slot.new.queue c.new_slot-slot.ensures.queue now)
