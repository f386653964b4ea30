use Rattle.std.proofs.Common.{◌≡◌, ◌+◌, ◌<◌, length, sym, subst}
use Rattle.row_pool.specs.Pool.{free_rows}
use Rattle.distances.specs.Searched.{nodes}
use Rattle.repair.specs.Slots.{AreRowsOf}
use Rattle.repair.specs.Renewals.{CanRenew}
use Rattle.solver.specs.Solver.{SolverLists}
use Rattle.solver.specs.Changes.{StaysCurrent}
use Rattle.solver.specs.Current.{IsCurrent}
use Rattle.solver.specs.contracts.solver.Solver.{the_view}
use Rattle.solver.proofs.Lending.{two_less}
use Rattle.solver.proofs.Staying.{with_rows, stays_with_rows, rows_now, earliest_now}
use Rattle.solver.proofs.Searching.{can_renew, if_found, found_so}
use Rattle.solver.proofs.KeptSlots.{source_current}
use Rattle.solver.proofs.solver.Solver.keep_source.Goals as goal

pub search_of-search-requires : goal.search_of-search-requires
search_of-search-requires g c =
    let s : SolverLists = the_view c.self.inside in
    let current : IsCurrent s = subst IsCurrent (sym c.self.view_is) c.requires.current in
    earliest_now s current

pub keep_source-requires-clause-node : goal.keep_source-requires-clause-node
keep_source-requires-clause-node g c =
    let s : SolverLists = the_view c.self.inside in
    let current : IsCurrent s = subst IsCurrent (sym c.self.view_is) c.requires.current in
    let below : c.args.node < length s.graph.nodes = subst (λ (x : SolverLists). c.args.node < length x.graph.nodes) (sym c.self.view_is) c.requires.node in
    if_found s.graph s.earliest (λ r. c.args.node < nodes r) c.search_of-search.result c.search_of-search.ensures (λ solved. below)

pub keep_source-requires-clause-can : goal.keep_source-requires-clause-can
keep_source-requires-clause-can g c =
    let s : SolverLists = the_view c.self.inside in
    let current : IsCurrent s = subst IsCurrent (sym c.self.view_is) c.requires.current in
    if_found s.graph s.earliest (λ r. CanRenew r s.pool s.front) c.search_of-search.result c.search_of-search.ensures (λ solved. can_renew s current)

pub keep_source-requires-clause-rows : goal.keep_source-requires-clause-rows
keep_source-requires-clause-rows g c =
    let s : SolverLists = the_view c.self.inside in
    let current : IsCurrent s = subst IsCurrent (sym c.self.view_is) c.requires.current in
    if_found s.graph s.earliest (λ r. AreRowsOf r.graph s.kept s.pool) c.search_of-search.result c.search_of-search.ensures (λ solved. rows_now s current solved)

pub returns-clause-free : goal.returns-clause-free
returns-clause-free g c =
    subst (λ (s : SolverLists). free_rows c.keep_source.new.pool + 2 ≡ free_rows s.pool) c.self.view_is
    (two_less c.self.inside.pool c.keep_source.new.pool c.keep_source.ensures.takes.0 c.keep_source.ensures.takes.3)

pub returns-clause-leaves : goal.returns-clause-leaves
returns-clause-leaves g c =
    let s : SolverLists = the_view c.self.inside in
    let current : IsCurrent s = subst IsCurrent (sym c.self.view_is) c.requires.current in
    let below : c.args.node < length s.graph.nodes = subst (λ (x : SolverLists). c.args.node < length x.graph.nodes) (sym c.self.view_is) c.requires.node in
    let takes = c.keep_source.ensures.takes in
    let now : IsCurrent (with_rows s c.keep_source.new.pool c.keep_source.new.self c.keep_source.new.queue) = source_current s current c.args.node below c.keep_source.new.pool c.keep_source.new.queue c.keep_source.ensures.queue takes.0 takes.1 takes.3
    c.keep_source.new.self takes.2 c.keep_source.ensures.own
    (found_so s.graph s.earliest (λ r. AreRowsOf r.graph c.keep_source.new.self c.keep_source.new.pool) c.search_of-search.result c.search_of-search.ensures c.keep_source.ensures.rows) in
    subst (λ (x : SolverLists). StaysCurrent x (with_rows s c.keep_source.new.pool c.keep_source.new.self c.keep_source.new.queue)) c.self.view_is (stays_with_rows s c.keep_source.new.pool c.keep_source.new.self c.keep_source.new.queue c.keep_source.ensures.queue now)
