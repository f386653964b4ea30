use Rattle.std.proofs.Common.{◌≡◌, ◌<◌, ◌≤◌, ℕ, true, false, List, [], length, refl, sym, ap, subst, ◌∙◌, arith}
use Rattle.sync_graph.specs.Graph.{table_of}
use Rattle.row_pool.specs.declared.cell.Cell.{Cell}
use Rattle.row_pool.specs.Pool.{Pool, free_rows, marked, written_pool}
use Rattle.distances.specs.Searched.{Searched, nodes}
use Rattle.repair.specs.Slots.{all_slots}
use Rattle.repair.specs.Pairs.{IsPairIn}
use Rattle.solver.specs.Solver.{SolverLists}
use Rattle.solver.specs.Changes.{LeavesTaken, LeavesAnswer}
use Rattle.solver.specs.Current.{IsCurrent}
use Rattle.solver.specs.contracts.solver.Solver.{the_view}
use Rattle.solver.proofs.Lending.{some_free, given_back, own_left, rows_left}
use Rattle.solver.proofs.Staying.{with_rows, current_with_rows, rows_now, solved_now}
use Rattle.solver.proofs.solver.Solver.far_pair.Goals as goal

pub unreachable-requires : goal.unreachable-requires
unreachable-requires g c = some_free c.self.inside.pool (subst (λ (x : SolverLists). 0 < free_rows x.pool) (sym c.self.view_is) c.requires.free) c.in_default.ensures.none

pub new-search-requires-clause-solved : goal.new-search-requires-clause-solved
new-search-requires-clause-solved g c =
    let s : SolverLists = the_view c.self.inside in
    let current : IsCurrent s = subst IsCurrent (sym c.self.view_is) c.requires.current in
    let none : s.contradiction ≡ [] = subst (λ (x : SolverLists). x.contradiction ≡ []) (sym c.self.view_is) c.requires.solved in
    (solved_now s current none).solved

pub new-search-requires-clause-earliest : goal.new-search-requires-clause-earliest
new-search-requires-clause-earliest g c =
    let s : SolverLists = the_view c.self.inside in
    let current : IsCurrent s = subst IsCurrent (sym c.self.view_is) c.requires.current in
    let none : s.contradiction ≡ [] = subst (λ (x : SolverLists). x.contradiction ≡ []) (sym c.self.view_is) c.requires.solved in
    (solved_now s current none).earliest

pub pair_by-pair-requires-clause-outward : goal.pair_by-pair-requires-clause-outward
pair_by-pair-requires-clause-outward g c = ap (λ (r : Searched). r.side) c.new-search.ensures

pub pair_by-pair-requires-clause-p : goal.pair_by-pair-requires-clause-p
pair_by-pair-requires-clause-p g c =
    let below = subst (λ (x : SolverLists). c.args.p < length x.graph.nodes) (sym c.self.view_is) c.requires.p in
    subst (λ (r : Searched). c.args.p < nodes r) (sym c.new-search.ensures) below

pub pair_by-pair-requires-clause-q : goal.pair_by-pair-requires-clause-q
pair_by-pair-requires-clause-q g c =
    let below = subst (λ (x : SolverLists). c.args.q < length x.graph.nodes) (sym c.self.view_is) c.requires.q in
    subst (λ (r : Searched). c.args.q < nodes r) (sym c.new-search.ensures) below

pub pair_by-pair-requires-clause-cells : goal.pair_by-pair-requires-clause-cells
pair_by-pair-requires-clause-cells g c =
    let s : SolverLists = the_view c.self.inside in
    let current : IsCurrent s = subst IsCurrent (sym c.self.view_is) c.requires.current in
    let wide : length c.row_mut-cells.result.now ≡ s.pool.width = c.row_mut-cells.ensures.width ∙ ap (λ (p : Pool). p.width) c.in-Some.ensures.taken in
    let rows : length s.graph.nodes ≤ s.pool.width = current.set_up.room.rows in
    let fits : length s.graph.nodes ≤ length c.row_mut-cells.result.now = omega (arith, rows, wide) in
    subst (λ (r : Searched). nodes r ≤ length c.row_mut-cells.result.now) (sym c.new-search.ensures) fits

pub pair_by-pair-requires-clause-room : goal.pair_by-pair-requires-clause-room
pair_by-pair-requires-clause-room g c =
    let s : SolverLists = the_view c.self.inside in
    let current : IsCurrent s = subst IsCurrent (sym c.self.view_is) c.requires.current in
    subst (λ (r : Searched). nodes r ≤ s.front) (sym c.new-search.ensures) current.set_up.room.front

pub returns-clause-pair : goal.returns-clause-pair
returns-clause-pair g c =
    subst (λ (x : SolverLists). IsPairIn x.graph c.args.p c.args.q c.pair_by-pair.result) c.self.view_is
    (subst (λ (r : Searched). IsPairIn r.graph c.args.p c.args.q c.pair_by-pair.result) c.new-search.ensures c.pair_by-pair.ensures.pair)

pub returns-clause-leaves : goal.returns-clause-leaves
returns-clause-leaves g c =
    let s : SolverLists = the_view c.self.inside in
    let current : IsCurrent s = subst IsCurrent (sym c.self.view_is) c.requires.current in
    let row : ℕ = c.in-Some.row in
    let cells : List Cell = c.pair_by-pair.new.row in
    let wide : length cells ≡ s.pool.width = c.pair_by-pair.auto.row ∙ c.row_mut-cells.ensures.width ∙ ap (λ (p : Pool). p.width) c.in-Some.ensures.taken in
    let back : LeavesTaken s.pool (marked (written_pool (marked s.pool row true) row cells) row false) = given_back s.pool c.width-width.ensures.lawful row cells c.in-Some.ensures.free wide in
    let is : c.give.new.self ≡ marked (written_pool (marked s.pool row true) row cells) row false = c.give.ensures ∙ ap (λ (p : Pool). marked (written_pool p row cells) row false) c.in-Some.ensures.taken in
    let leaves : LeavesTaken s.pool c.give.new.self = subst (LeavesTaken s.pool) (sym is) back in
    let wider : s.pool.width ≤ c.give.new.self.width = omega (arith, leaves.width) in
    let longer : s.front ≤ c.pair_by-pair.new.queue = omega (arith, c.pair_by-pair.ensures.queue) in
    let held : IsCurrent (with_rows s c.give.new.self s.kept c.pair_by-pair.new.queue) =
    current_with_rows s current c.give.new.self s.kept c.pair_by-pair.new.queue
    (own_left s.pool c.give.new.self leaves (all_slots s.kept) current.set_up.own) current.set_up.nodes refl
    (λ solved. rows_left s.pool c.give.new.self leaves (length s.graph.nodes) (table_of s.graph) (all_slots s.kept) current.set_up.own (rows_now s current solved))
    wider (omega arith) longer in
    subst (λ (x : SolverLists). LeavesAnswer x (with_rows s c.give.new.self s.kept c.pair_by-pair.new.queue)) c.self.view_is
    (record { answer = record { graph = refl; earliest = refl; contradiction = refl }; kept = refl; rows = leaves; room = c.pair_by-pair.ensures.queue; current = held })
