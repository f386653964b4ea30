use Rattle.std.proofs.Common.{◌-◌, sym, subst}
use Rattle.solver.specs.Solver.{SolverLists}
use Rattle.solver.specs.Current.{IsCurrent}
use Rattle.solver.specs.contracts.solver.Solver.{the_view}
use Rattle.solver.proofs.Staying.{with_rows, front_step, found_step, rows_step}
use Rattle.solver.proofs.solver.Solver.reserve.Goals as goal

pub returns-clause-current : goal.returns-clause-current
returns-clause-current c =
    let s : SolverLists = the_view c.self.inside in
    let current : IsCurrent s = subst IsCurrent (sym c.self.view_is) c.requires.current in
    let front = c.reserve.new.self in
    let kept = c.reserve-2.new.self in
    let first : SolverLists = with_rows s s.pool s.kept front in
    let second : SolverLists = with_rows first s.pool kept front in
    let one : IsCurrent first = front_step s current front (c.args.nodes - s.front) c.in_ok-reserve.ensures.ok in
    let two : IsCurrent second = found_step first one kept c.args.nodes c.in_ok-reserve-2.ensures.ok in
    rows_step second two c.reserve-3.new.self c.args.rows c.args.nodes c.in_ok-reserve-3.ensures.ok
    (c.rows_in_a_grown_pool.ensures.own kept s.pool c.args.rows c.args.nodes)
    (c.rows_in_a_grown_pool.ensures.rows s.graph kept s.pool c.args.rows c.args.nodes)
