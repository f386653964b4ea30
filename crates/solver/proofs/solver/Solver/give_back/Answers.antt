use Rattle.std.proofs.Common.{◌≡◌, false, refl, sym, subst, ap, ◌∙◌}
use Rattle.row_pool.specs.Pool.{Pool, marked}
use Rattle.solver.specs.Solver.{SolverLists}
use Rattle.solver.specs.Changes.{StaysCurrent}
use Rattle.solver.specs.Current.{IsCurrent}
use Rattle.solver.specs.Lending.{IsLent}
use Rattle.solver.specs.contracts.solver.Solver.{the_view}
use Rattle.solver.proofs.Loans.{back_current}
use Rattle.solver.proofs.Staying.{with_rows, stays_with_rows}
use Rattle.solver.proofs.solver.Solver.give_back.Goals as goal

pub returns-clause-leaves : goal.returns-clause-leaves
returns-clause-leaves c =
    let s : SolverLists = the_view c.self.inside in
    let current : IsCurrent s = subst IsCurrent (sym c.self.view_is) c.requires.current in
    let lent : IsLent c.args.lent s = subst (IsLent c.args.lent) (sym c.self.view_is) c.requires.lent in
    let is : c.give-2.new.self ≡ marked (marked s.pool c.args.lent.from false) c.args.lent.to false = c.give-2.ensures ∙ ap (λ (p : Pool). marked p c.args.lent.to false) c.give.ensures in
    let now : IsCurrent (with_rows s c.give-2.new.self s.kept s.front) = subst (λ (p : Pool). IsCurrent (with_rows s p s.kept s.front)) (sym is) (back_current s current c.args.lent lent) in
    subst (λ (x : SolverLists). StaysCurrent x (with_rows s c.give-2.new.self s.kept s.front)) c.self.view_is (stays_with_rows s c.give-2.new.self s.kept s.front refl now)
