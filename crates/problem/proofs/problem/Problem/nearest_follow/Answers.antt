use Rattle.std.proofs.Common.{◌≡◌, List, sym, subst}
use Rattle.std.specs.Prelude.{IfSome}
use Rattle.problem_model.specs.declared.items.Bound.TheVariants as bounds
use Rattle.problem_model.specs.Problem.{ProblemLists}
use Rattle.problem_model.specs.Bounds.{Declares}
use Rattle.problem_model.specs.Nodes.{Reading, AreReadings}
use Rattle.problem_model.specs.ShortList.{clocks_before, first_reading, nearest_reading, follow_bound}
use Rattle.problem_model.proofs.OneList.{readings_one}
use Rattle.problem.specs.Nearest.{listed_follow, gap_between}
use Rattle.problem.proofs.problem.Problem.nearest_follow.Goals as goal

pub returns-clause-bound : goal.returns-clause-bound
returns-clause-bound c readings are =
    let p = c.args.self.now in
    let later = c.args.later in
    let mine = subst (λ (p : ProblemLists). AreReadings p c.self.inside.readings.items) c.self.view_is c.self.invariant in
    let seen : List Reading = c.deref.result.now in
    let bound = subst (λ (p : ProblemLists). follow_bound (nearest_reading seen (clocks_before p.follows later later)) (first_reading seen later) ≡ listed_follow later c.nearest_follow.result) c.self.view_is c.nearest_follow.ensures.bound in
    subst (λ (rs : List Reading). follow_bound (nearest_reading rs (clocks_before p.follows later later)) (first_reading rs later) ≡ listed_follow later c.nearest_follow.result)
    (readings_one p seen readings (subst (λ (rs : List Reading). AreReadings p rs) (sym c.deref.ensures.value) mine) are) bound

pub returns-clause-declared : goal.returns-clause-declared
returns-clause-declared c =
    subst (λ (p : ProblemLists). IfSome c.nearest_follow.result (λ f. Declares p (bounds.Follow f.earlier f.s c.args.later f.t) (gap_between f.earlier f.s c.args.later f.t f.gap))) c.self.view_is
    c.nearest_follow.ensures.declared
