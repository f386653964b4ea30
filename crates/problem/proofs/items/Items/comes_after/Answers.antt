use Rattle.std.proofs.Common.{◌≤◌, subst, arith}
use Rattle.std.proofs.lemmas.Bool.Decides.{nat_tests}
use Rattle.problem_model.specs.Problem.{ProblemLists, IsProblem}
use Rattle.problem.specs.Inside.{AreLinks}
use Rattle.problem.proofs.Linked.{after_numbers, not_after}
use Rattle.problem.proofs.items.Items.comes_after.Goals as goal

pub returns-then-earlier-later : goal.returns-then-earlier-later
returns-then-earlier-later c =
    let links = subst (λ (p : ProblemLists). AreLinks p c.self.inside.links.items) c.self.view_is c.self.invariant.links_are in
    after_numbers c.args.self.now c.self.inside.links.items c.args.earlier c.args.later c.index.result.now c.index-then-earlier-later.result.now links
    c.if-earlier-later.true c.requires.later c.index.ensures c.index-then-earlier-later.ensures

pub returns-else-earlier-later : goal.returns-else-earlier-later
returns-else-earlier-later c =
    let lawful = subst (λ (p : ProblemLists). IsProblem p) c.self.view_is c.self.invariant.lawful in
    let above : c.args.later ≤ c.args.earlier = c.if-earlier-later.false in
    (λ yes. absurd (grind (arith, nat_tests, yes, above)), λ after. absurd (not_after c.args.self.now c.args.earlier c.args.later lawful.formed above after))
