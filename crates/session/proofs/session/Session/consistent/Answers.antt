use Rattle.std.proofs.Common.{◌≡◌, ◌∙◌, List, true, sym, ap, subst}
use Rattle.traces.specs.Seen.{Seen}
use Rattle.traces.specs.Held.{seen_in}
use Rattle.traces.specs.Messages.{problem_of_seen}
use Rattle.problem_model.specs.Problem.{ProblemLists}
use Rattle.queries.specs.Consistent.{IsConsistent}
use Rattle.roster.specs.Roster.{listed}
use Rattle.session.specs.Stands.{Held, problem_held}
use Rattle.session_answers.specs.Ready.{answers_problem, declared}
use Rattle.session.proofs.Holding.{seen_accepted}
use Rattle.session.proofs.Standby.{ready_of}
use Rattle.session.proofs.session.Session.consistent.Goals as goal

pub returns : goal.returns
returns c =
    let a = c.self.inside.answers in
    let seen = seen_in c.self.inside.accepted.items in
    let p = answers_problem a seen in
    let same : problem_held c.args.self.now ≡ p = ap problem_held (sym c.self.view_is) ∙ ap (λ (x : List (List Seen)). problem_of_seen (declared a) x) (seen_accepted c.self.inside.accepted.items) in
    let ready : c.self.inside.ready ≡ true = ready_of c.args.self.now c.self.inside.ready a (ap (λ (h : Held). h.answers) c.self.view_is) c.requires in
    let are = c.self.invariant.2 ready in
    subst (λ (q : ProblemLists). IsConsistent q c.is_consistent.result) (sym same) (c.is_consistent.ensures (listed a.graph.roster) p are.graph.solution)
