use Rattle.std.proofs.Common.{◌≡◌, ◌∙◌, ℕ, List, [], Option, true, sym, ap, subst}
use Rattle.std.specs.Prelude.{IfSome, IfNone}
use Rattle.decl.specs.Declaration.{Declaration}
use Rattle.problem_model.specs.Problem.{ProblemLists}
use Rattle.problem.specs.Listing.{all_readings}
use Rattle.problem.proofs.OwnReadings.{own_readings}
use Rattle.traces.specs.Seen.{Seen}
use Rattle.traces.specs.Held.{seen_in}
use Rattle.traces.specs.Traces.{events_of}
use Rattle.traces.specs.Messages.{problem_of_seen}
use Rattle.queries.specs.Consistent.{IsConsistent}
use Rattle.roster.specs.Roster.{listed}
use Rattle.session_answers.specs.Ready.{answers_problem, declared}
use Rattle.session.specs.Since.{IsFirstOfAll}
use Rattle.session.specs.Stands.{Held, problem_held, seen_held}
use Rattle.session.proofs.Holding.{seen_accepted}
use Rattle.session.proofs.Settles.{none_held}
use Rattle.session.proofs.SinceEvents.{first_some, first_none}
use Rattle.session.proofs.Standby.{ready_of}
use Rattle.session.proofs.session.Session.first.Goals as goal

pub first_of-requires-clause-current : goal.first_of-requires-clause-current
first_of-requires-clause-current c =
    let a = c.self.inside.answers in
    let r = a.graph.roster in
    let seen = seen_in c.self.inside.accepted.items in
    let p = answers_problem a seen in
    let same : problem_held c.args.self.now ≡ p = ap problem_held (sym c.self.view_is) ∙ ap (λ (x : List (List Seen)). problem_of_seen (declared a) x) (seen_accepted c.self.inside.accepted.items) in
    let held : seen_held c.args.self.now.under ≡ seen = ap (λ (h : Held). seen_held h.under) (sym c.self.view_is) ∙ seen_accepted c.self.inside.accepted.items in
    let ready : c.self.inside.ready ≡ true = ready_of c.args.self.now c.self.inside.ready a (ap (λ (h : Held). h.answers) c.self.view_is) c.requires.ready in
    let are = c.self.invariant.2 ready in
    are.graph.solution.current

pub first_of-requires-clause-none : goal.first_of-requires-clause-none
first_of-requires-clause-none c =
    let a = c.self.inside.answers in
    let r = a.graph.roster in
    let seen = seen_in c.self.inside.accepted.items in
    let p = answers_problem a seen in
    let same : problem_held c.args.self.now ≡ p = ap problem_held (sym c.self.view_is) ∙ ap (λ (x : List (List Seen)). problem_of_seen (declared a) x) (seen_accepted c.self.inside.accepted.items) in
    let held : seen_held c.args.self.now.under ≡ seen = ap (λ (h : Held). seen_held h.under) (sym c.self.view_is) ∙ seen_accepted c.self.inside.accepted.items in
    let ready : c.self.inside.ready ≡ true = ready_of c.args.self.now c.self.inside.ready a (ap (λ (h : Held). h.answers) c.self.view_is) c.requires.ready in
    let are = c.self.invariant.2 ready in
    none_held a.graph.solver.contradiction (listed r) p (subst (λ (q : ProblemLists). IsConsistent q true) same c.requires.consistent)
    (c.contradictions.ensures.held (listed r) p (all_readings p.events) a.graph.solver (own_readings p) are.graph.solution)

pub first_of-requires-clause-nodes : goal.first_of-requires-clause-nodes
first_of-requires-clause-nodes c =
    let a = c.self.inside.answers in
    let r = a.graph.roster in
    let seen = seen_in c.self.inside.accepted.items in
    let p = answers_problem a seen in
    let same : problem_held c.args.self.now ≡ p = ap problem_held (sym c.self.view_is) ∙ ap (λ (x : List (List Seen)). problem_of_seen (declared a) x) (seen_accepted c.self.inside.accepted.items) in
    let held : seen_held c.args.self.now.under ≡ seen = ap (λ (h : Held). seen_held h.under) (sym c.self.view_is) ∙ seen_accepted c.self.inside.accepted.items in
    let ready : c.self.inside.ready ≡ true = ready_of c.args.self.now c.self.inside.ready a (ap (λ (h : Held). h.answers) c.self.view_is) c.requires.ready in
    let are = c.self.invariant.2 ready in
    are.graph.grown.knows

pub returns-clause-some : goal.returns-clause-some
returns-clause-some c =
    let a = c.self.inside.answers in
    let r = a.graph.roster in
    let seen = seen_in c.self.inside.accepted.items in
    let p = answers_problem a seen in
    let same : problem_held c.args.self.now ≡ p = ap problem_held (sym c.self.view_is) ∙ ap (λ (x : List (List Seen)). problem_of_seen (declared a) x) (seen_accepted c.self.inside.accepted.items) in
    let held : seen_held c.args.self.now.under ≡ seen = ap (λ (h : Held). seen_held h.under) (sym c.self.view_is) ∙ seen_accepted c.self.inside.accepted.items in
    let ready : c.self.inside.ready ≡ true = ready_of c.args.self.now c.self.inside.ready a (ap (λ (h : Held). h.answers) c.self.view_is) c.requires.ready in
    let are = c.self.invariant.2 ready in
    let none = none_held a.graph.solver.contradiction (listed r) p (subst (λ (q : ProblemLists). IsConsistent q true) same c.requires.consistent)
    (c.contradictions.ensures.held (listed r) p (all_readings p.events) a.graph.solver (own_readings p) are.graph.solution) in
    let x = c.executions.ensures.earliest (listed r) p (all_readings p.events) a.graph.solver (own_readings p) are.graph.solution none in
    subst (λ (d : Declaration). IfSome c.first_of.result (λ event. (place : ℕ) × IsFirstOfAll d (seen_held c.args.self.now.under) place event)) (ap (λ (h : Held). h.declaration) c.self.view_is)
    (subst (λ (y : List (List Seen)). IfSome c.first_of.result (λ event. (place : ℕ) × IsFirstOfAll (declared a) y place event)) (sym held)
    (first_some r are.lawful seen are.graph.holds a.graph.solver are.graph.solution x.0 x.2 x.1 c.first_of.result c.first_of.ensures.some))

pub returns-clause-none : goal.returns-clause-none
returns-clause-none c =
    let a = c.self.inside.answers in
    let r = a.graph.roster in
    let seen = seen_in c.self.inside.accepted.items in
    let p = answers_problem a seen in
    let same : problem_held c.args.self.now ≡ p = ap problem_held (sym c.self.view_is) ∙ ap (λ (x : List (List Seen)). problem_of_seen (declared a) x) (seen_accepted c.self.inside.accepted.items) in
    let held : seen_held c.args.self.now.under ≡ seen = ap (λ (h : Held). seen_held h.under) (sym c.self.view_is) ∙ seen_accepted c.self.inside.accepted.items in
    let ready : c.self.inside.ready ≡ true = ready_of c.args.self.now c.self.inside.ready a (ap (λ (h : Held). h.answers) c.self.view_is) c.requires.ready in
    let are = c.self.invariant.2 ready in
    subst (λ (y : List (List Seen)). IfNone c.first_of.result (events_of y ≡ [])) (sym held) (first_none r are.lawful seen are.graph.holds c.first_of.result c.first_of.ensures.none)
