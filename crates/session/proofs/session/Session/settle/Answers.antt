use Rattle.std.proofs.Common.{◌≡◌, ◌∙◌, List, All, true, refl, sym, ap, subst}
use Rattle.decl.specs.Declaration.{Declaration}
use Rattle.traces.specs.Seen.{Seen}
use Rattle.traces.specs.Held.{seen_in}
use Rattle.traces.specs.Messages.{problem_of_seen}
use Rattle.problem_model.specs.Problem.{ProblemLists}
use Rattle.queries.specs.Consistent.{IsConsistent}
use Rattle.roster.specs.Roster.{listed}
use Rattle.session.specs.Stands.{Held, problem_held, seen_held}
use Rattle.session_answers.specs.Ready.{answers_problem, declared}
use Rattle.session.proofs.Holding.{seen_accepted}
use Rattle.session.proofs.Standby.{ready_of}
use Rattle.mergecap.specs.Packets.{all_timed}
use Rattle.problem.specs.Listing.{all_readings}
use Rattle.problem.proofs.OwnReadings.{own_readings}
use Rattle.session.specs.Settled.{AreSettled, HasEventOf}
use Rattle.session.proofs.Settles.{none_held, all_under, all_settled, values_from}
use Rattle.session.proofs.session.Session.settle.Goals as goal

pub settle_each-requires-clause-current : goal.settle_each-requires-clause-current
settle_each-requires-clause-current c =
    let a = c.self.inside.answers in
    let seen = seen_in c.self.inside.accepted.items in
    let p = answers_problem a seen in
    let same : problem_held c.args.self.now ≡ p = ap problem_held (sym c.self.view_is) ∙ ap (λ (x : List (List Seen)). problem_of_seen (declared a) x) (seen_accepted c.self.inside.accepted.items) in
    let ready : c.self.inside.ready ≡ true = ready_of c.args.self.now c.self.inside.ready a (ap (λ (h : Held). h.answers) c.self.view_is) c.requires.ready in
    let are = c.self.invariant.2 ready in
    are.graph.solution.current

pub settle_each-requires-clause-solved : goal.settle_each-requires-clause-solved
settle_each-requires-clause-solved c =
    let a = c.self.inside.answers in
    let seen = seen_in c.self.inside.accepted.items in
    let p = answers_problem a seen in
    let same : problem_held c.args.self.now ≡ p = ap problem_held (sym c.self.view_is) ∙ ap (λ (x : List (List Seen)). problem_of_seen (declared a) x) (seen_accepted c.self.inside.accepted.items) in
    let ready : c.self.inside.ready ≡ true = ready_of c.args.self.now c.self.inside.ready a (ap (λ (h : Held). h.answers) c.self.view_is) c.requires.ready in
    let are = c.self.invariant.2 ready in
    none_held a.graph.solver.contradiction (listed a.graph.roster) p (subst (λ (q : ProblemLists). IsConsistent q true) same c.requires.consistent)
    (c.contradictions.ensures.held (listed a.graph.roster) p (all_readings p.events) a.graph.solver (own_readings p) are.graph.solution)

pub settle_each-requires-clause-nodes : goal.settle_each-requires-clause-nodes
settle_each-requires-clause-nodes c =
    let a = c.self.inside.answers in
    let seen = seen_in c.self.inside.accepted.items in
    let p = answers_problem a seen in
    let same : problem_held c.args.self.now ≡ p = ap problem_held (sym c.self.view_is) ∙ ap (λ (x : List (List Seen)). problem_of_seen (declared a) x) (seen_accepted c.self.inside.accepted.items) in
    let ready : c.self.inside.ready ≡ true = ready_of c.args.self.now c.self.inside.ready a (ap (λ (h : Held). h.answers) c.self.view_is) c.requires.ready in
    let are = c.self.invariant.2 ready in
    are.graph.grown.knows

pub settle_each-requires-clause-there : goal.settle_each-requires-clause-there
settle_each-requires-clause-there c =
    let a = c.self.inside.answers in
    let seen = seen_in c.self.inside.accepted.items in
    let p = answers_problem a seen in
    let same : problem_held c.args.self.now ≡ p = ap problem_held (sym c.self.view_is) ∙ ap (λ (x : List (List Seen)). problem_of_seen (declared a) x) (seen_accepted c.self.inside.accepted.items) in
    let ready : c.self.inside.ready ≡ true = ready_of c.args.self.now c.self.inside.ready a (ap (λ (h : Held). h.answers) c.self.view_is) c.requires.ready in
    let are = c.self.invariant.2 ready in
    let held : seen_held c.args.self.now.under ≡ seen = ap (λ (h : Held). seen_held h.under) (sym c.self.view_is) ∙ seen_accepted c.self.inside.accepted.items in
    all_under a.graph.roster are.lawful seen are.graph.holds (all_timed c.args.kept.now) (subst (λ (x : List (List Seen)). All (HasEventOf x) (all_timed c.args.kept.now)) held c.requires.there)

pub returns-clause-settled : goal.returns-clause-settled
returns-clause-settled c =
    let a = c.self.inside.answers in
    let seen = seen_in c.self.inside.accepted.items in
    let p = answers_problem a seen in
    let same : problem_held c.args.self.now ≡ p = ap problem_held (sym c.self.view_is) ∙ ap (λ (x : List (List Seen)). problem_of_seen (declared a) x) (seen_accepted c.self.inside.accepted.items) in
    let ready : c.self.inside.ready ≡ true = ready_of c.args.self.now c.self.inside.ready a (ap (λ (h : Held). h.answers) c.self.view_is) c.requires.ready in
    let are = c.self.invariant.2 ready in
    let held : seen_held c.args.self.now.under ≡ seen = ap (λ (h : Held). seen_held h.under) (sym c.self.view_is) ∙ seen_accepted c.self.inside.accepted.items in
    let none = none_held a.graph.solver.contradiction (listed a.graph.roster) p (subst (λ (q : ProblemLists). IsConsistent q true) same c.requires.consistent)
    (c.contradictions.ensures.held (listed a.graph.roster) p (all_readings p.events) a.graph.solver (own_readings p) are.graph.solution) in
    let e = c.executions.ensures.earliest (listed a.graph.roster) p (all_readings p.events) a.graph.solver (own_readings p) are.graph.solution none in
    let old = all_timed c.args.kept.now in
    let there = subst (λ (x : List (List Seen)). All (HasEventOf x) old) held c.requires.there in
    let done : AreSettled (declared a) seen old (all_timed c.settle_each.new.kept) =
    record { times = e.0; earliest = e.2; are = c.settle_each.ensures ∙ all_settled a.graph.roster are.lawful seen are.graph.holds a.graph.solver p (all_readings p.events) e.0 e.1 refl old there } in
    subst (λ (x : List (List Seen)). AreSettled c.args.self.now.declaration x old (all_timed c.settle_each.new.kept)) (sym held)
    (subst (λ (d : Declaration). AreSettled d seen old (all_timed c.settle_each.new.kept)) (ap (λ (h : Held). h.declaration) c.self.view_is) done)

pub returns-clause-from_zero : goal.returns-clause-from_zero
returns-clause-from_zero c =
    let a = c.self.inside.answers in
    let seen = seen_in c.self.inside.accepted.items in
    let p = answers_problem a seen in
    let same : problem_held c.args.self.now ≡ p = ap problem_held (sym c.self.view_is) ∙ ap (λ (x : List (List Seen)). problem_of_seen (declared a) x) (seen_accepted c.self.inside.accepted.items) in
    let ready : c.self.inside.ready ≡ true = ready_of c.args.self.now c.self.inside.ready a (ap (λ (h : Held). h.answers) c.self.view_is) c.requires.ready in
    let are = c.self.invariant.2 ready in
    let held : seen_held c.args.self.now.under ≡ seen = ap (λ (h : Held). seen_held h.under) (sym c.self.view_is) ∙ seen_accepted c.self.inside.accepted.items in
    let none = none_held a.graph.solver.contradiction (listed a.graph.roster) p (subst (λ (q : ProblemLists). IsConsistent q true) same c.requires.consistent)
    (c.contradictions.ensures.held (listed a.graph.roster) p (all_readings p.events) a.graph.solver (own_readings p) are.graph.solution) in
    let e = c.executions.ensures.earliest (listed a.graph.roster) p (all_readings p.events) a.graph.solver (own_readings p) are.graph.solution none in
    let old = all_timed c.args.kept.now in
    let there = subst (λ (x : List (List Seen)). All (HasEventOf x) old) held c.requires.there in
    values_from a.graph.roster are.lawful seen are.graph.holds a.graph.solver p (all_readings p.events) e.0 e.1 refl e.2.from_zero old there c.settle_each.new.kept
    (c.settle_each.ensures ∙ all_settled a.graph.roster are.lawful seen are.graph.holds a.graph.solver p (all_readings p.events) e.0 e.1 refl old there)
