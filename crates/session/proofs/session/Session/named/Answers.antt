use Rattle.std.proofs.Common.{◌≡◌, ◌∙◌, ℕ, List, Option, true, sym, ap, subst}
use Rattle.decl.specs.Declaration.{Declaration}
use Rattle.problem_model.specs.Problem.{ProblemLists}
use Rattle.problem.specs.Line.{HasEvent, IsUnknown}
use Rattle.traces.specs.Seen.{Seen}
use Rattle.traces.specs.Held.{seen_in}
use Rattle.traces.specs.Traces.{name_of}
use Rattle.traces.specs.Messages.{problem_of_seen}
use Rattle.replies.specs.Reply.{IsPlacedAt}
use Rattle.session_answers.specs.Ready.{answers_problem, declared}
use Rattle.session_answers.proofs.AskedRows.{none_called}
use Rattle.session_answers.proofs.RosterEvents.{event_place, placed_at}
use Rattle.session.specs.Stands.{Held, problem_held, seen_held}
use Rattle.session.proofs.Holding.{seen_accepted}
use Rattle.session.proofs.SinceEvents.{named_there}
use Rattle.session.proofs.Standby.{ready_of}
use Rattle.session.proofs.session.Session.named.Goals as goal

pub returns-in-Some-clause-some : goal.returns-in-Some-clause-some
returns-in-Some-clause-some c =
    let a = c.self.inside.answers in
    let r = a.graph.roster in
    let seen = seen_in c.self.inside.accepted.items in
    let p = answers_problem a seen in
    let name = c.args.name.now in
    let event = c.in-Some.event in
    let same : problem_held c.args.self.now ≡ p = ap problem_held (sym c.self.view_is) ∙ ap (λ (x : List (List Seen)). problem_of_seen (declared a) x) (seen_accepted c.self.inside.accepted.items) in
    let held : seen_held c.args.self.now.under ≡ seen = ap (λ (h : Held). seen_held h.under) (sym c.self.view_is) ∙ seen_accepted c.self.inside.accepted.items in
    let ready : c.self.inside.ready ≡ true = ready_of c.args.self.now c.self.inside.ready a (ap (λ (h : Held). h.answers) c.self.view_is) c.requires in
    let are = c.self.invariant.2 ready in
    let called = c.in-Some.ensures.some in
    let place = (event_place r are.lawful called.known.number called.known.came called.known.there).0 in
    let placed : IsPlacedAt seen place event = placed_at r are.lawful seen are.graph.holds event _ called.known in
    let has : HasEvent p place name = subst (HasEvent p place) called.named (named_there (declared a) seen place event placed) in (
      (place, subst (λ (x : List (List Seen)). IsPlacedAt x place event) (sym held) placed, subst (λ (q : ProblemLists). HasEvent q place name) (sym same) has),
      subst (λ (d : Declaration). name_of d event ≡ name) (ap (λ (h : Held). h.declaration) c.self.view_is) called.named,
    )

pub returns-in-None-clause-none : goal.returns-in-None-clause-none
returns-in-None-clause-none c =
    let a = c.self.inside.answers in
    let r = a.graph.roster in
    let seen = seen_in c.self.inside.accepted.items in
    let p = answers_problem a seen in
    let same : problem_held c.args.self.now ≡ p = ap problem_held (sym c.self.view_is) ∙ ap (λ (x : List (List Seen)). problem_of_seen (declared a) x) (seen_accepted c.self.inside.accepted.items) in
    let ready : c.self.inside.ready ≡ true = ready_of c.args.self.now c.self.inside.ready a (ap (λ (h : Held). h.answers) c.self.view_is) c.requires in
    let are = c.self.invariant.2 ready in
    subst (λ (q : ProblemLists). IsUnknown q c.args.name.now) (sym same) (none_called r are.lawful p a.graph.solver are.graph.solution c.args.name.now c.in-None.ensures.none)
