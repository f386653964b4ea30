use Rattle.std.proofs.Common.{◌≡◌, ◌^◌, ◌-◌, ◌∙◌, List, length, ap, sym, min, arith, rules}
use Rattle.problem_model.specs.Limits.{most_events}
use Rattle.traces.specs.declared.accepted.Accepted.{Accepted}
use Rattle.traces.specs.Traces.{event_count}
use Rattle.traces.specs.Held.{seen_in}
use Rattle.session_answers.proofs.RosterEvents.{came_count}
use Rattle.session.specs.Stands.{Held, seen_held, solver_of}
use Rattle.session.proofs.Counting.{least_of_few}
use Rattle.session.proofs.Holding.{limits, accepted_few, seen_accepted}
use Rattle.session_answers.specs.Ready.{declared}
use Rattle.session.proofs.session.Session.event_count.Goals as goal

pub returns-then-self : goal.returns-then-self
returns-then-self c =
    let inside = c.self.inside in
    let are = c.self.invariant.2 c.if-self.true in
    let came : length inside.answers.graph.roster.came ≡ event_count (seen_in inside.accepted.items) = came_count inside.answers.graph.roster are.lawful (seen_in inside.accepted.items) are.graph.holds in
    let count : c.from.result ≡ length inside.answers.graph.roster.came = search rules in
    count ∙ came ∙ sym (ap event_count (ap (λ (h : Held). seen_held h.under) (sym c.self.view_is) ∙ seen_accepted inside.accepted.items))

pub returns : goal.returns
returns c =
    let inside = c.self.inside in
    let few = accepted_few (declared inside.answers) inside.accepted.items inside.kept.items (solver_of inside.ready inside.answers) (limits c.self.invariant.0) in
    c.event_count.ensures
    ∙ ap (λ (l : List Accepted). min (event_count (seen_in l)) (2 ^ 64 - 1)) c.deref.ensures.value
    ∙ least_of_few (event_count (seen_in inside.accepted.items)) (2 ^ 64 - 1) (most_events) few (omega arith)
    ∙ sym (ap event_count (ap (λ (h : Held). seen_held h.under) (sym c.self.view_is) ∙ seen_accepted inside.accepted.items))
