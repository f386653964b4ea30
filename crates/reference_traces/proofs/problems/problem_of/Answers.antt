use Rattle.std.proofs.Common.{◌≡◌, ◌∙◌, List, length, ap, subst, sym}
use Rattle.std.proofs.lemmas.List.{length-map}
use Rattle.decl.specs.Declaration.{Declaration, declaration_of}
use Rattle.traces.specs.declared.event_id.Couple.{Couple}
use Rattle.traces.specs.Seen.{Seen, seen_events}
use Rattle.traces.specs.declared.accepted.Accepted.{Accepted}
use Rattle.traces.specs.Traces.{Placed, events_of}
use Rattle.traces.specs.Held.{placed_in, seen_in}
use Rattle.traces.specs.Making.{AreEventsOf, AreMessages}
use Rattle.traces.proofs.Seen.{are_events, are_messages}
use Rattle.reference_traces.proofs.problems.problem_of.Goals as goal

pub problem_by-requires-clause-events : goal.problem_by-requires-clause-events
problem_by-requires-clause-events c =
    let d : Declaration = declaration_of c.args.decl.now in
    let seen : List (List Seen) = seen_in c.args.accepted.now in
    let placed : placed_in c.deref.result.now ≡ events_of seen = ap placed_in c.deref.ensures.value ∙ c.in_ok-events.ensures in
    let labels : length seen ≡ length d.labels = length-map c.args.accepted.now (λ (a : Accepted). seen_events a.events.items) ∙ c.requires.labels in
    subst (λ (events : List Placed). AreEventsOf d events) (sym placed) (are_events d seen labels c.requires.count)

pub problem_by-requires-clause-messages : goal.problem_by-requires-clause-messages
problem_by-requires-clause-messages c =
    let seen : List (List Seen) = seen_in c.args.accepted.now in
    let placed : placed_in c.deref.result.now ≡ events_of seen = ap placed_in c.deref.ensures.value ∙ c.in_ok-events.ensures in
    subst (λ (events : List Placed). AreMessages events c.args.messages.now) (sym placed)
    (subst (λ (couples : List Couple). AreMessages (events_of seen) couples) (sym c.requires.messages) (are_messages seen c.requires.count))
