use Rattle.std.proofs.Common.{◌≡◌, ◌<◌, ◌∙◌, ℕ, List, get_or, length, slice_get, Some, refl, sym, ap, subst, take}
use Rattle.std.proofs.lemmas.Option.{slice_get-get_or, slice_get_read}
use Rattle.problem_model.specs.declared.items.Clock.{Clock}
use Rattle.problem_model.specs.declared.items.Event.{Event}
use Rattle.problem_model.specs.Problem.{ProblemLists}
use Rattle.problem_model.specs.ChainNumbers.{with_follow}
use Rattle.problem.specs.Growing.{IsNewClock, IsNewEvent, IsNewFollow, with_event}
use Rattle.decl.specs.Declaration.{Declaration, declaration_of, follow_from}
use Rattle.traces.specs.declared.event_id.Couple.{Couple}
use Rattle.traces.specs.Traces.{Placed}
use Rattle.traces.specs.Messages.{event_with, linked}
use Rattle.traces.specs.Held.{placed_in, placed_of}
use Rattle.reference_traces.specs.Known.{IsKnownEvent}
use Rattle.traces.proofs.Lists.{all_at}
use Rattle.traces.proofs.Places.{label_of, placed_at}
use Rattle.reference_traces.proofs.Growth.{clock_new, event_more, event_new, known, linked_is, made_more, made_new}
use Rattle.reference_traces.proofs.Follows.{follow_more, follow_new, follow_none}
use Rattle.reference_traces.proofs.problems.problem_by.Goals as goal
use Rattle.reference_traces.proofs.problems.problem_by.Goals.{in-Some+in_ok-add_follow, in_default}

-- what a list of couples shows past its end
abbrev no_couple : Couple
no_couple = record { send = record { label = 0; number = 0 }; receive = record { label = 0; number = 0 } }

pub add_clock-requires-clause-new : goal.add_clock-requires-clause-new
add_clock-requires-clause-new c =
    let d : Declaration = declaration_of c.args.decl.now in
    let k : ℕ = c.loop-clock.clock-index in
    let clock : Clock = c.clock-item.result in
    let read : slice_get c.deref-clock-items.result.now k ≡ Some clock = slice_get_read _ _ k clock refl c.loop-clock-test.true c.clock-item.is in
    let at : slice_get d.clocks k ≡ Some clock = subst (λ (xs : List Clock). slice_get xs k ≡ Some clock) c.deref-clock-items.ensures.value read in
    subst (λ (p : ProblemLists). IsNewClock p clock) (sym c.loop-clock.invariant) (clock_new d c.requires.lawful.clocks k clock at)

pub add_follow-requires : goal.add_follow-requires
add_follow-requires c =
    let d : Declaration = declaration_of c.args.decl.now in
    let at : follow_from d c.loop-place.place ≡ Some c.in-Some.follow = sym c.follow_from.ensures ∙ c.in-Some.is in
    subst (λ (p : ProblemLists). IsNewFollow p c.in-Some.follow) (sym c.loop-place.invariant) (follow_new d c.requires.lawful c.loop-place.place c.in-Some.follow at)

pub loop-place-preserved : goal.loop-place-preserved
loop-place-preserved c =
    let d : Declaration = declaration_of c.args.decl.now in
    let k : ℕ = c.loop-place.place in
    elim c.match-follow_from.branch [
      | in-Some+in_ok-add_follow w ↦ w.p-is ∙ w.in_ok-add_follow.ensures ∙ ap (λ (p : ProblemLists). with_follow p w.in-Some.follow) c.loop-place.invariant ∙ follow_more d k w.in-Some.follow (sym c.follow_from.ensures ∙ w.in-Some.is)
      | in_default w ↦ w.p-is ∙ c.loop-place.invariant ∙ follow_none d k c.follow_from.result c.follow_from.ensures w.in_default.not-Some
    ]

pub event_of-event-requires-clause-label : goal.event_of-event-requires-clause-label
event_of-event-requires-clause-label c =
    let d : Declaration = declaration_of c.args.decl.now in
    let at = placed_at c.args.events.now c.loop-event.event-index c.event-item.result c.loop-event-test.true c.event-item.is in
    all_at (λ (e : Placed). e.id.label < length d.labels) (placed_in c.args.events.now) c.loop-event.event-index (placed_of c.event-item.result) c.requires.events.labels at

pub add_event-requires-clause-new : goal.add_event-requires-clause-new
add_event-requires-clause-new c =
    let d : Declaration = declaration_of c.args.decl.now in
    let events : List Placed = placed_in c.args.events.now in
    let e : Placed = placed_of c.event-item.result in
    let at = placed_at c.args.events.now c.loop-event.event-index c.event-item.result c.loop-event-test.true c.event-item.is in
    subst (λ (event : Event). IsNewEvent c.loop-event.p event) (sym c.event_of-event.ensures)
    (subst (λ (p : ProblemLists). IsNewEvent p (event_with d e)) (sym c.loop-event.invariant) (event_new d c.requires.lawful events c.requires.events c.loop-event.event-index e at))

pub loop-event-preserved : goal.loop-event-preserved
loop-event-preserved c =
    let d : Declaration = declaration_of c.args.decl.now in
    let events : List Placed = placed_in c.args.events.now in
    let e : Placed = placed_of c.event-item.result in
    let at = placed_at c.args.events.now c.loop-event.event-index c.event-item.result c.loop-event-test.true c.event-item.is in
    let grown : c.add_event.new.p ≡ with_event c.loop-event.p c.event_of-event.result = c.in_ok-add_event.ensures in
    grown ∙ ap (λ (event : Event). with_event c.loop-event.p event) c.event_of-event.ensures ∙ ap (λ (p : ProblemLists). with_event p (event_with d e)) c.loop-event.invariant
    ∙ event_more d events c.loop-event.event-index e at

pub message_of-message-requires-clause-send_label : goal.message_of-message-requires-clause-send_label
message_of-message-requires-clause-send_label c =
    label_of (declaration_of c.args.decl.now) (placed_in c.args.events.now) _ c.requires.events (c.requires.messages.sends c.loop-couple.couple-index _ c.loop-couple-test.true)

pub message_of-message-requires-clause-receive_label : goal.message_of-message-requires-clause-receive_label
message_of-message-requires-clause-receive_label c =
    label_of (declaration_of c.args.decl.now) (placed_in c.args.events.now) _ c.requires.events (c.requires.messages.receives c.loop-couple.couple-index _ c.loop-couple-test.true)

pub message_of-message-requires-clause-send_known : goal.message_of-message-requires-clause-send_known
message_of-message-requires-clause-send_known c =
    let d : Declaration = declaration_of c.args.decl.now in
    let m : Couple = get_or c.args.couples.now c.loop-couple.couple-index no_couple in
    subst (λ (p : ProblemLists). IsKnownEvent d p m.send) (sym c.loop-couple.invariant)
    (known d (placed_in c.args.events.now) (take c.loop-couple.couple-index c.args.couples.now) m.send c.requires.events (c.requires.messages.sends c.loop-couple.couple-index no_couple c.loop-couple-test.true))

pub message_of-message-requires-clause-receive_known : goal.message_of-message-requires-clause-receive_known
message_of-message-requires-clause-receive_known c =
    let d : Declaration = declaration_of c.args.decl.now in
    let m : Couple = get_or c.args.couples.now c.loop-couple.couple-index no_couple in
    subst (λ (p : ProblemLists). IsKnownEvent d p m.receive) (sym c.loop-couple.invariant)
    (known d (placed_in c.args.events.now) (take c.loop-couple.couple-index c.args.couples.now) m.receive c.requires.events (c.requires.messages.receives c.loop-couple.couple-index no_couple c.loop-couple-test.true))

pub add_message-requires-clause-new : goal.add_message-requires-clause-new
add_message-requires-clause-new c =
    let d : Declaration = declaration_of c.args.decl.now in
    let events : List Placed = placed_in c.args.events.now in
    let couples : List Couple = c.args.couples.now in
    let k : ℕ = c.loop-couple.couple-index in
    let m : Couple = get_or couples k no_couple in
    let at : slice_get couples k ≡ Some m = slice_get-get_or couples k no_couple c.loop-couple-test.true in
    let made = c.message_of-message.ensures in
    let is : c.message_of-message.result ≡ linked d events m =
    linked_is d events couples k m _ _ c.requires.lawful.labels c.requires.events c.requires.messages at c.loop-couple.invariant made.send made.receive made.bounds in
    made_new d events couples k m _ _ c.requires.events c.requires.messages at c.loop-couple.invariant is

pub loop-couple-preserved : goal.loop-couple-preserved
loop-couple-preserved c =
    let d : Declaration = declaration_of c.args.decl.now in
    let events : List Placed = placed_in c.args.events.now in
    let couples : List Couple = c.args.couples.now in
    let k : ℕ = c.loop-couple.couple-index in
    let m : Couple = get_or couples k no_couple in
    let at : slice_get couples k ≡ Some m = slice_get-get_or couples k no_couple c.loop-couple-test.true in
    let made = c.message_of-message.ensures in
    let is : c.message_of-message.result ≡ linked d events m =
    linked_is d events couples k m _ _ c.requires.lawful.labels c.requires.events c.requires.messages at c.loop-couple.invariant made.send made.receive made.bounds in
    c.in_ok-add_message.ensures ∙ made_more d events couples k m _ _ at c.loop-couple.invariant is
