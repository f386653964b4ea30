use Rattle.std.proofs.Common.{◌≡◌, ◌∙◌, refl, ◌≤◌, ◌<◌, sym, ap, subst, List, length, map, true, false, rules}
use Rattle.std.specs.Vec.{with_items}
use Rattle.std.proofs.lemmas.List.{with_items_is}
use Rattle.problem_model.specs.Limits.{most_events}
use Rattle.decl.specs.Declaration.{Declaration}
use Rattle.traces.specs.Seen.{Seen, seen_events}
use Rattle.traces.specs.declared.accepted.Accepted.{Accepted}
use Rattle.traces.specs.Traces.{event_count}
use Rattle.traces.specs.Held.{seen_in}
use Rattle.traces.specs.Messages.{problem_of_seen}
use Rattle.msg_match.specs.Ends.{IsChange}
use Rattle.queries.specs.Consistent.{IsConsistent}
use Rattle.replies.specs.Outcomes.{IsOutcomeLine, outcome_line}
use Rattle.session.specs.Stands.{Held, held_parts, problem_held, solver_of, under_of}
use Rattle.session_answers.specs.Ready.{AreAnswersOf, declared}
use Rattle.session_answers.specs.Keeping.{BringsEvents}
use Rattle.session.specs.Inside.{AcceptAnswered, HasPlace}
use Rattle.session.proofs.AddedThere.{where_weaker}
use Rattle.session.proofs.Holding.{limits, seen_accepted}
use Rattle.session.proofs.Standby.{ready_of}
use Rattle.session.proofs.Additions.{added_so}
use Rattle.session.proofs.Accepting.{has_extended, added_in, whole_same, whole_grown, never_ready}
use Rattle.session.proofs.session.Session.accept.Goals as goal

pub extend-requires-clause-place : goal.extend-requires-clause-place
extend-requires-clause-place g c =
    subst (λ (l : List Accepted). HasPlace (map under_of l) c.args.k c.args.size) (sym c.deref_mut.ensures.value)
    (subst (λ (h : Held). HasPlace h.under c.args.k c.args.size) (sym c.self.view_is) c.requires.place)

pub renew-requires-clause-inside : goal.renew-requires-clause-inside
renew-requires-clause-inside g c =
    let h = has_extended (declared c.self.inside.answers) c.self.inside.accepted c.deref_mut.result.now c.extend.new.accepted c.self.inside.kept.items (solver_of c.self.inside.ready c.self.inside.answers)
    c.args.self.now c.args.k c.len-more.result c.args.events.items c.args.size c.args.stream c.self.view_is c.requires.inside c.requires.place c.requires.within (search rules) c.requires.room
    c.deref_mut.ensures.value c.in_ok-extend.ensures.grown c.in_ok-extend.ensures.len (limits c.self.invariant.0) in
    subst (λ (l : List Accepted). c.args.k < length l) (sym c.deref.ensures.value) h.inside

pub renew-requires-clause-few : goal.renew-requires-clause-few
renew-requires-clause-few g c =
    let h = has_extended (declared c.self.inside.answers) c.self.inside.accepted c.deref_mut.result.now c.extend.new.accepted c.self.inside.kept.items (solver_of c.self.inside.ready c.self.inside.answers)
    c.args.self.now c.args.k c.len-more.result c.args.events.items c.args.size c.args.stream c.self.view_is c.requires.inside c.requires.place c.requires.within (search rules) c.requires.room
    c.deref_mut.ensures.value c.in_ok-extend.ensures.grown c.in_ok-extend.ensures.len (limits c.self.invariant.0) in
    subst (λ (l : List Accepted). event_count (seen_in l) ≤ most_events) (sym c.deref.ensures.value) h.few

pub renew-requires-clause-brings : goal.renew-requires-clause-brings
renew-requires-clause-brings g c =
    let h = has_extended (declared c.self.inside.answers) c.self.inside.accepted c.deref_mut.result.now c.extend.new.accepted c.self.inside.kept.items (solver_of c.self.inside.ready c.self.inside.answers)
    c.args.self.now c.args.k c.len-more.result c.args.events.items c.args.size c.args.stream c.self.view_is c.requires.inside c.requires.place c.requires.within (search rules) c.requires.room
    c.deref_mut.ensures.value c.in_ok-extend.ensures.grown c.in_ok-extend.ensures.len (limits c.self.invariant.0) in
    let ready : c.self.inside.ready ≡ true = ready_of c.args.self.now c.self.inside.ready c.self.inside.answers (ap (λ (h : Held). h.answers) c.self.view_is) c.requires.ready in
    let here : BringsEvents (seen_in c.self.inside.accepted.items) (seen_in c.deref.result.now) c.args.k c.len-more.result =
    subst (λ (l : List Accepted). BringsEvents (seen_in c.self.inside.accepted.items) (seen_in l) c.args.k c.len-more.result) (sym c.deref.ensures.value) h.brought in
    (seen_in c.self.inside.accepted.items, c.self.inside.kept.items, c.self.invariant.2 ready, here)

pub invariant_of-self : goal.invariant_of-self
invariant_of-self g c =
    let d = declared c.self.inside.answers in
    let kept = c.self.inside.kept.items in
    let long : length c.extend.new.accepted ≡ c.self.inside.accepted.len = c.in_err-extend.ensures.len ∙ ap length c.deref_mut.ensures.value ∙ sym c.self.inside.accepted.ok.0 in
    let back : (with_items c.self.inside.accepted c.extend.new.accepted).items ≡ c.extend.new.accepted = with_items_is c.self.inside.accepted c.extend.new.accepted long in
    whole_same d c.self.inside.accepted.items c.extend.new.accepted (with_items c.self.inside.accepted c.extend.new.accepted).items kept (solver_of c.self.inside.ready c.self.inside.answers)
    false c.self.inside.answers refl back (c.in_err-extend.ensures.stays ∙ ap (λ (l : List Accepted). map under_of l) c.deref_mut.ensures.value) (limits c.self.invariant.0) c.self.invariant.1
    refl

pub invariant_of-self-in_err-renewed : goal.invariant_of-self-in_err-renewed
invariant_of-self-in_err-renewed g c =
    let d = declared c.self.inside.answers in
    let before = solver_of c.self.inside.ready c.self.inside.answers in
    let h = has_extended d c.self.inside.accepted c.deref_mut.result.now c.extend.new.accepted c.self.inside.kept.items before
    c.args.self.now c.args.k c.len-more.result c.args.events.items c.args.size c.args.stream c.self.view_is c.requires.inside c.requires.place c.requires.within (search rules) c.requires.room
    c.deref_mut.ensures.value c.in_ok-extend.ensures.grown c.in_ok-extend.ensures.len (limits c.self.invariant.0) in
    let then = (with_items c.self.inside.accepted c.extend.new.accepted).items in
    whole_grown d c.self.inside.accepted.items c.extend.new.accepted then c.self.inside.kept.items before false c.renew.new.answers c.args.self.now c.args.k (seen_events c.args.events.items) c.args.size c.args.stream
    h.is c.renew.ensures.declaration h.back (limits c.self.invariant.0) c.self.invariant.1
    (never_ready false (AreAnswersOf (seen_in then) c.self.inside.kept.items c.renew.new.answers) refl)

pub invariant_of-self-2 : goal.invariant_of-self-2
invariant_of-self-2 g c =
    let d = declared c.self.inside.answers in
    let before = solver_of c.self.inside.ready c.self.inside.answers in
    let kept = c.self.inside.kept.items in
    let h = has_extended d c.self.inside.accepted c.deref_mut.result.now c.extend.new.accepted kept before
    c.args.self.now c.args.k c.len-more.result c.args.events.items c.args.size c.args.stream c.self.view_is c.requires.inside c.requires.place c.requires.within (search rules) c.requires.room
    c.deref_mut.ensures.value c.in_ok-extend.ensures.grown c.in_ok-extend.ensures.len (limits c.self.invariant.0) in
    let then = (with_items c.self.inside.accepted c.extend.new.accepted).items in
    let ready : c.self.inside.ready ≡ true = ready_of c.args.self.now c.self.inside.ready c.self.inside.answers (ap (λ (h : Held). h.answers) c.self.view_is) c.requires.ready in
    let here : BringsEvents (seen_in c.self.inside.accepted.items) (seen_in c.deref.result.now) c.args.k c.len-more.result =
    subst (λ (l : List Accepted). BringsEvents (seen_in c.self.inside.accepted.items) (seen_in l) c.args.k c.len-more.result) (sym c.deref.ensures.value) h.brought in
    let done : AreAnswersOf (seen_in then) kept c.renew.new.answers =
    subst (λ (l : List Accepted). AreAnswersOf (seen_in l) kept c.renew.new.answers) c.deref.ensures.value (c.in_ok-renewed.ensures.ready (seen_in c.self.inside.accepted.items) kept (c.self.invariant.2 ready) here) in
    whole_grown d c.self.inside.accepted.items c.extend.new.accepted then kept before true c.renew.new.answers c.args.self.now c.args.k (seen_events c.args.events.items) c.args.size c.args.stream
    h.is c.renew.ensures.declaration h.back (limits c.self.invariant.0) c.self.invariant.1 (λ is. done)

pub returns-clause-answers : goal.returns-clause-answers
returns-clause-answers g c =
    let d = declared c.self.inside.answers in
    let before = solver_of c.self.inside.ready c.self.inside.answers in
    let kept = c.self.inside.kept.items in
    let h = has_extended d c.self.inside.accepted c.deref_mut.result.now c.extend.new.accepted kept before
    c.args.self.now c.args.k c.len-more.result c.args.events.items c.args.size c.args.stream c.self.view_is c.requires.inside c.requires.place c.requires.within (search rules) c.requires.room
    c.deref_mut.ensures.value c.in_ok-extend.ensures.grown c.in_ok-extend.ensures.len (limits c.self.invariant.0) in
    let same : c.deref.result.now ≡ c.extend.new.accepted = c.deref.ensures.value ∙ h.back in
    let ready : c.self.inside.ready ≡ true = ready_of c.args.self.now c.self.inside.ready c.self.inside.answers (ap (λ (h : Held). h.answers) c.self.view_is) c.requires.ready in
    let here : BringsEvents (seen_in c.self.inside.accepted.items) (seen_in c.deref.result.now) c.args.k c.len-more.result =
    subst (λ (l : List Accepted). BringsEvents (seen_in c.self.inside.accepted.items) (seen_in l) c.args.k c.len-more.result) (sym c.deref.ensures.value) h.brought in
    let after = solver_of true c.renew.new.answers in
    let p = problem_of_seen d (seen_in c.extend.new.accepted) in
    let problem : p ≡ problem_held (held_parts d c.extend.new.accepted kept after) = ap (λ (x : List (List Seen)). problem_of_seen d x) (sym (seen_accepted c.extend.new.accepted)) in
    let consistent : IsConsistent p c.in_ok-renewed.renewed.consistent =
    subst (λ (x : Declaration). IsConsistent (problem_of_seen x (seen_in c.extend.new.accepted)) c.in_ok-renewed.renewed.consistent) c.renew.ensures.declaration
    (subst (λ (l : List Accepted). IsConsistent (problem_of_seen (declared c.renew.new.answers) (seen_in l)) c.in_ok-renewed.renewed.consistent) same c.in_ok-renewed.ensures.consistent) in
    let change : IsChange (seen_in c.self.inside.accepted.items) (seen_in c.extend.new.accepted) c.in_ok-renewed.renewed.changed =
    subst (λ (l : List Accepted). IsChange (seen_in c.self.inside.accepted.items) (seen_in l) c.in_ok-renewed.renewed.changed) same
    (c.in_ok-renewed.ensures.changed (seen_in c.self.inside.accepted.items) kept (c.self.invariant.2 ready) here) in
    subst (λ (x : Declaration). AcceptAnswered c.args.self.now (held_parts x (with_items c.self.inside.accepted c.extend.new.accepted).items kept after) c.args.k (seen_events c.args.events.items) c.args.size c.args.stream (IsOutcomeLine c.outcome_of.result)) (sym c.renew.ensures.declaration)
    (subst (λ (l : List Accepted). AcceptAnswered c.args.self.now (held_parts d l kept after) c.args.k (seen_events c.args.events.items) c.args.size c.args.stream (IsOutcomeLine c.outcome_of.result)) (sym h.back)
    (added_in d c.self.inside.accepted.items c.extend.new.accepted kept before c.args.self.now c.args.k (seen_events c.args.events.items) c.args.size c.args.stream h.is p c.in_ok-renewed.renewed.changed c.len-more.result c.aside_in-aside.result after (IsOutcomeLine c.outcome_of.result)
    problem change h.count c.aside_in-aside.ensures (outcome_line c.outcome_of.result, c.outcome_of.ensures.line p consistent, refl)))

pub returns-clause-room : goal.returns-clause-room
returns-clause-room g c = where_weaker c.outcome_of.result (λ there. c.requires.room) c.outcome_of.ensures.added

pub returns-clause-addition : goal.returns-clause-addition
returns-clause-addition g c =
    let d = declared c.self.inside.answers in
    let h = has_extended d c.self.inside.accepted c.deref_mut.result.now c.extend.new.accepted c.self.inside.kept.items (solver_of c.self.inside.ready c.self.inside.answers)
    c.args.self.now c.args.k c.len-more.result c.args.events.items c.args.size c.args.stream c.self.view_is c.requires.inside c.requires.place c.requires.within (search rules) c.requires.room
    c.deref_mut.ensures.value c.in_ok-extend.ensures.grown c.in_ok-extend.ensures.len (limits c.self.invariant.0) in
    added_so d (declared c.renew.new.answers) c.self.inside.accepted.items c.extend.new.accepted (with_items c.self.inside.accepted c.extend.new.accepted).items c.self.inside.kept.items c.self.inside.ready
    c.self.inside.answers c.renew.new.answers c.args.self.now c.args.k c.len-more.result (seen_events c.args.events.items) c.args.size c.args.stream c.args.steps.now c.renew.new.steps h.is h.back h.count c.in_ok-renewed.ensures.addition
