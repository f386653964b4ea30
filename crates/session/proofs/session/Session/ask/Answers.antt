use Rattle.std.proofs.Common.{◌≡◌, ◌∙◌, ◌≤◌, List, length, true, sym, ap, subst}
use Rattle.problem_model.specs.Limits.{most_events}
use Rattle.decl.specs.Declaration.{Declaration}
use Rattle.roster.specs.Roster.{RosterLists}
use Rattle.traces.specs.declared.accepted.Accepted.{Accepted}
use Rattle.traces.specs.Traces.{event_count}
use Rattle.traces.specs.Held.{missed_in, seen_in}
use Rattle.session.specs.Stands.{Held, held_parts, solver_of}
use Rattle.session_answers.specs.Ready.{AreAnswersOf, declared}
use Rattle.replies.specs.Commands.{Ask, question_seen}
use Rattle.replies.specs.Reply.{IsAnswerTo}
use Rattle.session.specs.Inside.{UnreadAnswered}
use Rattle.session.proofs.Replying.{answered}
use Rattle.session.proofs.Telling.{Told, reply_such}
use Rattle.session.proofs.Standby.{ready_of, ready_some}
use Rattle.session.proofs.FromSlots.{from_slots}
use Rattle.session.proofs.Accepting.{whole_kept}
use Rattle.session.proofs.Holding.{limits, accepted_each, accepted_few}
use Rattle.session.proofs.session.Session.ask.Goals as goal

pub answer-requires-clause-labels : goal.answer-requires-clause-labels
answer-requires-clause-labels g c = ap length c.deref.ensures.value ∙ accepted_each (declared c.self.inside.answers) c.self.inside.accepted.items _ _ (limits c.self.invariant.0)

pub answer-requires-clause-few : goal.answer-requires-clause-few
answer-requires-clause-few g c =
    subst (λ (l : List Accepted). event_count (seen_in l) ≤ most_events) (sym c.deref.ensures.value) (accepted_few (declared c.self.inside.answers) c.self.inside.accepted.items _ _ (limits c.self.invariant.0))

pub answer-requires-clause-ready : goal.answer-requires-clause-ready
answer-requires-clause-ready g c =
    let ready : c.self.inside.ready ≡ true = ready_of c.args.self.now c.self.inside.ready c.self.inside.answers (ap (λ (h : Held). h.answers) c.self.view_is) c.requires in
    (c.self.inside.kept.items, subst (λ (l : List Accepted). AreAnswersOf (seen_in l) c.self.inside.kept.items c.self.inside.answers) (sym c.deref.ensures.value) (c.self.invariant.2 ready))

pub returns-clause-writes : goal.returns-clause-writes
returns-clause-writes g c =
    let d = declared c.self.inside.answers in
    let kept = c.self.inside.kept.items in
    let before = solver_of c.self.inside.ready c.self.inside.answers in
    let after = solver_of c.self.inside.ready c.answer.new.answers in
    let q = question_seen c.args.question in
    let same : declared c.answer.new.answers ≡ d = ap (λ (r : RosterLists). r.declaration) c.answer.ensures.roster in
    reply_such (λ IsWritten told. subst (λ (x : Declaration). UnreadAnswered c.args.self.now (held_parts x c.self.inside.accepted.items kept after) (Ask q) IsWritten) (sym same)
    (subst (λ (h : Held). UnreadAnswered h (held_parts d c.self.inside.accepted.items kept after) (Ask q) IsWritten) c.self.view_is
    (answered d c.self.inside.accepted.items q IsWritten (subst (λ (l : List Accepted). Told (IsAnswerTo q d (seen_in l) (missed_in l)) IsWritten) c.deref.ensures.value told) kept before after))) c.answer.ensures.writes

pub returns-clause-ready : goal.returns-clause-ready
returns-clause-ready g c =
    ready_some c.self.inside.ready c.answer.new.answers (ready_of c.args.self.now c.self.inside.ready c.self.inside.answers (ap (λ (h : Held). h.answers) c.self.view_is) c.requires)

pub returns-clause-steps : goal.returns-clause-steps
returns-clause-steps g c = λ rows.
    let kept = c.self.inside.kept.items in
    let ready : c.self.inside.ready ≡ true = ready_of c.args.self.now c.self.inside.ready c.self.inside.answers (ap (λ (h : Held). h.answers) c.self.view_is) c.requires in
    c.answer.ensures.steps (from_slots (seen_in c.self.inside.accepted.items) kept c.self.inside.answers (c.self.invariant.2 ready) c.args.self.now
    (sym (ap (λ (h : Held). h.declaration) c.self.view_is)) (sym (ap (λ (h : Held). h.kept) c.self.view_is)) (question_seen c.args.question) rows)

pub invariant_of-self : goal.invariant_of-self
invariant_of-self g c =
    let d = declared c.self.inside.answers in
    let kept = c.self.inside.kept.items in
    let accepted = c.self.inside.accepted.items in
    let left : c.self.inside.ready ≡ true → AreAnswersOf (seen_in accepted) kept c.answer.new.answers = λ is.
    subst (λ (l : List Accepted). AreAnswersOf (seen_in l) kept c.answer.new.answers) c.deref.ensures.value
    (c.answer.ensures.ready kept (subst (λ (l : List Accepted). AreAnswersOf (seen_in l) kept c.self.inside.answers) (sym c.deref.ensures.value) (c.self.invariant.2 is))) in
    whole_kept d accepted kept kept (solver_of c.self.inside.ready c.self.inside.answers) c.self.inside.ready c.answer.new.answers (ap (λ (r : RosterLists). r.declaration) c.answer.ensures.roster)
    (limits c.self.invariant.0) c.self.invariant.1 left
