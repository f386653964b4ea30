use Rattle.std.proofs.Common.{◌≡◌, ◌∙◌, true, false, refl, sym, ap, subst}
use Rattle.std.specs.Result.{is_err}
use Rattle.std.proofs.lemmas.Result.{IfOk-weaker}
use Rattle.decl.specs.Declaration.{Declaration}
use Rattle.roster.specs.Roster.{RosterLists}
use Rattle.traces.specs.Held.{seen_in}
use Rattle.replies.specs.Commands.{Keep}
use Rattle.replies.specs.Outcomes.{IsOutcomeLine, outcome_line}
use Rattle.session.specs.Stands.{Held, held_parts, solver_of}
use Rattle.session_answers.specs.Ready.{AreAnswersOf, declared}
use Rattle.session.specs.Inside.{UnreadAnswered}
use Rattle.session.proofs.Replying.{keep_answered}
use Rattle.session.proofs.Standby.{ready_of, ready_some, on_ok, of_ok}
use Rattle.session.proofs.Accepting.{whole_kept, never_ready}
use Rattle.session.proofs.Holding.{limits}
use Rattle.session.proofs.session.Session.keep.Goals as goal

pub keep_event-kept-requires : goal.keep_event-kept-requires
keep_event-kept-requires g c =
    let ready : c.self.inside.ready ≡ true = ready_of c.args.self.now c.self.inside.ready c.self.inside.answers (ap (λ (h : Held). h.answers) c.self.view_is) c.requires.ready in
    record { ready = (seen_in c.self.inside.accepted.items, c.self.invariant.1, c.self.invariant.2 ready) }

pub returns-else-is_err-clause-answers : goal.returns-else-is_err-clause-answers
returns-else-is_err-clause-answers g c =
    let d = declared c.self.inside.answers in
    let accepted = c.self.inside.accepted.items in
    let kept = c.self.inside.kept.items in
    let kept' = c.keep_event-kept.new.kept.items in
    let before = solver_of c.self.inside.ready c.self.inside.answers in
    let after = solver_of c.self.inside.ready c.keep_event-kept.new.answers in
    let ready : c.self.inside.ready ≡ true = ready_of c.args.self.now c.self.inside.ready c.self.inside.answers (ap (λ (h : Held). h.answers) c.self.view_is) c.requires.ready in
    let same : declared c.keep_event-kept.new.answers ≡ d = ap (λ (r : RosterLists). r.declaration) c.keep_event-kept.ensures.roster in
    IfOk-weaker c.keep_event-kept.result _ (λ outcome. UnreadAnswered c.args.self.now (held_parts (declared c.keep_event-kept.new.answers) accepted kept' after) (Keep c.args.event.now) (IsOutcomeLine outcome))
    (λ outcome reply. subst (λ (x : Declaration). UnreadAnswered c.args.self.now (held_parts x accepted kept' after) (Keep c.args.event.now) (IsOutcomeLine outcome)) (sym same)
    (subst (λ (h : Held). UnreadAnswered h (held_parts d accepted kept' after) (Keep c.args.event.now) (IsOutcomeLine outcome)) c.self.view_is
    (keep_answered d accepted kept kept' before after c.args.event.now (outcome_line outcome) reply))) (c.keep_event-kept.ensures.replies (seen_in accepted) c.self.invariant.1 (c.self.invariant.2 ready))

pub returns-else-is_err-clause-ready : goal.returns-else-is_err-clause-ready
returns-else-is_err-clause-ready g c =
    let ready : c.self.inside.ready ≡ true = ready_of c.args.self.now c.self.inside.ready c.self.inside.answers (ap (λ (h : Held). h.answers) c.self.view_is) c.requires.ready in
    on_ok c.keep_event-kept.result _ (ready_some c.self.inside.ready c.keep_event-kept.new.answers ready)

pub invariant_of-self : goal.invariant_of-self
invariant_of-self g c =
    let d = declared c.self.inside.answers in
    let accepted = c.self.inside.accepted.items in
    let kept' = c.keep_event-kept.new.kept.items in
    let ready : c.self.inside.ready ≡ true = ready_of c.args.self.now c.self.inside.ready c.self.inside.answers (ap (λ (h : Held). h.answers) c.self.view_is) c.requires.ready in
    whole_kept d accepted c.self.inside.kept.items kept' (solver_of c.self.inside.ready c.self.inside.answers) false c.keep_event-kept.new.answers
    (ap (λ (r : RosterLists). r.declaration) c.keep_event-kept.ensures.roster) (limits c.self.invariant.0)
    (c.keep_event-kept.ensures.kept (seen_in accepted) c.self.invariant.1 (c.self.invariant.2 ready)) (never_ready false (AreAnswersOf (seen_in accepted) kept' c.keep_event-kept.new.answers) refl)

pub invariant_of-self-else-is_err : goal.invariant_of-self-else-is_err
invariant_of-self-else-is_err g c =
    let d = declared c.self.inside.answers in
    let accepted = c.self.inside.accepted.items in
    let kept' = c.keep_event-kept.new.kept.items in
    let ready : c.self.inside.ready ≡ true = ready_of c.args.self.now c.self.inside.ready c.self.inside.answers (ap (λ (h : Held). h.answers) c.self.view_is) c.requires.ready in
    let are = c.self.invariant.2 ready in
    let fine : is_err c.keep_event-kept.result ≡ false = sym c.is_err.ensures.value ∙ c.if-is_err.false in
    whole_kept d accepted c.self.inside.kept.items kept' (solver_of c.self.inside.ready c.self.inside.answers) c.self.inside.ready c.keep_event-kept.new.answers
    (ap (λ (r : RosterLists). r.declaration) c.keep_event-kept.ensures.roster) (limits c.self.invariant.0)
    (c.keep_event-kept.ensures.kept (seen_in accepted) c.self.invariant.1 are) (λ is. of_ok c.keep_event-kept.result _ fine c.keep_event-kept.ensures.ready (seen_in accepted) c.self.invariant.1 are)
