use Rattle.std.proofs.Common.{◌≡◌, ◌∙◌, ◌+◌, ◌^◌, ◌<◌, ◌≤◌, length, true, refl, sym, subst, rules, arith}
use Rattle.problem_model.specs.Limits.{most_events}
use Rattle.captures.specs.Feeding.{seen_packets}
use Rattle.mergecap.specs.Packets.{all_timed}
use Rattle.traces.specs.Traces.{event_count}
use Rattle.replies.specs.declared.outcome.Outcome.{Outcome}
use Rattle.replies.specs.declared.outcome.Outcome.TheVariants.{Refused}
use Rattle.session.specs.declared.kept_packets.AddAnswer.TheVariants as answers
use Rattle.session.specs.Stands.{seen_held, under_of}
use Rattle.replies.specs.Outcomes.{IsOutcomeLine}
use Rattle.session.specs.TakingInside.{KeepsFound, UnderAnswered}
use Rattle.session.proofs.AddedThere.{where_not_refused}
use Rattle.session.proofs.Holding.{limits}
use Rattle.session.proofs.TakenUnder.{at_held, few_with, few_held, count_held}
use Rattle.session.proofs.TakingOver.{under_accepted, under_refused}
use Rattle.session_answers.specs.Ready.{declared}
use Rattle.session.proofs.session.Session.take_under.Goals as goal

pub overflow_cast-before : goal.overflow_cast-before
overflow_cast-before g c =
    let d = declared c.self.inside.answers in
    let few = few_held d c.self.inside.accepted.items _ _ c.args.self.now c.args.k c.index.result.now c.self.view_is (limits c.self.invariant.0) c.requires.inside c.index.ensures in
    let count : c.len-before.result ≡ length c.index.result.now.events.items = search rules in
    let small : c.len-before.result < 2 ^ 32 = omega (arith, few, count) in
    record { fits = small }

pub store-requires : goal.store-requires
store-requires g c =
    let d = declared c.self.inside.answers in
    let room : event_count (seen_held c.args.self.now.under) + length c.add_under.new.completed.packets.items ≤ most_events =
    where_not_refused c.in_ok-outcome.outcome c.in_default.not-Refused (c.in_ok-outcome.ensures.room refl) in
    let few = few_with d c.self.inside.accepted.items _ _ c.args.self.now c.args.k c.index.result.now c.self.view_is (limits c.self.invariant.0) c.requires.inside c.index.ensures (length c.add_under.new.completed.packets.items) room in
    let count : c.len-before.result ≡ length c.index.result.now.events.items = search rules in
    omega (arith, few, count)

pub returns-in_ok-store-in_default-clause-takes : goal.returns-in_ok-store-in_default-clause-takes
returns-in_ok-store-in_default-clause-takes g c =
    let d = declared c.self.inside.answers in
    let at = at_held d c.self.inside.accepted.items _ _ c.args.self.now c.args.k c.index.result.now c.self.view_is (limits c.self.invariant.0) c.requires.inside c.index.ensures in
    let count : c.len-before.result ≡ length c.index.result.now.events.items = search rules in
    let many = count_held d c.self.inside.accepted.items _ _ c.args.self.now c.args.k c.index.result.now c.self.view_is (limits c.self.invariant.0) c.requires.inside c.index.ensures in
    under_accepted c.captures_are_one.ensures c.args.self.now c.add_under.new.self (g.F.Files.told c.args.files.now) (g.F.Files.told c.add_under.new.files) c.args.k c.len-before.result (under_of c.index.result.now) c.args.path.now
    (seen_packets c.add_under.new.completed.packets.items) (all_timed c.args.kept.now.items) (all_timed c.store.new.kept.items) c.requires.inside at (many ∙ sym count) c.in_ok-store-in_default.ensures
    c.in_ok-outcome.outcome c.in_default.not-Refused c.in_ok-outcome.ensures.answers

pub returns-in-Refused-clause-takes : goal.returns-in-Refused-clause-takes
returns-in-Refused-clause-takes g c =
    let packets = seen_packets c.add_under.new.completed.packets.items in
    let answered = subst (λ (o : Outcome). UnderAnswered c.args.k c.args.path.now (g.F.Files.told c.args.files.now) (g.F.Files.told c.add_under.new.files) c.args.self.now c.add_under.new.self
    (KeepsFound true c.args.self.now c.args.k packets o) (IsOutcomeLine o)) c.in-Refused.is c.in_ok-outcome.ensures.answers in
    under_refused c.args.self.now c.add_under.new.self (g.F.Files.told c.args.files.now) (g.F.Files.told c.add_under.new.files) c.args.k c.args.path.now
    (KeepsFound true c.args.self.now c.args.k packets (Refused c.in-Refused.refusal)) (all_timed c.args.kept.now.items) (all_timed c.args.kept.now.items) c.in-Refused.refusal
    (answers.Refused c.refused_text.result) (λ old new text is. ((c.in-Refused.refusal, is), is ∙ sym c.refused_text.ensures, refl)) refl answered
