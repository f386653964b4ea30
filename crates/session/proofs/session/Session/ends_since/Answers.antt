use Rattle.std.proofs.Common.{◌≡◌, ◌∙◌, ℕ, List, All, true, refl, sym, ap, subst}
use Rattle.std.proofs.lemmas.Result.{IfOk-weaker}
use Rattle.decl.specs.Declaration.{Declaration}
use Rattle.problem_model.specs.Problem.{ProblemLists}
use Rattle.mergecap.specs.Packets.{all_timed}
use Rattle.traces.specs.Seen.{Seen}
use Rattle.traces.specs.Held.{seen_in}
use Rattle.traces.specs.Messages.{problem_of_seen}
use Rattle.queries.specs.Consistent.{IsConsistent}
use Rattle.replies.specs.Reply.{IsPlacedAt}
use Rattle.roster.specs.Roster.{RosterLists}
use Rattle.session_answers.specs.Ready.{answers_problem, declared}
use Rattle.session.specs.Settled.{HasEventOf}
use Rattle.session.specs.Since.{AreEndsFrom}
use Rattle.session.specs.Stands.{Held, problem_held, seen_held, solver_of}
use Rattle.session.proofs.Accepting.{whole_kept}
use Rattle.session.proofs.Holding.{limits, seen_accepted}
use Rattle.session.proofs.Standby.{ready_of}
use Rattle.session.proofs.session.Session.ends_since.Goals as goal

pub packet_ends-requires : goal.packet_ends-requires
packet_ends-requires g c =
    let a = c.self.inside.answers in
    let r = a.graph.roster in
    let seen = seen_in c.self.inside.accepted.items in
    let p = answers_problem a seen in
    let same : problem_held c.args.self.now ≡ p = ap problem_held (sym c.self.view_is) ∙ ap (λ (x : List (List Seen)). problem_of_seen (declared a) x) (seen_accepted c.self.inside.accepted.items) in
    let held : seen_held c.args.self.now.under ≡ seen = ap (λ (h : Held). seen_held h.under) (sym c.self.view_is) ∙ seen_accepted c.self.inside.accepted.items in
    let ready : c.self.inside.ready ≡ true = ready_of c.args.self.now c.self.inside.ready a (ap (λ (h : Held). h.answers) c.self.view_is) c.requires.ready in
    let are = c.self.invariant.2 ready in
    let placed = subst (λ (x : List (List Seen)). (place : ℕ) × IsPlacedAt x place c.args.event) held c.requires.event in
    (seen, c.self.inside.kept.items, are, subst (λ (q : ProblemLists). IsConsistent q true) same c.requires.consistent, placed, subst (λ (x : List (List Seen)). All (HasEventOf x) (all_timed c.args.kept.now)) held c.requires.there)

pub returns-clause-are : goal.returns-clause-are
returns-clause-are g c =
    let a = c.self.inside.answers in
    let r = a.graph.roster in
    let seen = seen_in c.self.inside.accepted.items in
    let p = answers_problem a seen in
    let same : problem_held c.args.self.now ≡ p = ap problem_held (sym c.self.view_is) ∙ ap (λ (x : List (List Seen)). problem_of_seen (declared a) x) (seen_accepted c.self.inside.accepted.items) in
    let held : seen_held c.args.self.now.under ≡ seen = ap (λ (h : Held). seen_held h.under) (sym c.self.view_is) ∙ seen_accepted c.self.inside.accepted.items in
    let ready : c.self.inside.ready ≡ true = ready_of c.args.self.now c.self.inside.ready a (ap (λ (h : Held). h.answers) c.self.view_is) c.requires.ready in
    let are = c.self.invariant.2 ready in
    let there = subst (λ (x : List (List Seen)). All (HasEventOf x) (all_timed c.args.kept.now)) held c.requires.there in
    let old = c.args.self.now in
    IfOk-weaker c.packet_ends.result _
    (λ all. (place : ℕ) → IsPlacedAt (seen_held old.under) place c.args.event → AreEndsFrom old.declaration (seen_held old.under) place (all_timed c.args.kept.now) all.items)
    (λ all told. (λ place placed.
    subst (λ (d : Declaration). AreEndsFrom d (seen_held old.under) place (all_timed c.args.kept.now) all.items) (ap (λ (h : Held). h.declaration) c.self.view_is)
    (subst (λ (x : List (List Seen)). AreEndsFrom (declared a) x place (all_timed c.args.kept.now) all.items) (sym held)
    (told seen c.self.inside.kept.items place are (subst (λ (x : List (List Seen)). IsPlacedAt x place c.args.event) held placed) there)))) c.packet_ends.ensures.are

pub returns-clause-declared : goal.returns-clause-declared
returns-clause-declared g c = ap (λ (r : RosterLists). r.declaration) c.packet_ends.ensures.roster ∙ ap (λ (h : Held). h.declaration) c.self.view_is

pub returns-clause-held : goal.returns-clause-held
returns-clause-held g c = ap (λ (h : Held). h.under) c.self.view_is

pub invariant_of-self : goal.invariant_of-self
invariant_of-self g c =
    let d = declared c.self.inside.answers in
    let kept = c.self.inside.kept.items in
    let accepted = c.self.inside.accepted.items in
    whole_kept d accepted kept kept (solver_of c.self.inside.ready c.self.inside.answers) c.self.inside.ready c.packet_ends.new.answers (ap (λ (r : RosterLists). r.declaration) c.packet_ends.ensures.roster)
    (limits c.self.invariant.0) c.self.invariant.1 (λ is. c.packet_ends.ensures.ready (seen_in accepted) kept (c.self.invariant.2 is))
