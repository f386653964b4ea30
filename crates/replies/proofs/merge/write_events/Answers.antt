use Rattle.std.proofs.Common.{◌≡◌, List, length, sym, ◌∙◌, ap, subst}
use Rattle.std.proofs.lemmas.List.{length-map}
use Rattle.ports.proofs.Writing.{such_as}
use Rattle.problem_model.specs.Problem.{ProblemLists}
use Rattle.problem.specs.Listing.{all_readings}
use Rattle.decl.specs.Declaration.{Declaration, declaration_of}
use Rattle.traces.specs.Seen.{Seen, seen_events}
use Rattle.traces.specs.declared.accepted.Accepted.{Accepted}
use Rattle.traces.specs.Traces.{Placed, events_of}
use Rattle.traces.specs.Held.{placed_in, placed_of, seen_in}
use Rattle.traces.specs.Messages.{problem_of_seen}
use Rattle.traces.specs.Making.{AreEventsOf}
use Rattle.traces.proofs.Seen.{are_events}
use Rattle.earliest.specs.Values.{Values}
use Rattle.queries.specs.Replies.{Replies}
use Rattle.problem.proofs.OwnReadings.{own_readings}
use Rattle.replies.specs.Merged.{IsMergeText}
use Rattle.replies.specs.Writing.{AreValued, IsTextBy, times_by}
use Rattle.replies.proofs.Texts.{valued, merge_shows}
use Rattle.replies.proofs.merge.write_events.Goals as goal

pub write_merged-requires-clause-events : goal.write_merged-requires-clause-events
write_merged-requires-clause-events g c =
    let d : Declaration = declaration_of c.args.decl.now in
    let seen : List (List Seen) = seen_in c.args.accepted.now in
    let placed : placed_in c.deref.result.now ≡ events_of seen = ap placed_in c.deref.ensures.value ∙ c.in_ok-events.ensures in
    let labels : length seen ≡ length d.labels = length-map c.args.accepted.now (λ (a : Accepted). seen_events a.events.items) ∙ c.requires.labels in
    subst (λ (events : List Placed). AreEventsOf d events) (sym placed) (are_events d seen labels c.requires.few)

pub write_merged-requires-clause-solved : goal.write_merged-requires-clause-solved
write_merged-requires-clause-solved g c =
    let l = g.N.Listing.listed c.args.names.now in
    let s = c.args.solver.now in
    ap (λ (e : Values). e.is_solved) c.earliest.ensures ∙ c.executions.ensures.solved s l (problem_of_seen (declaration_of c.args.decl.now) (seen_in c.args.accepted.now)) c.requires.solution c.requires.solved

pub write_merged-requires-clause-valued : goal.write_merged-requires-clause-valued
write_merged-requires-clause-valued g c =
    let d : Declaration = declaration_of c.args.decl.now in
    let seen : List (List Seen) = seen_in c.args.accepted.now in
    let p : ProblemLists = problem_of_seen d seen in
    let l = g.N.Listing.listed c.args.names.now in
    let s = c.args.solver.now in
    let placed : placed_in c.deref.result.now ≡ events_of seen = ap placed_in c.deref.ensures.value ∙ c.in_ok-events.ensures in
    let total : length (events_of seen) ≡ length c.deref.result.now = ap length (sym placed) ∙ length-map c.deref.result.now placed_of in
    subst (λ (e : Values). AreValued l (length c.deref.result.now) e.values) (sym c.earliest.ensures)
    (valued d seen l s c.requires.solution (length c.deref.result.now) total s.earliest.values
    (c.executions.ensures.one_each l p (all_readings p.events) s (own_readings p) c.requires.solution))

pub returns-clause-writes : goal.returns-clause-writes
returns-clause-writes g c =
    let d : Declaration = declaration_of c.args.decl.now in
    let seen : List (List Seen) = seen_in c.args.accepted.now in
    let p : ProblemLists = problem_of_seen d seen in
    let l = g.N.Listing.listed c.args.names.now in
    let s = c.args.solver.now in
    let placed : placed_in c.deref.result.now ≡ events_of seen = ap placed_in c.deref.ensures.value ∙ c.in_ok-events.ensures in
    let some = c.executions.ensures.earliest l p (all_readings p.events) s (own_readings p) c.requires.solution c.requires.solved in
    such_as (IsTextBy d (times_by l c.earliest.result.now.values) (placed_in c.deref.result.now)) (Replies p (IsMergeText d seen))
    (λ text by. merge_shows d seen l s c.requires.solution s.earliest.values some.0 some.1 some.2 text
    (subst (λ (e : Values). IsTextBy d (times_by l e.values) (events_of seen) text) c.earliest.ensures
    (subst (λ (events : List Placed). IsTextBy d (times_by l c.earliest.result.now.values) events text) placed by)))
    c.write_merged.ensures.writes
