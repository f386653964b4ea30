use Rattle.std.proofs.Common.{◌≡◌, inl, inr, refl, sym, ◌∙◌, ap, subst, arith}
use Rattle.std.proofs.lemmas.Option.{get_or_from_slice_get}
use Rattle.problem.specs.Listing.{all_readings}
use Rattle.problem.proofs.OwnReadings.{own_readings}
use Rattle.traces.specs.Messages.{problem_of_seen}
use Rattle.problem_graph.specs.ListedStanding.{IsEventAt}
use Rattle.roster.specs.declared.came.Came.{Came}
use Rattle.roster.specs.Roster.{event_at, listed, no_event}
use Rattle.replies.proofs.Elements.{there_some}
use Rattle.session.proofs.FirstEvents.{dated_from, first_from_zero, none_came, placed_of}
use Rattle.session.proofs.starts.start_of.Goals as goal

pub returns-clause-dated : goal.returns-clause-dated
returns-clause-dated c = λ seen begins.
    let r = c.args.names.now in
    let s = c.args.solver.now in
    let p = problem_of_seen r.declaration seen in
    let v = c.first_event.result in
    let e = there_some r.came v c.first_event.ensures.inside in
    let own = get_or_from_slice_get r.came v e.0 no_event e.1 in
    let x = c.executions.ensures.earliest (listed r) p (all_readings p.events) s (own_readings p) begins.solution c.requires.none in
    inl (dated_from r c.decl.ensures.lawful s _ seen x.0 begins x.1 x.2 v e.0 e.1 c.first_event.ensures c.start_at.result (c.start_at.ensures.time ∙ rw own refl)
    (λ place here. rw own at (c.start_at.ensures.date p r.declaration.source place begins.solution begins.source (rw own here))))

pub returns-then-len-eq0-clause-dated : goal.returns-then-len-eq0-clause-dated
returns-then-len-eq0-clause-dated c = λ seen begins.
    let count = c.len.ensures.count in
    let none = c.if-len-eq0.true in
    inr (none_came c.args.names.now c.decl.ensures.lawful seen begins.holds (omega (arith, count, none)), refl)

pub start_at-requires-clause-asked : goal.start_at-requires-clause-asked
start_at-requires-clause-asked c =
    let r = c.args.names.now in
    let seen = c.requires.asked.0 in
    let begins = c.requires.asked.1 in
    let v = c.first_event.result in
    let e = there_some r.came v c.first_event.ensures.inside in
    let own = get_or_from_slice_get r.came v e.0 no_event e.1 in
    let q = placed_of r c.decl.ensures.lawful seen begins.holds v e.0 e.1 in
    (problem_of_seen r.declaration seen, r.declaration.source, q.0, begins.solution, begins.source, subst (λ (x : Came). IsEventAt (listed r) q.0 x.node) (sym own) (v, q.4))
