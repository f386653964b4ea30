use Rattle.std.proofs.Common.{List, ◌∙◌, ◌++◌, ap, length, sym, subst}
use Rattle.earliest.specs.Values.{Values}
use Rattle.sync_graph.specs.Graph.{GraphLists}
use Rattle.traces.specs.Seen.{seen_events}
use Rattle.traces.specs.declared.event_id.EventId.{EventId}
use Rattle.msg_match.specs.Ends.{AreEndsBy}
use Rattle.roster.specs.Groups.{with_more}
use Rattle.session_graph.specs.Numbers.{names_then}
use Rattle.session_graph.proofs.Matching.{own_come, few_come, ends_rematched}
use Rattle.session_graph.proofs.WholeGraph.{kept_still}
use Rattle.session_graph.proofs.Roomier.{roomier_between, roomier_add}
use Rattle.session_graph.proofs.kept.KeptGraph.add.Goals as goal

pub rematch-requires-clause-few : goal.rematch-requires-clause-few
rematch-requires-clause-few g c =
    let (before, kept, ends) = c.requires.kept in
    few_come before c.args.label c.args.events.now c.args.self.now.roster c.decl.ensures.lawful c.requires.label kept.holds _ ends _ c.len.ensures.count c.requires.few

pub rematch-requires-clause-differ : goal.rematch-requires-clause-differ
rematch-requires-clause-differ g c =
    let (before, kept, ends) = c.requires.kept in
    own_come before c.args.label c.args.events.now c.args.self.now.roster c.decl.ensures.lawful c.requires.label kept.holds _ ends _ c.len.ensures.count

pub change-requires-clause-kept : goal.change-requires-clause-kept
change-requires-clause-kept g c =
    let (before, kept, ends) = c.requires.kept in
    let now = ends_rematched before c.args.label c.args.events.now c.args.self.now.roster c.decl.ensures.lawful c.requires.label kept.holds _ ends
    _ _ c.in_ok-changes.changes c.len.ensures.count c.in_ok-changes.ensures.ok c.in_ok-changes.ensures.added c.in_ok-changes.ensures.withdrawn in
    (before, kept_still c.args.self.now.roster before c.args.self.now.solver c.make_room.new.solver c.in_ok-make_room.ensures.graph c.in_ok-make_room.ensures.current kept, now.changes)

pub change-requires-clause-added : goal.change-requires-clause-added
change-requires-clause-added g c =
    let (before, kept, ends) = c.requires.kept in
    let now = ends_rematched before c.args.label c.args.events.now c.args.self.now.roster c.decl.ensures.lawful c.requires.label kept.holds _ ends
    _ _ c.in_ok-changes.changes c.len.ensures.count c.in_ok-changes.ensures.ok c.in_ok-changes.ensures.added c.in_ok-changes.ensures.withdrawn in
    now.added

pub change-requires-clause-withdrawn : goal.change-requires-clause-withdrawn
change-requires-clause-withdrawn g c =
    let (before, kept, ends) = c.requires.kept in
    let now = ends_rematched before c.args.label c.args.events.now c.args.self.now.roster c.decl.ensures.lawful c.requires.label kept.holds _ ends
    _ _ c.in_ok-changes.changes c.len.ensures.count c.in_ok-changes.ensures.ok c.in_ok-changes.ensures.added c.in_ok-changes.ensures.withdrawn in
    now.withdrawn

pub returns-clause-kept : goal.returns-clause-kept
returns-clause-kept g c = λ before kept ends.
    let now = ends_rematched before c.args.label c.args.events.now c.args.self.now.roster c.decl.ensures.lawful c.requires.label kept.holds _ ends
    _ _ c.in_ok-changes.changes c.len.ensures.count c.in_ok-changes.ensures.ok c.in_ok-changes.ensures.added c.in_ok-changes.ensures.withdrawn in
    c.in_ok-change.ensures.kept before
    (kept_still c.args.self.now.roster before c.args.self.now.solver c.make_room.new.solver c.in_ok-make_room.ensures.graph c.in_ok-make_room.ensures.current kept) now.changes

pub returns-clause-ends : goal.returns-clause-ends
returns-clause-ends g c = λ before kept ends.
    let now = ends_rematched before c.args.label c.args.events.now c.args.self.now.roster c.decl.ensures.lawful c.requires.label kept.holds _ ends
    _ _ c.in_ok-changes.changes c.len.ensures.count c.in_ok-changes.ensures.ok c.in_ok-changes.ensures.added c.in_ok-changes.ensures.withdrawn in
    subst (λ (ids : List EventId). AreEndsBy ids c.rematch.new.matcher (with_more before c.args.label (seen_events c.args.events.now))) (sym c.in_ok-change.ensures.names) now.ends

pub returns-clause-changed : goal.returns-clause-changed
returns-clause-changed g c = λ before kept ends.
    let now = ends_rematched before c.args.label c.args.events.now c.args.self.now.roster c.decl.ensures.lawful c.requires.label kept.holds _ ends
    _ _ c.in_ok-changes.changes c.len.ensures.count c.in_ok-changes.ensures.ok c.in_ok-changes.ensures.added c.in_ok-changes.ensures.withdrawn in
    c.counts.ensures.change (names_then c.args.self.now.roster c.args.label (seen_events c.args.events.now)) before (with_more before c.args.label (seen_events c.args.events.now)) now.changes

pub returns-clause-arcs : goal.returns-clause-arcs
returns-clause-arcs g c =
    let (more, is) = c.in_ok-change.ensures.arcs in
    (more, is ∙ ap (λ (h : GraphLists). h.arcs ++ more) c.in_ok-make_room.ensures.graph)

pub returns-clause-between : goal.returns-clause-between
returns-clause-between g c = λ solved.
    let (before, kept, ends) = c.requires.kept in
    roomier_between c.args.self.now.solver c.make_room.new.solver kept.solution.current.set_up.own c.in_ok-make_room.ensures.roomier c.change.new.solver
    (c.in_ok-change.ensures.between (ap (λ (v : Values). v.is_solved) c.in_ok-make_room.ensures.roomier.answer.earliest ∙ solved))

pub returns-clause-steps : goal.returns-clause-steps
returns-clause-steps g c =
    let (before, kept, ends) = c.requires.kept in
    roomier_add c.args.self.now.solver c.make_room.new.solver kept.solution.current.set_up.own c.in_ok-make_room.ensures.roomier (length c.args.events.now) c.change.new.solver c.args.steps.now c.change.new.steps c.in_ok-change.ensures.steps

pub returns-clause-nothing : goal.returns-clause-nothing
returns-clause-nothing g c = λ none solved. c.in_ok-change.ensures.nothing none (ap (λ (v : Values). v.is_solved) c.in_ok-make_room.ensures.roomier.answer.earliest ∙ solved)
