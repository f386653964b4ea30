use Rattle.std.proofs.Common.{◌+◌, ◌*◌, ◌++◌, ℕ, List, length, ap, ◌∙◌, sym, subst, arith}
use Rattle.sync_graph.specs.declared.arc.Arc.{Arc}
use Rattle.solver.specs.Solver.{SolverLists}
use Rattle.traces.specs.declared.event.Event.{Event}
use Rattle.traces.specs.Seen.{Seen, seen_events}
use Rattle.msg_match.specs.Ends.{AreChanges, AreCouplesBelow}
use Rattle.roster.specs.Groups.{with_more}
use Rattle.session_graph.specs.Kept.{IsKeptFor}
use Rattle.session_graph.specs.Numbers.{names_then}
use Rattle.session_graph.proofs.Bringing.{rows_then}
use Rattle.session_graph.proofs.Changed.{HaveAllCome, are_by_number, in_turn, in_queue, may_go, none_gone, added_there, may_come, all_come}
use Rattle.session_graph.proofs.FewSteps.{some_between, none_few, added_few}
use Rattle.session_graph.proofs.InARow.{room_less}
use Rattle.session_graph.proofs.changes.change.Goals as goal

pub messages_of-requires : goal.messages_of-requires
messages_of-requires g c =
    subst (AreCouplesBelow (length c.args.roster.now.came)) (sym c.deref.ensures.value) c.requires.withdrawn

pub withdraw-requires : goal.withdraw-requires
withdraw-requires g c =
    let (before, kept, changes) = c.requires.kept in
    let go = may_go before c.args.label c.args.events.now c.args.change.now _ _ c.decl.ensures.lawful c.requires.label kept changes c.requires.withdrawn
    _ (are_by_number c.args.roster.now c.deref.ensures.value c.in_ok-withdrawn.ensures c.deref-2.ensures.value) in
    record { differ = go.differ; ready = go.ready }

pub messages_of-requires-2 : goal.messages_of-requires-2
messages_of-requires-2 g c =
    let (before, kept, changes) = c.requires.kept in
    subst (AreCouplesBelow (length c.push.new.self.came)) (sym c.deref-3.ensures.value) (added_there before c.args.label c.args.events.now c.args.change.now _ _ c.decl.ensures.lawful c.requires.label kept changes c.requires.withdrawn
    _ (are_by_number c.args.roster.now c.deref.ensures.value c.in_ok-withdrawn.ensures c.deref-2.ensures.value)
    _ _ c.in_ok-withdraw.ensures.retells c.in_ok-withdraw.ensures.arcs c.in_ok-withdraw.ensures.gone _ c.decl-2.ensures.lawful c.decl-3.ensures.lawful c.in_ok-first.ensures.grown c.requires.added)

pub come-requires : goal.come-requires
come-requires g c =
    let (before, kept, changes) = c.requires.kept in
    let ready = may_come before c.args.label c.args.events.now c.args.change.now _ _ c.decl.ensures.lawful c.requires.label kept changes c.requires.withdrawn
    _ (are_by_number c.args.roster.now c.deref.ensures.value c.in_ok-withdrawn.ensures c.deref-2.ensures.value)
    _ _ c.in_ok-withdraw.ensures.retells c.in_ok-withdraw.ensures.arcs c.in_ok-withdraw.ensures.gone _ c.decl-2.ensures.lawful c.decl-3.ensures.lawful c.in_ok-first.ensures.grown
    _ _ (in_turn _ c.deref-5.ensures.value c.in_ok-first.ensures.first c.in_ok-turns.ensures.numbers) c.requires.added
    (in_queue (are_by_number c.push.new.self c.deref-3.ensures.value c.in_ok-added.ensures c.deref-4.ensures.value) c.deref-6.ensures.value c.in_ok-dues.ensures) in
    let nodes = ready.nodes in
    let arcs = ready.arcs in
    let few = c.requires.few in
    let most : ℕ = 2 * (length c.args.roster.now.came + length c.args.events.now) in
    record {
      inside = ready.inside;
      sends = ready.sends;
      receives = ready.receives;
      ready = ready.ready;
      all = ready.all;
      room = record {
        nodes = omega (arith, nodes, few);
        room = room_less (length c.withdraw.new.solver.graph.nodes + 2 * length c.deref-5.result.now) most c.withdraw.new.solver nodes (c.in_ok-withdraw.ensures.room most c.requires.room);
        arcs = omega (arith, arcs, few);
      };
    }

pub returns : goal.returns
returns g c =
    let all : (before : List (List Seen)) → IsKeptFor before c.args.roster.now c.args.solver.now
    → AreChanges (names_then c.args.roster.now c.args.label (seen_events c.args.events.now)) before (with_more before c.args.label (seen_events c.args.events.now)) c.args.change.now
    → HaveAllCome before c.args.label c.args.events.now c.args.roster.now c.come.new.roster c.args.solver.now c.withdraw.new.solver c.come.new.solver =
    λ before kept changes. all_come before c.args.label c.args.events.now c.args.change.now _ _ c.decl.ensures.lawful c.requires.label kept changes c.requires.withdrawn
    _ (are_by_number c.args.roster.now c.deref.ensures.value c.in_ok-withdrawn.ensures c.deref-2.ensures.value)
    _ _ c.in_ok-withdraw.ensures.retells c.in_ok-withdraw.ensures.arcs c.in_ok-withdraw.ensures.gone _ c.decl-2.ensures.lawful c.decl-3.ensures.lawful c.in_ok-first.ensures.grown
    _ _ (in_turn _ c.deref-5.ensures.value c.in_ok-first.ensures.first c.in_ok-turns.ensures.numbers) c.requires.added
    (in_queue (are_by_number c.push.new.self c.deref-3.ensures.value c.in_ok-added.ensures c.deref-4.ensures.value) c.deref-6.ensures.value c.in_ok-dues.ensures)
    _ _ c.decl-4.ensures.lawful c.in_ok-come.ensures.come c.in_ok-come.ensures.all c.in_ok-come.ensures.nodes c.in_ok-come.ensures.arcs in
    let (before, kept, changes) = c.requires.kept in
    let now = all before kept changes in
    let grows = c.in_ok-come.ensures.come.extends in
    let between = some_between c.args.solver.now c.withdraw.new.solver c.come.new.solver c.args.steps.now c.withdraw.new.steps kept.solution.current c.in_ok-withdraw.ensures.steps now.left grows in
    let steps = added_few (length c.args.events.now) c.args.solver.now c.withdraw.new.solver c.come.new.solver c.args.steps.now c.withdraw.new.steps c.come.new.steps kept.solution.current c.in_ok-withdraw.ensures.steps now.left
    grows c.in_ok-come.ensures.steps now.arcs in
    record {
      kept = λ before' kept' changes'. (all before' kept' changes').kept c.in_ok-turns.ensures.fits;
      declaration = now.gains.declaration;
      count = now.count;
      names = now.names;
      events = now.gains.events;
      readings = now.gains.readings;
      rows = rows_then c.args.solver.now c.withdraw.new.solver c.come.new.solver c.in_ok-withdraw.ensures.rows c.in_ok-come.ensures.come.rows;
      arcs = (let (more, is) = grows.arcs in (more, is ∙ ap (λ (as' : List Arc). as' ++ more) c.in_ok-withdraw.ensures.arcs));
      between = between;
      nothing = λ none solved.
          (let same = c.in_ok-withdraw.ensures.unchanged (none_gone before c.args.label c.args.events.now c.args.change.now _ _ c.decl.ensures.lawful c.requires.label kept changes c.requires.withdrawn
          _ (are_by_number c.args.roster.now c.deref.ensures.value c.in_ok-withdrawn.ensures c.deref-2.ensures.value) none) in
          none_few (length c.args.events.now) c.args.solver.now c.withdraw.new.solver c.come.new.solver c.args.steps.now c.come.new.steps kept.solution.current now.left same grows now.current now.arcs (ap (λ (es : List Event). length es) none)
          (grows.source ∙ ap (λ (s : SolverLists). s.kept.source) same) steps solved);
      steps = steps;
    }
