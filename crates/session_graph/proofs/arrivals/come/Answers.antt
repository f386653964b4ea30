use Rattle.std.proofs.Common.{◌≡◌, ◌<◌, ◌+◌, ◌-◌, ◌*◌, ℕ, List, length, drop, slice_get, refl, sym, ◌∙◌, ap, subst, arith, inl, inr}
use Rattle.std.proofs.lemmas.Bool.{cases_eq, cases_lt}
use Rattle.std.proofs.lemmas.List.Elements.{All-contains}
use Rattle.std.proofs.lemmas.Option.{same_Some}
use Rattle.problem_model.specs.declared.items.Message.{Message}
use Rattle.problem_model.specs.declared.items.Node.{Node}
use Rattle.problem_model.specs.declared.items.Node.TheVariants as nodes
use Rattle.decl.specs.Declaration.{Declaration, has_own_bounds}
use Rattle.problem_graph.specs.Standing.{HasNode}
use Rattle.roster.proofs.Telling.{among}
use Rattle.session_graph.specs.declared.plans.Due.{Due}
use Rattle.session_graph.specs.Plans.{turn_numbers, messages_in}
use Rattle.solver.specs.Solver.{SolverLists}
use Rattle.session_graph.specs.Extensions.{TakesFewToPush}
use Rattle.session_graph.specs.Arrivals.{HaveCome}
use Rattle.session_graph.proofs.Extending.{few_then, few_none}
use Rattle.session_graph.proofs.InARow.{come_none, come_event, come_next, own_from, room_less, StandsAt, stands_as}
use Rattle.session_graph.proofs.Orders.{all_stand, drop_all, of_due}
use Rattle.session_graph.proofs.arrivals.come.Goals as goal
use Rattle.session_graph.proofs.arrivals.come.Goals.{then-is_message_next+in_ok-join, else-is_message_next+in_ok-hint}

pub loop-k-init : goal.loop-k-init
loop-k-init g c =
    let r = c.args.roster.now in
    let s = c.args.solver.now in
    let dues : List Due = c.args.dues.now in
    record {
      at = record {
        next = omega arith;
        left = omega arith;
        sum = omega arith;
        come = subst (λ (l : List Due). HaveCome (messages_in l) r r s s) (sym (drop_all dues (length dues) (omega arith))) (come_none r s);
        entered = λ j w less at. absurd (omega (arith, less));
        nodes = omega arith;
        arcs = omega arith;
        declaration = refl;
      };
      steps = few_none s c.args.steps.now;
    }

pub due_at-due-requires : goal.due_at-due-requires
due_at-due-requires g c =
    let sum = c.loop-k.invariant.at.sum in
    let next = c.loop-k.invariant.at.next in
    let on = c.loop-k-test.true in
    let left : ℕ = c.loop-k.left in
    let some : 0 < left = elim (cases_lt c.loop-k.next (length c.args.turns.now)) [
      | inl less ↦ c.if-is_message_next.ensures.some refl less
      | inr past ↦ omega (arith, sum, next, on, past)
    ] in
    let few = c.loop-k.invariant.at.left in
    omega (arith, some, few)

pub join-requires-clause-sent : goal.join-requires-clause-sent
join-requires-clause-sent g c =
    let next = c.loop-k.invariant.at.next in
    let m : Message = c.due_at-due.result.message in
    elim (cases_lt c.loop-k.next (length c.args.turns.now)) [
      | inl less ↦ c.if-is_message_next.ensures.sent refl less c.due_at-due.result c.due_at-due.ensures
      | inr past ↦ all_stand c.args.turns.now c.loop-k.next m.send c.args.solver.now.graph c.loop-k.solver.graph
          (λ w has. c.loop-k.invariant.at.come.stay (nodes.Event w) has) (omega (arith, past, next)) c.loop-k.invariant.at.entered
          (c.requires.all m.send (of_due (λ (x : Message). x.send < length c.args.roster.now.came) c.args.dues.now (c.loop-k.left - 1) c.due_at-due.result c.requires.sends c.due_at-due.ensures))
    ]

pub join-requires-clause-received : goal.join-requires-clause-received
join-requires-clause-received g c =
    let next = c.loop-k.invariant.at.next in
    let m : Message = c.due_at-due.result.message in
    elim (cases_lt c.loop-k.next (length c.args.turns.now)) [
      | inl less ↦ c.if-is_message_next.ensures.received refl less c.due_at-due.result c.due_at-due.ensures
      | inr past ↦ all_stand c.args.turns.now c.loop-k.next m.receive c.args.solver.now.graph c.loop-k.solver.graph
          (λ w has. c.loop-k.invariant.at.come.stay (nodes.Event w) has) (omega (arith, past, next)) c.loop-k.invariant.at.entered
          (c.requires.all m.receive (of_due (λ (x : Message). x.receive < length c.args.roster.now.came) c.args.dues.now (c.loop-k.left - 1) c.due_at-due.result c.requires.receives c.due_at-due.ensures))
    ]

pub join-requires-clause-ready : goal.join-requires-clause-ready
join-requires-clause-ready g c =
    let (entered, messages, way, own) = c.requires.ready in
    let (now, way') = c.loop-k.invariant.at.come.grown entered messages way (own_from c.args.dues.now messages c.loop-k.left own) in
    (now, _, way')

pub enter-requires-clause-ready : goal.enter-requires-clause-ready
enter-requires-clause-ready g c =
    let (entered, messages, way, own) = c.requires.ready in
    let (now, way') = c.loop-k.invariant.at.come.grown entered messages way (own_from c.args.dues.now messages c.loop-k.left own) in
    (now, _, way')

pub join-requires-clause-arcs : goal.join-requires-clause-arcs
join-requires-clause-arcs g c =
    let sum = c.loop-k.invariant.at.sum in
    let next = c.loop-k.invariant.at.next in
    let on = c.loop-k-test.true in
    let left : ℕ = c.loop-k.left in
    let some : 0 < left = elim (cases_lt c.loop-k.next (length c.args.turns.now)) [
      | inl less ↦ c.if-is_message_next.ensures.some refl less
      | inr past ↦ omega (arith, sum, next, on, past)
    ] in
    let arcs = c.loop-k.invariant.at.arcs in
    let most = c.requires.room.arcs in
    omega (arith, some, arcs, most, next)

pub enter-requires-clause-inside : goal.enter-requires-clause-inside
enter-requires-clause-inside g c =
    let count = c.loop-k.invariant.at.come.keeps.count in
    let inside = All-contains (λ (v : ℕ). v < length c.args.roster.now.came) (turn_numbers c.args.turns.now) c.event_at-event.result c.requires.inside (among (turn_numbers c.args.turns.now) c.loop-k.next c.event_at-event.result c.event_at-event.ensures) in
    omega (arith, count, inside)

pub enter-requires-clause-given : goal.enter-requires-clause-given
enter-requires-clause-given g c = c.gives_bounds-given.ensures ∙ ap (λ (d : Declaration). has_own_bounds d) (sym c.loop-k.invariant.at.declaration)

pub enter-requires-clause-room : goal.enter-requires-clause-room
enter-requires-clause-room g c =
    let less = c.if-is_message_next.ensures.event refl in
    let nodes_few = c.loop-k.invariant.at.nodes in
    let arcs_few = c.loop-k.invariant.at.arcs in
    let left = c.loop-k.invariant.at.left in
    let nodes_most = c.requires.room.nodes in
    let arcs_most = c.requires.room.arcs in
    let most : ℕ = length c.args.solver.now.graph.nodes + 2 * length c.args.turns.now in
    record {
      nodes = omega (arith, less, nodes_few, nodes_most);
      room = room_less (length c.loop-k.solver.graph.nodes + 2) most c.loop-k.solver (omega (arith, less, nodes_few)) (c.loop-k.invariant.at.come.room most c.requires.room.room);
      arcs = omega (arith, less, arcs_few, left, arcs_most);
    }

pub loop-k-preserved : goal.loop-k-preserved
loop-k-preserved g c = elim c.if-is_message_next.branch [
  | then-is_message_next+in_ok-join w ↦ (
      let sum = c.loop-k.invariant.at.sum in
      let next = c.loop-k.invariant.at.next in
      let on = c.loop-k-test.true in
      let left : ℕ = c.loop-k.left in
      let some : 0 < left = elim (cases_lt c.loop-k.next (length c.args.turns.now)) [
        | inl less ↦ w.if-is_message_next.ensures.some refl less
        | inr past ↦ omega (arith, sum, next, on, past)
      ] in
      let few = c.loop-k.invariant.at.left in
      let nodes_few = c.loop-k.invariant.at.nodes in
      let arcs_few = c.loop-k.invariant.at.arcs in
      let more = w.in_ok-join.ensures.arcs in
      let same = ap (λ (ns : List Node). length ns) w.in_ok-join.ensures.nodes in
      let stands : StandsAt c.args.turns.now c.args.dues.now c.args.roster.now w.join.new.roster c.args.solver.now w.join.new.solver (c.loop-k.k + 1) c.loop-k.next (c.loop-k.left - 1) = record {
        next = next;
        left = omega (arith, few, some);
        sum = omega (arith, sum, some);
        come = come_next c.args.dues.now left w.due_at-due.result some w.due_at-due.ensures c.args.roster.now c.loop-k.roster w.join.new.roster c.args.solver.now c.loop-k.solver w.join.new.solver c.loop-k.invariant.at.come w.in_ok-join.ensures.come;
        entered = λ j v less at. w.in_ok-join.ensures.come.stay (nodes.Event v) (c.loop-k.invariant.at.entered j v less at);
        nodes = omega (arith, nodes_few, same);
        arcs = omega (arith, arcs_few, more, some);
        declaration = w.in_ok-join.ensures.declaration ∙ c.loop-k.invariant.at.declaration;
      } in
      let few_steps = few_then c.args.solver.now c.loop-k.solver w.join.new.solver c.args.steps.now c.loop-k.steps w.join.new.steps c.loop-k.invariant.steps w.in_ok-join.ensures.steps in
      record {
        at = stands_as c.args.turns.now c.args.dues.now c.args.roster.now w.join.new.roster c.if-is_message_next.roster c.args.solver.now w.join.new.solver c.if-is_message_next.solver (c.loop-k.k + 1) c.loop-k.next c.if-is_message_next.next (c.loop-k.left - 1) c.if-is_message_next.left
            w.roster-is w.solver-is w.next-is w.left-is stands;
        steps = subst (λ (z : SolverLists). TakesFewToPush c.args.solver.now z c.args.steps.now c.if-is_message_next.steps) (sym w.solver-is)
            (subst (λ n. TakesFewToPush c.args.solver.now w.join.new.solver c.args.steps.now n) (sym w.steps-is) few_steps);
      })
  | else-is_message_next+in_ok-hint w ↦ (
      let sum = c.loop-k.invariant.at.sum in
      let left = c.loop-k.invariant.at.left in
      let less = w.if-is_message_next.ensures.event refl in
      let nodes_few = c.loop-k.invariant.at.nodes in
      let arcs_few = c.loop-k.invariant.at.arcs in
      let more = w.in_ok-hint.ensures.arcs in
      let more_nodes = w.in_ok-hint.ensures.nodes in
      let stands : StandsAt c.args.turns.now c.args.dues.now c.args.roster.now w.enter.new.roster c.args.solver.now w.enter.new.solver (c.loop-k.k + 1) (c.loop-k.next + 1) c.loop-k.left = record {
        next = omega (arith, less);
        left = left;
        sum = omega (arith, sum);
        come = come_event (messages_in (drop c.loop-k.left c.args.dues.now)) c.args.roster.now c.loop-k.roster w.enter.new.roster c.args.solver.now c.loop-k.solver w.enter.new.solver c.loop-k.invariant.at.come w.in_ok-hint.ensures.come;
        entered = λ j v below at. elim (cases_eq j c.loop-k.next) [
          | inl same ↦ (
              let one : w.event_at-event.result ≡ v = same_Some w.event_at-event.result v (sym w.event_at-event.ensures ∙ ap (λ (n : ℕ). slice_get (turn_numbers c.args.turns.now) n) (sym same) ∙ at) in
              subst (λ (n : ℕ). HasNode w.enter.new.solver.graph (nodes.Event n)) one w.in_ok-hint.ensures.entered)
          | inr other ↦ w.in_ok-hint.ensures.come.stay (nodes.Event v) (c.loop-k.invariant.at.entered j v (omega (arith, below, other)) at)
        ];
        nodes = omega (arith, nodes_few, more_nodes);
        arcs = omega (arith, arcs_few, more);
        declaration = w.in_ok-hint.ensures.declaration ∙ c.loop-k.invariant.at.declaration;
      } in
      let few_steps = few_then c.args.solver.now c.loop-k.solver w.enter.new.solver c.args.steps.now c.loop-k.steps w.enter.new.steps c.loop-k.invariant.steps w.in_ok-hint.ensures.steps in
      record {
        at = stands_as c.args.turns.now c.args.dues.now c.args.roster.now w.enter.new.roster c.if-is_message_next.roster c.args.solver.now w.enter.new.solver c.if-is_message_next.solver (c.loop-k.k + 1) (c.loop-k.next + 1) c.if-is_message_next.next c.loop-k.left c.if-is_message_next.left
            w.roster-is w.solver-is w.next-is w.left-is stands;
        steps = subst (λ (z : SolverLists). TakesFewToPush c.args.solver.now z c.args.steps.now c.if-is_message_next.steps) (sym w.solver-is)
            (subst (λ n. TakesFewToPush c.args.solver.now w.enter.new.solver c.args.steps.now n) (sym w.steps-is) few_steps);
      })
]

pub returns-clause-come : goal.returns-clause-come
returns-clause-come g c =
    let sum = c.loop-k.invariant.at.sum in
    let next = c.loop-k.invariant.at.next in
    let left = c.loop-k.invariant.at.left in
    let exit = c.loop-k-test.false in
    let none : c.loop-k.left ≡ 0 = omega (arith, sum, next, left, exit) in
    subst (λ (n : ℕ). HaveCome (messages_in (drop n c.args.dues.now)) c.args.roster.now c.loop-k.roster c.args.solver.now c.loop-k.solver) none c.loop-k.invariant.at.come

pub returns-clause-all : goal.returns-clause-all
returns-clause-all g c = λ v less.
    let sum = c.loop-k.invariant.at.sum in
    let next = c.loop-k.invariant.at.next in
    let left = c.loop-k.invariant.at.left in
    let exit = c.loop-k-test.false in
    all_stand c.args.turns.now c.loop-k.next v c.args.solver.now.graph c.loop-k.solver.graph (λ w has. c.loop-k.invariant.at.come.stay (nodes.Event w) has) (omega (arith, sum, next, left, exit))
    c.loop-k.invariant.at.entered (c.requires.all v less)

pub returns-clause-nodes : goal.returns-clause-nodes
returns-clause-nodes g c =
    let sum = c.loop-k.invariant.at.sum in
    let next = c.loop-k.invariant.at.next in
    let left = c.loop-k.invariant.at.left in
    let exit = c.loop-k-test.false in
    let few = c.loop-k.invariant.at.nodes in
    omega (arith, sum, next, left, exit, few)

pub returns-clause-arcs : goal.returns-clause-arcs
returns-clause-arcs g c =
    let sum = c.loop-k.invariant.at.sum in
    let next = c.loop-k.invariant.at.next in
    let left = c.loop-k.invariant.at.left in
    let exit = c.loop-k-test.false in
    let few = c.loop-k.invariant.at.arcs in
    omega (arith, sum, next, left, exit, few)
