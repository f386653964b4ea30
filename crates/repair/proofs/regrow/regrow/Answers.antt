use Rattle.std.proofs.Common.{◌≡◌, ◌+◌, ◌≤◌, length, ap, sym, ◌∙◌, subst, length-set, refl, arith}
use Rattle.std.specs.Prelude.{None}
use Rattle.problem_model.specs.Sums.{done_sum, changed_sum, sum_to}
use Rattle.earliest.specs.Withdrawn.{found_at}
use Rattle.row_pool.specs.Row.{cells_of}
use Rattle.distances.specs.Facing.{opposite}
use Rattle.distances.specs.Searched.{nodes, table, lists, height}
use Rattle.distances.specs.Relaxed.{waits_of}
use Rattle.distances.specs.Changes.{steps_at}
use Rattle.distances.proofs.Directions.{facing_listed}
use Rattle.distances.proofs.Popping.{popped_within, popped_small, taken_open, under_way_more, fewer_left, paid_more, none_left, blank_kept, all_paid}
use Rattle.repair.specs.Pulling.{onward}
use Rattle.repair.proofs.Pulls.{pulled_under_way, pulled_free}
use Rattle.repair.proofs.regrow.regrow.Goals as goal

pub pull_all-requires-clause-at_rest : goal.pull_all-requires-clause-at_rest
pull_all-requires-clause-at_rest g c = λ k h f. c.requires.distances k h

pub loop-node-init : goal.loop-node-init
loop-node-init g c = record {
  under_way = pulled_under_way c.args.search.now.graph c.exact.ensures.graph c.args.search.now.side c.args.search.now.values c.args.p c.args.found.now.list.now c.args.found.now.count c.args.row.now c.pull_all.new.row c.pull_all.new.front
      c.requires.left c.pull_all.ensures.pulled c.requires.all c.requires.distances c.requires.past;
  state = c.pull_all.ensures.state;
  room = refl;
  steps =
      let e : done_sum (nodes c.args.search.now) (steps_at (lists c.args.search.now)) (cells_of c.args.row.now) (cells_of c.pull_all.new.row) (waits_of c.pull_all.new.front) ≡ 0 =
      pulled_free c.args.search.now.graph c.exact.ensures.graph c.args.search.now.side c.args.search.now.values c.args.p c.args.found.now.list.now c.args.found.now.count c.args.row.now c.pull_all.new.row c.pull_all.new.front
      c.requires.left c.pull_all.ensures.pulled c.requires.all (steps_at (lists c.args.search.now)) in
      omega (arith, c.pull_all.ensures.steps);
}

pub relax_arcs-requires-clause-node : goal.relax_arcs-requires-clause-node
relax_arcs-requires-clause-node g c =
    popped_within c.args.search.now c.exact.ensures c.args.p c.args.row.now c.loop-node.row c.loop-node.front c.in-Some.node c.in-Some.field-0-1 c.loop-node.invariant.under_way c.loop-node.invariant.state.keyed c.in-Some.ensures.least

pub relax_arcs-requires-clause-distance : goal.relax_arcs-requires-clause-distance
relax_arcs-requires-clause-distance g c =
    popped_small c.args.search.now c.exact.ensures c.args.p c.args.row.now c.loop-node.row c.loop-node.front c.in-Some.node c.in-Some.field-0-1 c.loop-node.invariant.under_way c.loop-node.invariant.state.keyed c.in-Some.ensures.least

pub relax_arcs-requires-clause-state : goal.relax_arcs-requires-clause-state
relax_arcs-requires-clause-state g c =
    taken_open c.args.search.now c.loop-node.row c.loop-node.front c.pop.new.self c.in-Some.node c.in-Some.field-0-1 c.in-Some.ensures.least.waits c.in-Some.ensures.taken c.loop-node.invariant.state

pub loop-node-smaller : goal.loop-node-smaller
loop-node-smaller g c =
    fewer_left c.args.search.now c.exact.ensures c.args.p c.args.row.now c.loop-node.row c.loop-node.front c.in-Some.node c.in-Some.field-0-1 c.loop-node.invariant.under_way c.loop-node.invariant.state.keyed c.in-Some.ensures.least
    c.pop.new.self c.relax_arcs.new.row c.relax_arcs.new.front c.in-Some.ensures.taken c.relax_arcs.ensures.step

pub loop-node-preserved : goal.loop-node-preserved
loop-node-preserved g c = record {
  under_way = under_way_more c.args.search.now c.exact.ensures c.args.p c.args.row.now c.loop-node.row c.loop-node.front c.in-Some.node c.in-Some.field-0-1 c.loop-node.invariant.under_way c.loop-node.invariant.state.keyed c.in-Some.ensures.least
      c.pop.new.self c.relax_arcs.new.row c.relax_arcs.new.front c.in-Some.ensures.taken c.relax_arcs.ensures.step;
  state = c.relax_arcs.ensures.state;
  room = c.relax_arcs.ensures.room ∙ ap length c.in-Some.ensures.taken ∙ length-set c.loop-node.front c.in-Some.node None ∙ c.loop-node.invariant.room;
  steps =
      let e : done_sum (nodes c.args.search.now) (steps_at (lists c.args.search.now)) (cells_of c.args.row.now) (cells_of c.relax_arcs.new.row) (waits_of c.relax_arcs.new.front)
      ≡ done_sum (nodes c.args.search.now) (steps_at (lists c.args.search.now)) (cells_of c.args.row.now) (cells_of c.loop-node.row) (waits_of c.loop-node.front) + steps_at (lists c.args.search.now) c.in-Some.node =
      paid_more c.args.search.now c.exact.ensures c.args.p c.args.row.now c.loop-node.row c.loop-node.front c.in-Some.node c.in-Some.field-0-1 c.loop-node.invariant.under_way c.loop-node.invariant.state.keyed c.in-Some.ensures.least
      c.pop.new.self c.relax_arcs.new.row c.relax_arcs.new.front c.in-Some.ensures.taken c.relax_arcs.ensures.step (steps_at (lists c.args.search.now)) in
      omega (arith, c.loop-node.invariant.steps, c.pop.ensures.step, c.relax_arcs.ensures.cost);
}

pub returns-clause-row : goal.returns-clause-row
returns-clause-row g c =
    none_left (nodes c.args.search.now) (table c.args.search.now) c.args.p (height c.args.search.now) c.args.row.now c.loop-node.row c.loop-node.front c.loop-node.invariant.under_way c.requires.left.chains c.in_default.ensures.none

pub returns-clause-settled : goal.returns-clause-settled
returns-clause-settled g c = (c.loop-node.front, c.in_default.ensures.none, c.loop-node.invariant.under_way)

pub returns-clause-blank : goal.returns-clause-blank
returns-clause-blank g c =
    blank_kept (nodes c.args.search.now) (table c.args.search.now) c.args.p (height c.args.search.now) c.args.row.now c.loop-node.row c.loop-node.front c.loop-node.invariant.under_way

pub returns-clause-steps : goal.returns-clause-steps
returns-clause-steps g c =
    let e : done_sum (nodes c.args.search.now) (steps_at (lists c.args.search.now)) (cells_of c.args.row.now) (cells_of c.loop-node.row) (waits_of c.loop-node.front)
    ≡ changed_sum (nodes c.args.search.now) (steps_at (lists c.args.search.now)) (cells_of c.args.row.now) (cells_of c.loop-node.row) =
    all_paid (nodes c.args.search.now) (steps_at (lists c.args.search.now)) c.args.row.now c.loop-node.row c.loop-node.front c.in_default.ensures.none in
    subst (λ n. c.pop.new.steps ≤ c.args.steps.now + sum_to c.args.found.now.count (λ i. onward (opposite c.args.search.now.side) c.args.search.now.graph (found_at c.args.found.now.list.now i) + 1) + changed_sum n (steps_at (lists c.args.search.now)) (cells_of c.args.row.now) (cells_of c.loop-node.row) + 1)
    (sym (facing_listed c.args.search.now.side c.args.search.now.graph c.exact.ensures.graph).one_each)
    (omega (arith, c.loop-node.invariant.steps, c.pop.ensures.step))
