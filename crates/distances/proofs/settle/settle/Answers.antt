use Rattle.std.proofs.Common.{◌≡◌, ◌+◌, ◌≤◌, length, ap, sym, ◌∙◌, subst, length-set, arith, refl}
use Rattle.std.specs.Prelude.{None}
use Rattle.problem_model.specs.Sums.{done_sum, changed_sum}
use Rattle.row_pool.specs.Row.{cells_of}
use Rattle.distances.specs.Searched.{nodes, table, lists, height}
use Rattle.distances.specs.Relaxed.{waits_of}
use Rattle.distances.specs.Changes.{steps_at}
use Rattle.distances.proofs.Beginning.{begun, begun_free}
use Rattle.distances.proofs.Directions.{facing_listed}
use Rattle.distances.proofs.Popping.{popped_small, taken_open, under_way_more, fewer_left, paid_more, none_left, blank_kept, all_paid}
use Rattle.distances.proofs.Searching.{search_obeyed}
use Rattle.distances.proofs.settle.settle.Goals as goal

pub loop-node-init : goal.loop-node-init
loop-node-init g c = record {
  under_way = begun (nodes c.args.search.now) (table c.args.search.now) c.args.p (height c.args.search.now) c.args.row.now c.offer.new.row c.queue.inside.front c.offer.new.front
      c.args.candidate.now.node c.args.candidate.now.distance c.args.candidate.now.parent c.queue.invariant c.offer.ensures.offered
      c.requires.start.brings (search_obeyed c.args.search.now c.exact.ensures) c.requires.start.within c.requires.start.small.1 c.requires.part.low c.requires.part.past;
  state = c.offer.ensures.state;
  room = refl;
  cost =
      let e : done_sum (nodes c.args.search.now) (steps_at (lists c.args.search.now)) (cells_of c.args.row.now) (cells_of c.offer.new.row) (waits_of c.offer.new.front) ≡ 0 =
      begun_free (nodes c.args.search.now) (table c.args.search.now) c.args.p (height c.args.search.now) c.args.row.now c.offer.new.row c.queue.inside.front c.offer.new.front
      c.args.candidate.now.node c.args.candidate.now.distance c.args.candidate.now.parent c.queue.invariant c.offer.ensures.offered (steps_at (lists c.args.search.now)) in
      omega arith;
}

pub relax_arcs-requires-clause-distance : goal.relax_arcs-requires-clause-distance
relax_arcs-requires-clause-distance g c =
    popped_small c.args.search.now c.exact.ensures c.args.p c.args.row.now c.loop-node.row c.loop-node.front c.in-Some.node c.in-Some.field-0-1 c.loop-node.invariant.under_way c.loop-node.invariant.state.keyed c.in-Some.ensures.least

pub relax_arcs-requires-clause-state : goal.relax_arcs-requires-clause-state
relax_arcs-requires-clause-state g c =
    taken_open c.args.search.now c.loop-node.row c.loop-node.front c.pop.new.self c.in-Some.node c.in-Some.field-0-1 c.in-Some.ensures.least.waits c.in-Some.ensures.taken c.loop-node.invariant.state

pub loop-node-smaller : goal.loop-node-smaller
loop-node-smaller g c =
    fewer_left c.args.search.now c.exact.ensures c.args.p c.args.row.now c.loop-node.row c.loop-node.front c.in-Some.node c.in-Some.field-0-1 c.loop-node.invariant.under_way c.loop-node.invariant.state.keyed c.in-Some.ensures.least
    c.pop.new.self c.relax_arcs.new.row c.relax_arcs.new.front c.in-Some.ensures.taken c.relax_arcs.ensures.step

pub loop-node-preserved : goal.loop-node-preserved
loop-node-preserved g c = record {
  under_way = under_way_more c.args.search.now c.exact.ensures c.args.p c.args.row.now c.loop-node.row c.loop-node.front c.in-Some.node c.in-Some.field-0-1 c.loop-node.invariant.under_way c.loop-node.invariant.state.keyed c.in-Some.ensures.least
      c.pop.new.self c.relax_arcs.new.row c.relax_arcs.new.front c.in-Some.ensures.taken c.relax_arcs.ensures.step;
  state = c.relax_arcs.ensures.state;
  room = c.relax_arcs.ensures.room ∙ ap length c.in-Some.ensures.taken ∙ length-set c.loop-node.front c.in-Some.node None ∙ c.loop-node.invariant.room;
  cost =
      let e : done_sum (nodes c.args.search.now) (steps_at (lists c.args.search.now)) (cells_of c.args.row.now) (cells_of c.relax_arcs.new.row) (waits_of c.relax_arcs.new.front)
      ≡ done_sum (nodes c.args.search.now) (steps_at (lists c.args.search.now)) (cells_of c.args.row.now) (cells_of c.loop-node.row) (waits_of c.loop-node.front) + steps_at (lists c.args.search.now) c.in-Some.node =
      paid_more c.args.search.now c.exact.ensures c.args.p c.args.row.now c.loop-node.row c.loop-node.front c.in-Some.node c.in-Some.field-0-1 c.loop-node.invariant.under_way c.loop-node.invariant.state.keyed c.in-Some.ensures.least
      c.pop.new.self c.relax_arcs.new.row c.relax_arcs.new.front c.in-Some.ensures.taken c.relax_arcs.ensures.step (steps_at (lists c.args.search.now)) in
      omega (arith, c.loop-node.invariant.cost, c.pop.ensures.step, c.relax_arcs.ensures.cost);
}

pub returns-clause-row : goal.returns-clause-row
returns-clause-row g c =
    none_left (nodes c.args.search.now) (table c.args.search.now) c.args.p (height c.args.search.now) c.args.row.now c.loop-node.row c.loop-node.front c.loop-node.invariant.under_way c.requires.start.brings.chains c.in_default.ensures.none

pub returns-clause-blank : goal.returns-clause-blank
returns-clause-blank g c =
    blank_kept (nodes c.args.search.now) (table c.args.search.now) c.args.p (height c.args.search.now) c.args.row.now c.loop-node.row c.loop-node.front c.loop-node.invariant.under_way

pub returns-clause-cost : goal.returns-clause-cost
returns-clause-cost g c =
    let e : done_sum (nodes c.args.search.now) (steps_at (lists c.args.search.now)) (cells_of c.args.row.now) (cells_of c.loop-node.row) (waits_of c.loop-node.front)
    ≡ changed_sum (nodes c.args.search.now) (steps_at (lists c.args.search.now)) (cells_of c.args.row.now) (cells_of c.loop-node.row) =
    all_paid (nodes c.args.search.now) (steps_at (lists c.args.search.now)) c.args.row.now c.loop-node.row c.loop-node.front c.in_default.ensures.none in
    subst (λ n. c.pop.new.steps ≤ c.args.steps.now + changed_sum n (steps_at (lists c.args.search.now)) (cells_of c.args.row.now) (cells_of c.loop-node.row) + 1)
    (sym (facing_listed c.args.search.now.side c.args.search.now.graph c.exact.ensures.graph).one_each)
    (omega (arith, c.loop-node.invariant.cost, c.pop.ensures.step))
