use Rattle.std.proofs.Common.{◌≡◌, false, length, ap, ◌∙◌, length-set, arith}
use Rattle.std.specs.Prelude.{None, pos}
use Rattle.std.proofs.lemmas.Int.{ints}
use Rattle.problem_model.specs.Parents.{no_parent}
use Rattle.problem_model.proofs.RowStarts.{own_candidate}
use Rattle.row_pool.specs.Row.{cell_at, cells_of}
use Rattle.distances.specs.Searched.{nodes, table, height}
use Rattle.distances.proofs.Beginning.{begun}
use Rattle.distances.proofs.Popping.{popped_small, taken_open, under_way_more, fewer_left}
use Rattle.distances.proofs.Searching.{search_obeyed}
use Rattle.distances.proofs.Stopping.{stopped_at, ended_there}
use Rattle.distances.proofs.reach.settle_until.Goals as goal

pub loop-node-init : goal.loop-node-init
loop-node-init g c = record {
  under_way = begun (nodes c.args.search.now) (table c.args.search.now) c.args.p (height c.args.search.now) c.args.row.now c.offer.new.row c.args.front.now c.offer.new.front
      c.args.p (pos 0) no_parent c.requires.empty c.offer.ensures.offered
      (own_candidate (table c.args.search.now) c.args.p (cells_of c.args.row.now) c.requires.none) (search_obeyed c.args.search.now c.exact.ensures) c.requires.node (omega (arith, ints))
      (λ k h. absurd (let f : (cell_at c.args.row.now k).known ≡ false = c.requires.none k in let z : ⊥ = cc in z))
      (λ k l. c.requires.none k);
  state = c.offer.ensures.state;
  room = c.offer.ensures.room;
}

pub returns-then-node-q-clause-reach : goal.returns-then-node-q-clause-reach
returns-then-node-q-clause-reach g c =
    stopped_at (nodes c.args.search.now) (table c.args.search.now) c.args.p (height c.args.search.now) c.args.row.now c.loop-node.row c.loop-node.front c.loop-node.invariant.under_way
    c.requires.none (search_obeyed c.args.search.now c.exact.ensures) c.in-Some.node c.args.q c.in-Some.field-0-1 c.loop-node.invariant.state.keyed c.in-Some.ensures.least c.if-node-q.true

pub relax_arcs-requires-clause-distance : goal.relax_arcs-requires-clause-distance
relax_arcs-requires-clause-distance g c =
    popped_small c.args.search.now c.exact.ensures c.args.p c.args.row.now c.loop-node.row c.loop-node.front c.in-Some.node c.in-Some.field-0-1 c.loop-node.invariant.under_way c.loop-node.invariant.state.keyed c.in-Some.ensures.least

pub relax_arcs-requires-clause-state : goal.relax_arcs-requires-clause-state
relax_arcs-requires-clause-state g c =
    taken_open c.args.search.now c.loop-node.row c.loop-node.front c.pop.new.self c.in-Some.node c.in-Some.field-0-1 c.in-Some.ensures.least.waits c.in-Some.ensures.taken c.loop-node.invariant.state

pub loop-node-smaller : goal.loop-node-smaller
loop-node-smaller g c =
    fewer_left c.args.search.now c.exact.ensures c.args.p c.args.row.now c.loop-node.row c.loop-node.front c.in-Some.node c.in-Some.field-0-1 c.loop-node.invariant.under_way c.loop-node.invariant.state.keyed c.in-Some.ensures.least
    c.pop.new.self c.relax_arcs.new.row c.relax_arcs.new.front c.in-Some.ensures.taken c.relax_arcs.ensures.step

pub loop-node-preserved : goal.loop-node-preserved
loop-node-preserved g c = record {
  under_way = under_way_more c.args.search.now c.exact.ensures c.args.p c.args.row.now c.loop-node.row c.loop-node.front c.in-Some.node c.in-Some.field-0-1 c.loop-node.invariant.under_way c.loop-node.invariant.state.keyed c.in-Some.ensures.least
      c.pop.new.self c.relax_arcs.new.row c.relax_arcs.new.front c.in-Some.ensures.taken c.relax_arcs.ensures.step;
  state = c.relax_arcs.ensures.state;
  room = c.relax_arcs.ensures.room ∙ ap length c.in-Some.ensures.taken ∙ length-set c.loop-node.front c.in-Some.node None ∙ c.loop-node.invariant.room;
}

pub returns-clause-reach : goal.returns-clause-reach
returns-clause-reach g c =
    ended_there (nodes c.args.search.now) (table c.args.search.now) c.args.p (height c.args.search.now) c.args.row.now c.loop-node.row c.loop-node.front c.loop-node.invariant.under_way
    c.requires.none (search_obeyed c.args.search.now c.exact.ensures) c.args.q c.in_default.ensures.none
