use Rattle.std.proofs.Common.{◌≡◌, ◌<◌, List, false, length, ap, sym, subst, ◌∙◌, length-set, arith, rules}
use Rattle.std.specs.Prelude.{None, pos, slice_set}
use mir.Syntax.{w128}
use mir.Val.{SFits}
use Rattle.std.proofs.lemmas.Int.{ints, to_z-of_z}
use Rattle.problem_model.specs.Parents.{no_parent}
use Rattle.problem_model.proofs.RowStarts.{own_candidate}
use Rattle.row_pool.specs.declared.cell.Cell.{Cell}
use Rattle.row_pool.specs.Row.{unknown, cell_at, cells_of}
use Rattle.row_pool.specs.Reach.{known_reach}
use Rattle.distances.specs.Guides.{IsFence}
use Rattle.distances.specs.Reaches.{IsReachOver}
use Rattle.distances.specs.Searched.{nodes, table, height}
use Rattle.distances.specs.Wiping.{rests}
use Rattle.distances.proofs.Beginning.{begun}
use Rattle.distances.proofs.Popping.{popped_small, popped_within, taken_open, under_way_more, fewer_left}
use Rattle.distances.proofs.Puts.{cell_read}
use Rattle.distances.proofs.Resting.{none_rests, step_listed, listed_so, wiped_rests, wiped_value, waits_before, fence_so}
use Rattle.distances.proofs.Searching.{search_obeyed}
use Rattle.distances.proofs.Stopping.{stopped_at, ended_there, fence_there, waiting_within}
use Rattle.distances.proofs.near.take_some.Goals as goal

pub loop-node-init : goal.loop-node-init
loop-node-init g c = record {
  under_way = begun (nodes c.args.search.now) (table c.args.search.now) c.args.p (height c.args.search.now) c.args.row.now c.offer.new.row c.args.front.now c.offer.new.front
      c.args.p (pos 0) no_parent c.requires.empty c.offer.ensures.offered
      (own_candidate (table c.args.search.now) c.args.p (cells_of c.args.row.now) c.requires.wiped) (search_obeyed c.args.search.now c.exact.ensures) c.requires.p (omega (arith, ints))
      (λ k h. absurd (let f : (cell_at c.args.row.now k).known ≡ false = c.requires.wiped k in let z : ⊥ = cc in z))
      (λ k l. c.requires.wiped k);
  state = c.offer.ensures.state;
  cells = c.offer.auto.row;
  room = c.offer.ensures.room;
  listed = none_rests c.args.p (pos 0) no_parent (nodes c.args.search.now) c.args.row.now c.offer.new.row c.args.front.now c.offer.new.front c.args.seen.now.items c.requires.wiped c.offer.ensures.offered c.requires.unlisted;
}

pub returns-then-node-q-clause-end : goal.returns-then-node-q-clause-end
returns-then-node-q-clause-end g c =
    let below : c.args.q < length c.loop-node.row = omega (arith, c.requires.q, c.loop-node.invariant.state.cells) in
    subst (λ r. IsReachOver (table c.args.search.now) c.args.p c.args.q r)
    (sym (c.reach-reach.ensures ∙ ap (λ (x : Cell). known_reach x.known x.value) (cell_read c.loop-node.row c.args.q below)))
    (stopped_at (nodes c.args.search.now) (table c.args.search.now) c.args.p (height c.args.search.now) c.args.row.now c.loop-node.row c.loop-node.front c.loop-node.invariant.under_way
    c.requires.wiped (search_obeyed c.args.search.now c.exact.ensures) c.in-Some.node c.args.q c.in-Some.key c.loop-node.invariant.state.keyed c.in-Some.ensures.least c.if-node-q.true)

pub returns-then-node-q-clause-listed : goal.returns-then-node-q-clause-listed
returns-then-node-q-clause-listed g c =
    let waits = c.in-Some.ensures.least.waits in
    let below : c.in-Some.node < nodes c.args.search.now =
    popped_within c.args.search.now c.exact.ensures c.args.p c.args.row.now c.loop-node.row c.loop-node.front c.in-Some.node c.in-Some.key c.loop-node.invariant.under_way c.loop-node.invariant.state.keyed c.in-Some.ensures.least in
    let within : c.in-Some.node < length c.loop-node.row = omega (arith, below, c.loop-node.invariant.state.cells) in
    let row : List Cell = slice_set c.loop-node.row c.in-Some.node c.unknown.result in
    let is : slice_set c.loop-node.row c.in-Some.node c.unknown.result ≡ slice_set c.loop-node.row c.in-Some.node unknown = ap (λ v. slice_set c.loop-node.row c.in-Some.node v) c.unknown.ensures in
    listed_so (nodes c.args.search.now) c.loop-node.row row c.loop-node.front c.pop.new.self c.loop-node.seen.items (wiped_rests c.loop-node.row row c.loop-node.front c.pop.new.self c.in-Some.node c.in-Some.key waits within is c.in-Some.ensures.taken) c.loop-node.invariant.listed

pub returns-then-node-q-clause-waiting : goal.returns-then-node-q-clause-waiting
returns-then-node-q-clause-waiting g c =
    let waits = c.in-Some.ensures.least.waits in
    let below : c.in-Some.node < nodes c.args.search.now =
    popped_within c.args.search.now c.exact.ensures c.args.p c.args.row.now c.loop-node.row c.loop-node.front c.in-Some.node c.in-Some.key c.loop-node.invariant.under_way c.loop-node.invariant.state.keyed c.in-Some.ensures.least in
    let within : c.in-Some.node < length c.loop-node.row = omega (arith, below, c.loop-node.invariant.state.cells) in
    let row : List Cell = slice_set c.loop-node.row c.in-Some.node c.unknown.result in
    let is : slice_set c.loop-node.row c.in-Some.node c.unknown.result ≡ slice_set c.loop-node.row c.in-Some.node unknown = ap (λ v. slice_set c.loop-node.row c.in-Some.node v) c.unknown.ensures in
    λ k w. waiting_within (nodes c.args.search.now) (table c.args.search.now) c.args.p (height c.args.search.now) c.args.row.now c.loop-node.row c.loop-node.front c.loop-node.invariant.under_way
    c.requires.wiped (search_obeyed c.args.search.now c.exact.ensures) c.loop-node.invariant.state.keyed k (waits_before c.loop-node.row row c.loop-node.front c.pop.new.self c.in-Some.node c.in-Some.key waits within is c.in-Some.ensures.taken k w)

pub returns-then-not-has_room-clause-end : goal.returns-then-not-has_room-clause-end
returns-then-not-has_room-clause-end g c =
    let waits = c.in-Some.ensures.least.waits in
    let below : c.in-Some.node < nodes c.args.search.now =
    popped_within c.args.search.now c.exact.ensures c.args.p c.args.row.now c.loop-node.row c.loop-node.front c.in-Some.node c.in-Some.key c.loop-node.invariant.under_way c.loop-node.invariant.state.keyed c.in-Some.ensures.least in
    let within : c.in-Some.node < length c.loop-node.row = omega (arith, below, c.loop-node.invariant.state.cells) in
    let row : List Cell = slice_set c.loop-node.row c.in-Some.node c.unknown-then-not-has_room.result in
    let is : slice_set c.loop-node.row c.in-Some.node c.unknown-then-not-has_room.result ≡ slice_set c.loop-node.row c.in-Some.node unknown = ap (λ v. slice_set c.loop-node.row c.in-Some.node v) c.unknown-then-not-has_room.ensures in
    let fits : SFits w128 c.in-Some.key = search rules in
    subst (λ b. IsFence (table c.args.search.now) c.args.p (height c.args.search.now) b (rests row c.pop.new.self) (λ k. (cell_at row k).value)) (sym (to_z-of_z w128 c.in-Some.key fits))
    (fence_so (table c.args.search.now) c.args.p (height c.args.search.now) c.in-Some.key (rests c.loop-node.row c.loop-node.front) (rests row c.pop.new.self) (λ k. (cell_at c.loop-node.row k).value) (λ k. (cell_at row k).value)
    (wiped_rests c.loop-node.row row c.loop-node.front c.pop.new.self c.in-Some.node c.in-Some.key waits within is c.in-Some.ensures.taken) (wiped_value c.loop-node.row row c.loop-node.front c.pop.new.self c.in-Some.node c.in-Some.key waits within is c.in-Some.ensures.taken)
    (fence_there (nodes c.args.search.now) (table c.args.search.now) c.args.p (height c.args.search.now) c.args.row.now c.loop-node.row c.loop-node.front c.loop-node.invariant.under_way
    c.requires.wiped (search_obeyed c.args.search.now c.exact.ensures) c.in-Some.node c.in-Some.key c.loop-node.invariant.state.keyed c.in-Some.ensures.least))

pub returns-then-not-has_room-clause-listed : goal.returns-then-not-has_room-clause-listed
returns-then-not-has_room-clause-listed g c =
    let waits = c.in-Some.ensures.least.waits in
    let below : c.in-Some.node < nodes c.args.search.now =
    popped_within c.args.search.now c.exact.ensures c.args.p c.args.row.now c.loop-node.row c.loop-node.front c.in-Some.node c.in-Some.key c.loop-node.invariant.under_way c.loop-node.invariant.state.keyed c.in-Some.ensures.least in
    let within : c.in-Some.node < length c.loop-node.row = omega (arith, below, c.loop-node.invariant.state.cells) in
    let row : List Cell = slice_set c.loop-node.row c.in-Some.node c.unknown-then-not-has_room.result in
    let is : slice_set c.loop-node.row c.in-Some.node c.unknown-then-not-has_room.result ≡ slice_set c.loop-node.row c.in-Some.node unknown = ap (λ v. slice_set c.loop-node.row c.in-Some.node v) c.unknown-then-not-has_room.ensures in
    listed_so (nodes c.args.search.now) c.loop-node.row row c.loop-node.front c.pop.new.self c.loop-node.seen.items (wiped_rests c.loop-node.row row c.loop-node.front c.pop.new.self c.in-Some.node c.in-Some.key waits within is c.in-Some.ensures.taken) c.loop-node.invariant.listed

pub returns-then-not-has_room-clause-waiting : goal.returns-then-not-has_room-clause-waiting
returns-then-not-has_room-clause-waiting g c =
    let waits = c.in-Some.ensures.least.waits in
    let below : c.in-Some.node < nodes c.args.search.now =
    popped_within c.args.search.now c.exact.ensures c.args.p c.args.row.now c.loop-node.row c.loop-node.front c.in-Some.node c.in-Some.key c.loop-node.invariant.under_way c.loop-node.invariant.state.keyed c.in-Some.ensures.least in
    let within : c.in-Some.node < length c.loop-node.row = omega (arith, below, c.loop-node.invariant.state.cells) in
    let row : List Cell = slice_set c.loop-node.row c.in-Some.node c.unknown-then-not-has_room.result in
    let is : slice_set c.loop-node.row c.in-Some.node c.unknown-then-not-has_room.result ≡ slice_set c.loop-node.row c.in-Some.node unknown = ap (λ v. slice_set c.loop-node.row c.in-Some.node v) c.unknown-then-not-has_room.ensures in
    λ k w. waiting_within (nodes c.args.search.now) (table c.args.search.now) c.args.p (height c.args.search.now) c.args.row.now c.loop-node.row c.loop-node.front c.loop-node.invariant.under_way
    c.requires.wiped (search_obeyed c.args.search.now c.exact.ensures) c.loop-node.invariant.state.keyed k (waits_before c.loop-node.row row c.loop-node.front c.pop.new.self c.in-Some.node c.in-Some.key waits within is c.in-Some.ensures.taken k w)

pub relax_arcs-requires-clause-distance : goal.relax_arcs-requires-clause-distance
relax_arcs-requires-clause-distance g c =
    popped_small c.args.search.now c.exact.ensures c.args.p c.args.row.now c.loop-node.row c.loop-node.front c.in-Some.node c.in-Some.key c.loop-node.invariant.under_way c.loop-node.invariant.state.keyed c.in-Some.ensures.least

pub relax_arcs-requires-clause-state : goal.relax_arcs-requires-clause-state
relax_arcs-requires-clause-state g c =
    taken_open c.args.search.now c.loop-node.row c.loop-node.front c.pop.new.self c.in-Some.node c.in-Some.key c.in-Some.ensures.least.waits c.in-Some.ensures.taken c.loop-node.invariant.state

pub loop-node-smaller : goal.loop-node-smaller
loop-node-smaller g c =
    fewer_left c.args.search.now c.exact.ensures c.args.p c.args.row.now c.loop-node.row c.loop-node.front c.in-Some.node c.in-Some.key c.loop-node.invariant.under_way c.loop-node.invariant.state.keyed c.in-Some.ensures.least
    c.pop.new.self c.relax_arcs.new.row c.relax_arcs.new.front c.in-Some.ensures.taken c.relax_arcs.ensures.step

pub loop-node-preserved : goal.loop-node-preserved
loop-node-preserved g c =
    let below : c.in-Some.node < nodes c.args.search.now =
    popped_within c.args.search.now c.exact.ensures c.args.p c.args.row.now c.loop-node.row c.loop-node.front c.in-Some.node c.in-Some.key c.loop-node.invariant.under_way c.loop-node.invariant.state.keyed c.in-Some.ensures.least in
    record {
      under_way = under_way_more c.args.search.now c.exact.ensures c.args.p c.args.row.now c.loop-node.row c.loop-node.front c.in-Some.node c.in-Some.key c.loop-node.invariant.under_way c.loop-node.invariant.state.keyed c.in-Some.ensures.least
          c.pop.new.self c.relax_arcs.new.row c.relax_arcs.new.front c.in-Some.ensures.taken c.relax_arcs.ensures.step;
      state = c.relax_arcs.ensures.state;
      cells = c.relax_arcs.auto.row ∙ c.loop-node.invariant.cells;
      room = c.relax_arcs.ensures.room ∙ ap length c.in-Some.ensures.taken ∙ length-set c.loop-node.front c.in-Some.node None ∙ c.loop-node.invariant.room;
      listed = step_listed (table c.args.search.now) c.in-Some.node (nodes c.args.search.now) c.in-Some.key c.loop-node.row c.relax_arcs.new.row c.loop-node.front c.pop.new.self c.relax_arcs.new.front
          c.loop-node.seen.items c.push_reserved.new.self.items c.in-Some.ensures.least.waits c.in-Some.ensures.taken below c.push_reserved.ensures.items c.relax_arcs.ensures.step c.loop-node.invariant.listed;
    }

pub returns-clause-end : goal.returns-clause-end
returns-clause-end g c =
    let below : c.args.q < length c.loop-node.row = omega (arith, c.requires.q, c.loop-node.invariant.state.cells) in
    subst (λ r. IsReachOver (table c.args.search.now) c.args.p c.args.q r)
    (sym (c.reach.ensures ∙ ap (λ (x : Cell). known_reach x.known x.value) (cell_read c.loop-node.row c.args.q below)))
    (ended_there (nodes c.args.search.now) (table c.args.search.now) c.args.p (height c.args.search.now) c.args.row.now c.loop-node.row c.loop-node.front c.loop-node.invariant.under_way
    c.requires.wiped (search_obeyed c.args.search.now c.exact.ensures) c.args.q c.in_default.ensures.none)
