use Rattle.std.proofs.Common.{◌≡◌, ◌+◌, ◌∙◌, ap, set, arith, length}
use Rattle.std.specs.Prelude.{◌-ℤ◌}
use Rattle.problem_model.specs.Executions.{at}
use Rattle.withdrawals.specs.Withdrawals.{flagged_sum}
use Rattle.sync_graph.specs.Graph.{reaching}
use Rattle.earliest.specs.Withdrawn.{waits_at}
use Rattle.earliest.proofs.Bounds.{worth}
use Rattle.earliest.proofs.Dropping.{values1_up, key_up, falls_earliest, falling_more, waits_more, front1_room}
use Rattle.earliest.proofs.falls.settle_falls.Goals as goal

pub stop_tails-requires-clause-values : goal.stop_tails-requires-clause-values
stop_tails-requires-clause-values g c = record {
  one_each = omega (arith, c.lift.auto.values, c.loop-node.invariant.falling.one_each);
  small =
      values1_up c.args.g.now c.exact.ensures c.args.values.now c.loop-node.values c.loop-node.front c.requires.low c.loop-node.invariant.falling c.in-Some.node c.in-Some.key c.in-Some.ensures.least
      c.lift.new.values c.pop.new.self
      (c.lift.ensures ∙ ap (λ k. set c.loop-node.values c.in-Some.node (at c.loop-node.values c.in-Some.node -ℤ k)) (worth c.in-Some.key (key_up c.args.g.now c.exact.ensures c.args.values.now c.loop-node.values c.loop-node.front c.requires.low c.loop-node.invariant.falling c.in-Some.node c.in-Some.key c.in-Some.ensures.least)))
      c.in-Some.ensures.taken;
}

pub loop-node-smaller : goal.loop-node-smaller
loop-node-smaller g c =
    let more : flagged_sum (length c.args.g.now.nodes) (λ _. 1) (waits_at c.loop-node.front) ≡ flagged_sum (length c.args.g.now.nodes) (λ _. 1) (waits_at c.stop_tails.new.front) + 1 =
    waits_more c.args.g.now c.exact.ensures c.args.values.now c.loop-node.values c.loop-node.front c.requires.low c.loop-node.invariant.falling c.in-Some.node c.in-Some.key c.in-Some.ensures.least
    c.lift.new.values c.pop.new.self
    (c.lift.ensures ∙ ap (λ k. set c.loop-node.values c.in-Some.node (at c.loop-node.values c.in-Some.node -ℤ k)) (worth c.in-Some.key (key_up c.args.g.now c.exact.ensures c.args.values.now c.loop-node.values c.loop-node.front c.requires.low c.loop-node.invariant.falling c.in-Some.node c.in-Some.key c.in-Some.ensures.least)))
    c.in-Some.ensures.taken c.stop_tails.new.front c.stop_tails.ensures.holding (λ _. 1) in
    omega arith

pub loop-node-preserved : goal.loop-node-preserved
loop-node-preserved g c =
    let lifted = c.lift.ensures ∙ ap (λ k. set c.loop-node.values c.in-Some.node (at c.loop-node.values c.in-Some.node -ℤ k)) (worth c.in-Some.key (key_up c.args.g.now c.exact.ensures c.args.values.now c.loop-node.values c.loop-node.front c.requires.low c.loop-node.invariant.falling c.in-Some.node c.in-Some.key c.in-Some.ensures.least)) in
    record {
      falling = falling_more c.args.g.now c.exact.ensures c.args.values.now c.loop-node.values c.loop-node.front c.requires.low c.loop-node.invariant.falling c.in-Some.node c.in-Some.key c.in-Some.ensures.least
          c.lift.new.values c.pop.new.self lifted c.in-Some.ensures.taken c.stop_tails.new.front c.stop_tails.ensures.holding c.requires.obeyed c.stop_tails.ensures.room;
      room = c.stop_tails.ensures.room ∙ front1_room c.args.g.now c.exact.ensures c.args.values.now c.loop-node.values c.loop-node.front c.requires.low c.loop-node.invariant.falling c.in-Some.node c.in-Some.key c.in-Some.ensures.least
          c.lift.new.values c.pop.new.self lifted c.in-Some.ensures.taken ∙ c.loop-node.invariant.room;
      steps =
          let more : flagged_sum (length c.args.g.now.nodes) (λ k. reaching c.args.g.now k + 2) (waits_at c.loop-node.front)
          ≡ flagged_sum (length c.args.g.now.nodes) (λ k. reaching c.args.g.now k + 2) (waits_at c.stop_tails.new.front) + (reaching c.args.g.now c.in-Some.node + 2) =
          waits_more c.args.g.now c.exact.ensures c.args.values.now c.loop-node.values c.loop-node.front c.requires.low c.loop-node.invariant.falling c.in-Some.node c.in-Some.key c.in-Some.ensures.least
          c.lift.new.values c.pop.new.self lifted c.in-Some.ensures.taken c.stop_tails.new.front c.stop_tails.ensures.holding (λ k. reaching c.args.g.now k + 2) in
          omega (arith, c.pop.ensures.step, c.stop_tails.ensures.steps, c.loop-node.invariant.steps);
    }

pub returns-clause-earliest : goal.returns-clause-earliest
returns-clause-earliest g c =
    falls_earliest c.args.g.now c.exact.ensures c.args.values.now c.loop-node.values c.loop-node.front c.requires.low c.loop-node.invariant.falling c.in_default.ensures.none
