use Rattle.std.proofs.Common.{◌≤◌, ◌+◌, ◌∙◌, sym, length, arith}
use Rattle.withdrawals.proofs.Falling.{holding_more}
use Rattle.sync_graph.specs.Graph.{table_of}
use Rattle.sync_graph.specs.Lists.{list_at}
use Rattle.earliest.specs.Withdrawn.{falls_of}
use Rattle.earliest.proofs.Waiting.{past_end, list_short}
use Rattle.earliest.proofs.Affecting.{tail_arc, tail_below, tail_seen}
use Rattle.earliest.proofs.Dropping.{holding_done}
use Rattle.earliest.proofs.falls.stop_tails.Goals as goal

pub stop_tail-requires-clause-arc : goal.stop_tail-requires-clause-arc
stop_tail-requires-clause-arc g c = tail_below c.args.g.now c.exact.ensures c.args.node c.loop-arc.k c.in-Some.arc (sym c.arriving.ensures.entry ∙ c.in-Some.is)

pub loop-arc-preserved : goal.loop-arc-preserved
loop-arc-preserved g c =
    let w = tail_arc c.args.g.now c.exact.ensures c.args.node c.loop-arc.k c.in-Some.arc (sym c.arriving.ensures.entry ∙ c.in-Some.is) in
    let l : c.loop-arc.k + 1 ≤ length (list_at c.args.g.now.arriving c.args.node) = tail_seen c.args.g.now c.exact.ensures c.args.node c.loop-arc.k c.in-Some.arc (sym c.arriving.ensures.entry ∙ c.in-Some.is) in
    record {
      holding = holding_more (table_of c.args.g.now) (list_at c.args.g.now.arriving c.args.node) c.loop-arc.k (falls_of c.args.values.now c.args.front.now) (falls_of c.args.values.now c.loop-arc.front) (falls_of c.args.values.now c.stop_tail.new.front)
          c.in-Some.arc c.loop-arc.invariant.holding (omega arith) w.0 w.1 c.stop_tail.ensures.held;
      seen = l;
      room = c.stop_tail.ensures.room ∙ c.loop-arc.invariant.room;
      steps = omega (arith, c.arriving.ensures.step, c.loop-arc.invariant.steps);
    }

pub returns-clause-holding : goal.returns-clause-holding
returns-clause-holding g c =
    holding_done (table_of c.args.g.now) (list_at c.args.g.now.arriving c.args.node) c.loop-arc.k (falls_of c.args.values.now c.args.front.now) (falls_of c.args.values.now c.loop-arc.front) c.loop-arc.invariant.holding
    (past_end (list_at c.args.g.now.arriving c.args.node) c.loop-arc.k (λ x q. c.in_default.not-Some x (c.arriving.ensures.entry ∙ q)))

pub returns-clause-steps : goal.returns-clause-steps
returns-clause-steps g c = omega (arith, c.arriving.ensures.step, c.loop-arc.invariant.steps, c.loop-arc.invariant.seen)

pub loop-arc-smaller : goal.loop-arc-smaller
loop-arc-smaller g c =
    let l : c.loop-arc.k + 1 ≤ length (list_at c.args.g.now.arriving c.args.node) = tail_seen c.args.g.now c.exact.ensures c.args.node c.loop-arc.k c.in-Some.arc (sym c.arriving.ensures.entry ∙ c.in-Some.is) in
    omega arith

pub overflow_add-k : goal.overflow_add-k
overflow_add-k g c =
    let l : c.loop-arc.k + 1 ≤ length (list_at c.args.g.now.arriving c.args.node) = tail_seen c.args.g.now c.exact.ensures c.args.node c.loop-arc.k c.in-Some.arc (sym c.arriving.ensures.entry ∙ c.in-Some.is) in
    let short : length (list_at c.args.g.now.arriving c.args.node) ≤ length c.args.g.now.arcs = list_short c.args.g.now c.exact.ensures c.args.node in
    omega (arith, c.exact.ensures.arc_limit)
