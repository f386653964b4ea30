use Rattle.std.proofs.Common.{◌+◌, ◌<◌, ◌≤◌, ◌∙◌, length, arith}
use Rattle.sync_graph.specs.Graph.{reaching}
use Rattle.withdrawals.proofs.Places.{leaves_then}
use Rattle.earliest.proofs.Affecting.{done_below, mark_cost}
use Rattle.earliest.proofs.affected.mark_all.Goals as goal

pub loop-done-smaller : goal.loop-done-smaller
loop-done-smaller g c =
    let f = c.requires.first in
    let l : c.loop-done.done < length c.args.g.now.nodes =
    (done_below c.args.g.now f.0 f.1 c.args.values.now c.loop-done.front c.loop-done.found c.loop-done.count c.loop-done.done (c.loop-done.invariant.marking f.0 f.1 f.2) c.loop-done-test.true).0 in
    omega arith

pub loop-done-preserved : goal.loop-done-preserved
loop-done-preserved g c = record {
  marking = λ before gone i. c.mark_tails-count.ensures.marking before gone (c.loop-done.invariant.marking before gone i);
  keeps = λ k w. c.mark_tails-count.ensures.keeps k (c.loop-done.invariant.keeps k w);
  places = leaves_then c.args.found.now c.loop-done.found c.mark_tails-count.new.found c.loop-done.count c.mark_tails-count.result c.mark_tails-count.ensures.more c.loop-done.invariant.places c.mark_tails-count.ensures.places;
  more = (let l : c.loop-done.count ≤ c.mark_tails-count.result = c.mark_tails-count.ensures.more in omega (arith, c.loop-done.invariant.more));
  room = c.mark_tails-count.ensures.room ∙ c.loop-done.invariant.room;
  steps = mark_cost (λ n. reaching c.args.g.now n + 1) c.loop-done.found c.mark_tails-count.new.found c.loop-done.count c.loop-done.done c.args.steps.now c.loop-done.steps c.mark_tails-count.new.steps
      c.loop-done-test.true c.mark_tails-count.ensures.before c.loop-done.invariant.steps (let h : c.mark_tails-count.new.steps ≤ c.loop-done.steps + reaching c.args.g.now _ + 1 = c.mark_tails-count.ensures.steps in omega arith);
}

pub mark_tails-count-requires-clause-first : goal.mark_tails-count-requires-clause-first
mark_tails-count-requires-clause-first g c =
    let f = c.requires.first in
    (f.0, f.1, c.loop-done.invariant.marking f.0 f.1 f.2)
