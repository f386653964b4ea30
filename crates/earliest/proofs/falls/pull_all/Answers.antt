use Rattle.std.proofs.Common.{◌≤◌, ◌+◌, ◌∙◌, refl, arith}
use Rattle.sync_graph.specs.Graph.{departing}
use Rattle.earliest.proofs.Dropping.{pulled_more, pull_cost}
use Rattle.earliest.proofs.falls.pull_all.Goals as goal

pub loop-i-preserved : goal.loop-i-preserved
loop-i-preserved g c = record {
  pulled = pulled_more c.args.g.now c.exact.ensures c.args.values.now c.loop-i.front c.pull.new.front c.args.found.now c.args.count c.loop-i.i _
      c.requires.obeyed c.loop-i.invariant.pulled c.loop-i-test.true refl c.pull.ensures.holding c.pull.ensures.room;
  waits = λ k. c.pull.ensures.holding.waits k ∙ c.loop-i.invariant.waits k;
  room = c.pull.ensures.room ∙ c.loop-i.invariant.room;
  steps = pull_cost (λ n. departing c.args.g.now n + 1) c.args.found.now c.loop-i.i c.args.steps.now c.loop-i.steps c.pull.new.steps c.loop-i.invariant.steps
      (let h : c.pull.new.steps ≤ c.loop-i.steps + departing c.args.g.now _ + 1 = c.pull.ensures.steps in omega arith);
}
