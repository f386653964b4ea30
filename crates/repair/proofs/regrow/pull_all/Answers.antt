use Rattle.std.proofs.Common.{◌+◌, ◌≤◌, ◌∙◌, refl, arith}
use Rattle.earliest.proofs.Dropping.{pull_cost}
use Rattle.distances.specs.Facing.{opposite}
use Rattle.repair.specs.Pulling.{onward}
use Rattle.repair.proofs.Pulls.{pulled_none, found_waits, pulled_more}
use Rattle.repair.proofs.regrow.pull_all.Goals as goal

pub loop-i-init : goal.loop-i-init
loop-i-init g c = record {
  pulled = pulled_none c.args.search.now.graph c.args.search.now.side c.args.found.now.list.now c.args.row.now c.args.front.now c.requires.empty;
  at_rest = c.requires.at_rest;
  state = c.requires.state;
  room = refl;
  steps = omega arith;
}

pub pull-requires-clause-node : goal.pull-requires-clause-node
pull-requires-clause-node g c = (c.requires.found c.loop-i.i c.loop-i-test.true).0

pub pull-requires-clause-own : goal.pull-requires-clause-own
pull-requires-clause-own g c = found_waits c.args.search.now.graph c.exact.ensures.graph c.args.search.now.side c.args.found.now.list.now c.loop-i.i c.args.row.now c.loop-i.row c.loop-i.front c.loop-i.invariant.pulled (c.requires.found c.loop-i.i c.loop-i-test.true).1

pub loop-i-preserved : goal.loop-i-preserved
loop-i-preserved g c = record {
  pulled = pulled_more c.args.search.now.graph c.exact.ensures.graph c.args.search.now.side c.args.found.now.list.now c.loop-i.i c.args.row.now c.loop-i.row c.loop-i.front c.loop-i.invariant.pulled (c.requires.found c.loop-i.i c.loop-i-test.true).1
      c.pull.new.row c.pull.new.front c.pull.ensures.tried;
  at_rest = c.pull.ensures.at_rest;
  state = c.pull.ensures.state;
  room = c.pull.ensures.room ∙ c.loop-i.invariant.room;
  steps = pull_cost (λ n. onward (opposite c.args.search.now.side) c.args.search.now.graph n + 1) c.args.found.now.list.now c.loop-i.i c.args.steps.now c.loop-i.steps c.pull.new.steps c.loop-i.invariant.steps
      (let h : c.pull.new.steps ≤ c.loop-i.steps + onward (opposite c.args.search.now.side) c.args.search.now.graph _ + 1 = c.pull.ensures.steps in omega arith);
}
