use Rattle.std.proofs.Common.{arith}
use Rattle.thinning.proofs.Edging.{follows_more}
use Rattle.thinning.proofs.asked.mark_edges.Goals as goal

pub loop-follow-preserved : goal.loop-follow-preserved
loop-follow-preserved c = record {
  kept = λ e mark. c.mark_follow.ensures.kept e (c.loop-follow.invariant.kept e mark);
  edges = follows_more c.loop-follow.marks c.mark_follow.new.marks c.args.edges.now c.args.follows.now c.loop-follow.follow-index c.follow-item.result c.loop-follow-test.true c.follow-item.is
      c.mark_follow.ensures.kept c.mark_follow.ensures.edges c.loop-follow.invariant.edges;
}

pub returns-clause-edges : goal.returns-clause-edges
returns-clause-edges c = λ k d below. c.loop-follow.invariant.edges k d (omega (arith, below, c.loop-follow-test.false))
