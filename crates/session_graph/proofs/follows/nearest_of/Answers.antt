use Rattle.session_graph.proofs.Seeking.{near_by}
use Rattle.session_graph.proofs.follows.nearest_of.Goals as goal

pub returns-clause-nearest : goal.returns-clause-nearest
returns-clause-nearest c = λ p e follows on is.
    near_by p c.args.solver.now.graph c.args.place c.args.stamp c.args.known c.below-below.result c.above-above.result c.earlier-earlier.result c.later-later.result e on is c.requires.known c.requires.new
    (λ k. (c.below-below.ensures.known k, c.above-above.ensures.known k, c.earlier-earlier.ensures.known k, c.later-later.ensures.known k))
    (λ k. (c.below-below.ensures.new k, c.above-above.ensures.new k, c.earlier-earlier.ensures.new k p follows, c.later-later.ensures.new k p follows))
