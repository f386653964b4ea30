use Rattle.std.proofs.Common.{ℕ, Option, sym, subst}
use Rattle.roster.specs.Entering.{IsEarlierEnd}
use Rattle.session_graph.proofs.follows.earlier.Goals as goal

pub returns-in-None-clause-new : goal.returns-in-None-clause-new
returns-in-None-clause-new c = λ known p follows.
    subst (λ (o : Option ℕ). IsEarlierEnd p c.args.solver.now.graph c.args.place o c.before-in-None.result) (sym c.in-None.is) (c.before-in-None.ensures p follows)
