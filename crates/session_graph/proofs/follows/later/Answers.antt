use Rattle.std.proofs.Common.{ℕ, Option, sym, subst}
use Rattle.roster.specs.Entering.{IsLaterEnd}
use Rattle.session_graph.proofs.follows.later.Goals as goal

pub returns-in-None-clause-new : goal.returns-in-None-clause-new
returns-in-None-clause-new c = λ known p follows.
    subst (λ (o : Option ℕ). IsLaterEnd p c.args.solver.now.graph c.args.place o c.after.result) (sym c.in-None.is) (c.after.ensures.nearest p follows)
