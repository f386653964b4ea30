use Rattle.std.proofs.Common.{sym, subst}
use Rattle.solver.specs.Changes.{LeavesAnswer}
use Rattle.solver.proofs.Staying.{leaves_all}
use Rattle.solver.proofs.solver.Solver.new_pair.Goals as goal

pub returns-in-Some-clause-leaves : goal.returns-in-Some-clause-leaves
returns-in-Some-clause-leaves g c = subst (LeavesAnswer c.args.self.now) (sym c.in-Some.ensures.same) (leaves_all c.args.self.now c.requires.current)
