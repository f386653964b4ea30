use Rattle.problem_graph.proofs.HeldStanding.{own_standing}
use Rattle.queries.proofs.solver_laws.own_graphs.Goals as goal

pub returns : goal.returns
returns c = λ p readings bounds g lawful are is has short. own_standing p readings lawful are g is bounds has short
