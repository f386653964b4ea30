use Rattle.problem_solver.proofs.graphs.solve_graph.Goals as goal

pub returns : goal.returns
returns g c = c.kept_or_cycle.ensures c.args.g.now c.in_ok-found.ensures
