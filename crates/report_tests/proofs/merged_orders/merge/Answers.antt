use Rattle.std.proofs.Common.{subst}
use Rattle.problem_model.specs.Problem.{ProblemLists}
use Rattle.problem.specs.Listing.{listing_of}
use Rattle.solver.specs.Solution.{IsSolutionBy}
use Rattle.report_tests.proofs.merged_orders.merge.Goals as goal

pub write_merge-requires-clause-solution : goal.write_merge-requires-clause-solution
write_merge-requires-clause-solution g c =
    subst (λ (p : ProblemLists). IsSolutionBy (listing_of c.in_ok-p.p) p c.in_ok-solver.solver) c.in_ok-p.ensures.problem c.in_ok-solver.ensures.solution
