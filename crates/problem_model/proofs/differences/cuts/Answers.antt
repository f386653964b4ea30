use Rattle.problem_model.proofs.Cuts.{raised_execution, cut_unbounded}
use Rattle.problem_model.proofs.differences.cuts.Goals as goal

pub returns-clause-raised : goal.returns-clause-raised
returns-clause-raised c = raised_execution

pub returns-clause-unbounded : goal.returns-clause-unbounded
returns-clause-unbounded c = cut_unbounded
