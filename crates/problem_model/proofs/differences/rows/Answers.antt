use Rattle.problem_model.proofs.Attaining.{greatest_lead, greatest_lead_one, attaining_execution, attaining_difference, attaining_upto, row_shortest, known_greatest, unknown_unbounded}
use Rattle.problem_model.proofs.differences.rows.Goals as goal

pub returns-clause-lead : goal.returns-clause-lead
returns-clause-lead c = greatest_lead

pub returns-clause-one_lead : goal.returns-clause-one_lead
returns-clause-one_lead c = greatest_lead_one

pub returns-clause-attaining : goal.returns-clause-attaining
returns-clause-attaining c = attaining_execution

pub returns-clause-attained : goal.returns-clause-attained
returns-clause-attained c = attaining_difference

pub returns-clause-greatest : goal.returns-clause-greatest
returns-clause-greatest c = known_greatest

pub returns-clause-unbounded : goal.returns-clause-unbounded
returns-clause-unbounded c = unknown_unbounded

pub returns-clause-size : goal.returns-clause-size
returns-clause-size c = attaining_upto

pub returns-clause-shortest : goal.returns-clause-shortest
returns-clause-shortest c = row_shortest
