use Rattle.problem_model.proofs.Towards.{least_lead, least_lead_one, towards_execution, towards_difference, towards_greatest, towards_least, towards_unbounded}
use Rattle.problem_model.proofs.differences.rows_towards.Goals as goal

pub returns-clause-lead : goal.returns-clause-lead
returns-clause-lead c = least_lead

pub returns-clause-one_lead : goal.returns-clause-one_lead
returns-clause-one_lead c = least_lead_one

pub returns-clause-attaining : goal.returns-clause-attaining
returns-clause-attaining c = towards_execution

pub returns-clause-attained : goal.returns-clause-attained
returns-clause-attained c = towards_difference

pub returns-clause-greatest : goal.returns-clause-greatest
returns-clause-greatest c = towards_greatest

pub returns-clause-least : goal.returns-clause-least
returns-clause-least c = towards_least

pub returns-clause-unbounded : goal.returns-clause-unbounded
returns-clause-unbounded c = towards_unbounded
