use Rattle.problem_model.proofs.OneList.{readings_one, listed}
use Rattle.problem_model.proofs.bounds.nodes_are_one_list.Goals as goal

pub returns-clause-readings : goal.returns-clause-readings
returns-clause-readings c = readings_one

pub returns-clause-times : goal.returns-clause-times
returns-clause-times c = listed
