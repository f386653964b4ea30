use Rattle.problem_model.proofs.Heights.{earliest_height}
use Rattle.problem_model.proofs.Earliest.{earliest_one, earliest_without_arcs, earliest_grown}
use Rattle.problem_model.proofs.differences.earliest.Goals as goal

pub returns-clause-one : goal.returns-clause-one
returns-clause-one c = earliest_one

pub returns-clause-height : goal.returns-clause-height
returns-clause-height c = λ nodes arcs xs height within up. earliest_height nodes arcs xs height within (λ k d l. (up k d l).0)

pub returns-clause-no_arcs : goal.returns-clause-no_arcs
returns-clause-no_arcs c = earliest_without_arcs

pub returns-clause-grown : goal.returns-clause-grown
returns-clause-grown c = earliest_grown
