use Rattle.problem_model.proofs.Sufficing.{suffices}
use Rattle.problem_model.proofs.bounds.short_list_suffices.Goals as goal

pub returns : goal.returns
returns c = λ p readings x chained are. suffices p x chained readings are
