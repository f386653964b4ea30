use Rattle.commands.proofs.Requests.{with_problem}
use Rattle.commands.proofs.request.asked_of_thin.Goals as goal

pub returns : goal.returns
returns c = with_problem c.args.words.now c.word.result.now c.word.ensures
