use Rattle.traces.proofs.Seen.{problem_lawful}
use Rattle.traces.proofs.laws.lawful.Goals as goal

pub returns : goal.returns
returns c = problem_lawful
