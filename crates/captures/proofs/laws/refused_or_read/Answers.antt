use Rattle.captures.proofs.Formats.{read_or_refused}
use Rattle.captures.proofs.laws.refused_or_read.Goals as goal

pub returns : goal.returns
returns c = λ s x e reads fault not_memory. read_or_refused s reads.read e reads.reads fault not_memory
