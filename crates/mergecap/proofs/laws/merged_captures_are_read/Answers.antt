use Rattle.mergecap.proofs.ReadBack.{read_back}
use Rattle.mergecap.proofs.laws.merged_captures_are_read.Goals as goal

pub returns : goal.returns
returns c = read_back
