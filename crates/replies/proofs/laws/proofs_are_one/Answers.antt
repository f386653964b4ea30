use Rattle.replies.proofs.OneProof.{proofs_one}
use Rattle.replies.proofs.laws.proofs_are_one.Goals as goal

pub returns : goal.returns
returns c = proofs_one
