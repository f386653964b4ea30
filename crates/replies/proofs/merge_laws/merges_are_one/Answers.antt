use Rattle.replies.proofs.Texts.{one_merge}
use Rattle.replies.proofs.merge_laws.merges_are_one.Goals as goal

pub returns : goal.returns
returns c = one_merge
