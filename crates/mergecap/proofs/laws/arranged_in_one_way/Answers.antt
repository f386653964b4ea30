use Rattle.mergecap.proofs.OneOrder.{arranged_one}
use Rattle.mergecap.proofs.laws.arranged_in_one_way.Goals as goal

pub returns : goal.returns
returns c = arranged_one
