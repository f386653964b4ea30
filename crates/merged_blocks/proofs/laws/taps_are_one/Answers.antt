use Rattle.merged_blocks.proofs.OneList.{taps_one}
use Rattle.merged_blocks.proofs.laws.taps_are_one.Goals as goal

pub returns : goal.returns
returns c = taps_one
