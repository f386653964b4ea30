use Rattle.thinning.proofs.Marking.{mark_also}
use Rattle.thinning.proofs.asked.mark.Goals as goal

pub returns : goal.returns
returns c = mark_also c.args.marks.now c.args.place c.requires
