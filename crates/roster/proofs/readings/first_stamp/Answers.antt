use Rattle.roster.proofs.Beside.{first_of}
use Rattle.roster.proofs.readings.first_stamp.Goals as goal

pub returns : goal.returns
returns c = first_of c.args.readings.now c.requires c.stamp_at.result c.stamp_at.ensures.some c.stamp_at.ensures.none
