use Rattle.std.proofs.Common.{◌-◌, length, arith}
use Rattle.roster.proofs.Beside.{last_of, no_stamp}
use Rattle.roster.proofs.readings.last_stamp.Goals as goal

pub returns-then-count-eq0 : goal.returns-then-count-eq0
returns-then-count-eq0 c = no_stamp c.args.readings.now c.requires c.if-count-eq0.true

pub returns : goal.returns
returns c =
    let more = c.if-count-eq0.false in
    last_of c.args.readings.now c.requires (length c.args.readings.now - 1) (omega (arith, more)) c.stamp_at.result c.stamp_at.ensures.some c.stamp_at.ensures.none
