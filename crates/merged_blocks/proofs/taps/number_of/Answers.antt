use Rattle.std.proofs.Common.{get_or, sym}
use Rattle.merged_blocks.proofs.TapNumbers.{equal_same, not_missed, number_is}
use Rattle.merged_blocks.proofs.taps.number_of.Goals as goal

pub unreachable-requires : goal.unreachable-requires
unreachable-requires c = not_missed c.args.taps.now c.args.tap c.in-Err.field-0 c.requires.sorted c.requires.there c.in-Err.ensures.position

pub returns : goal.returns
returns c =
    let taps = c.args.taps.now in
    let tap = c.args.tap in
    let place = c.in-Ok.place in
    sym (number_is taps tap place tap c.requires.sorted c.in-Ok.ensures.bound (equal_same (get_or taps place tap) tap (c.in-Ok.ensures.ok tap)))
