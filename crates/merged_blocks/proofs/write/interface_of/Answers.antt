use Rattle.std.proofs.Common.{◌≡◌, ◌∙◌, ap, arith}
use Rattle.mergecap.specs.Packets.{timed}
use Rattle.merged_blocks.specs.Taps.{number_of, tap_of}
use Rattle.merged_blocks.proofs.TapNumbers.{number_there}
use Rattle.merged_blocks.proofs.write.interface_of.Goals as goal

pub overflow_cast-result : goal.overflow_cast-result
overflow_cast-result c =
    let taps = c.args.taps.now in
    let tap = tap_of (timed c.args.stored.now) in
    let same : c.number_of.result ≡ number_of taps tap = c.number_of.ensures ∙ ap (number_of taps) c.tap_of.ensures.is in
    let below = (number_there taps tap c.requires.sorted c.requires.there).0 in
    let few = c.requires.few in
    omega (arith, same, below, few)
