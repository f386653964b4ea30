use Rattle.std.proofs.Common.{◌≡◌, map, rules}
use Rattle.mergecap.specs.declared.stored.Stored.{Stored}
use Rattle.mergecap.specs.Packets.{timed}
use Rattle.merged_blocks.specs.Taps.{tap_of}
use Rattle.merged_blocks.proofs.TapOrder.{taps_made}
use Rattle.merged_blocks.proofs.taps.taps_of.Goals as goal

pub returns : goal.returns
returns c =
    let all : c.in_ok-taps.taps.items ≡ map (λ (s : Stored). tap_of (timed s)) c.args.kept.now = search rules in
    taps_made _ _ _ _ all c.sort_unstable.ensures.permutation c.sort_unstable.ensures.sorted c.dedup.ensures.filtered
