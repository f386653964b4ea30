use Rattle.std.proofs.Common.{◌≡◌, take, map}
use Rattle.mergecap.specs.declared.stored.Stored.{Stored}
use Rattle.mergecap.specs.Packets.{timed}
use Rattle.merged_blocks.specs.Taps.{tap_of}
use Rattle.merged_blocks.proofs.taps.each_tap.Given as goal

-- the taps of the packets so far
abbrev pub invariant-loop-stored : goal.invariant-loop-stored
invariant-loop-stored l = l.taps.items ≡ map (λ (s : Stored). tap_of (timed s)) (take l.stored-index l.kept)
