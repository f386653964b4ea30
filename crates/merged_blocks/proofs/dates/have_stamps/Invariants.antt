use Rattle.mergecap.specs.Packets.{shift_of}
use Rattle.merged_blocks.proofs.Stamping.{AreDatedUpTo}
use Rattle.merged_blocks.proofs.dates.have_stamps.Given as goal

-- the packets so far are dated
abbrev pub invariant-loop-stored : goal.invariant-loop-stored
invariant-loop-stored l = AreDatedUpTo (shift_of l.start) l.kept l.stored-index
