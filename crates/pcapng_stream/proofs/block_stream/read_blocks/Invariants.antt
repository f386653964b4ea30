use Rattle.std.proofs.Common.{[], length}
use Rattle.packets.specs.Packets.{Adds}
use Rattle.pcapng_stream.specs.Inside.{HasRead, section_of}
use Rattle.pcapng_stream.proofs.block_stream.read_blocks.Given as goal

abbrev pub invariant-walk : goal.invariant-walk
invariant-walk l = Adds (λ added. HasRead (section_of l.initial.section) l.bytes l.left (section_of l.section) l.initial.passed l.passed [] added) l.initial.packets l.packets

abbrev pub decreases-walk : goal.decreases-walk
decreases-walk l = length l.left
