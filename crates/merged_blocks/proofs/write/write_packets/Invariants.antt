use Rattle.ports.proofs.Writing.{Leaves}
use Rattle.mergecap.specs.Packets.{shift_of}
use Rattle.decl.specs.Declaration.{declaration_of}
use Rattle.merged_blocks.proofs.Pieces.{blocks_from}
use Rattle.merged_blocks.proofs.write.write_packets.Given as goal

-- the blocks of the packets from this place on are left
abbrev pub invariant-loop-place : goal.invariant-loop-place
invariant-loop-place g l =
    Leaves (g.O.Sink.told l.initial.out) (g.O.Sink.told l.out) (blocks_from (declaration_of l.decl) l.taps (shift_of l.begin.start) l.begin.since l.kept l.all l.place)
    (blocks_from (declaration_of l.decl) l.taps (shift_of l.begin.start) l.begin.since l.kept l.all 0)
