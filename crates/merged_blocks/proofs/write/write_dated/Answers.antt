use Rattle.std.proofs.Common.{◌∙◌}
use Rattle.ports.proofs.Writing.{writes_as}
use Rattle.decl.specs.Declaration.{declaration_of}
use Rattle.mergecap.specs.Packets.{shift_of, timed}
use Rattle.merged_blocks.proofs.Remarking.{packet_as}
use Rattle.merged_blocks.proofs.write.write_dated.Goals as goal

pub returns : goal.returns
returns g c =
    writes_as (packet_as (declaration_of c.args.decl.now) c.args.taps.now (shift_of c.args.begin.start) c.args.begin.since (timed c.args.stored.now) c.args.ends.now c.interface_of.result c.in-Some.stamp c.deref.result.now
    c.as_slice.result.now c.interface_of.ensures.is c.in-Some.ensures.some.1 c.deref.ensures.value (c.as_slice.ensures.value ∙ c.remark_line-remark.ensures.is)) c.write_packet.ensures
