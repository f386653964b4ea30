use Rattle.std.proofs.Common.{refl}
use Rattle.session.proofs.BroughtPackets.{stored_then}
use Rattle.session.proofs.kept_packets.store.Goals as goal

pub loop-packet-preserved : goal.loop-packet-preserved
loop-packet-preserved c =
    stored_then c.args.place c.args.before c.loop-packet.n c.loop-packet.kept.items c.push.new.self.items _ c.loop-packet.yielded _ c.in-Some.packet c.loop-packet.invariant.0 c.loop-packet.invariant.1 refl
    c.in_ok-push.ensures.items
