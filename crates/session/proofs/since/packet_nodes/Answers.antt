use Rattle.std.proofs.Common.{ℕ, sym, subst}
use Rattle.mergecap.specs.declared.stored.Stored.{Stored}
use Rattle.mergecap.specs.Packets.{timed}
use Rattle.roster.specs.Roster.{IsNumberUnder}
use Rattle.session.specs.Settled.{event_of}
use Rattle.session.proofs.since.packet_nodes.Goals as goal

pub packet_node-requires : goal.packet_node-requires
packet_node-requires c =
    subst (λ (s : Stored). (v : ℕ) × IsNumberUnder c.args.names.now.under (event_of (timed s)) v) (sym c.stored-item.is) (c.requires c.loop-stored.stored-index c.stored-item.result c.loop-stored-test.true)
