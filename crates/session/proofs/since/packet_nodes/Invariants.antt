use Rattle.std.proofs.Common.{◌≡◌, take, map}
use Rattle.mergecap.specs.declared.stored.Stored.{Stored}
use Rattle.mergecap.specs.Packets.{timed}
use Rattle.session.specs.Settled.{event_of, node_of}
use Rattle.session.proofs.since.packet_nodes.Given as goal

-- the nodes of the packets so far
abbrev pub invariant-loop-stored : goal.invariant-loop-stored
invariant-loop-stored l = l.nodes.items ≡ map (λ (s : Stored). node_of l.names (event_of (timed s))) (take l.stored-index l.kept)
