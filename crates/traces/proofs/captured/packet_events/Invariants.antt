use Rattle.std.proofs.Common.{◌≡◌, ◌++◌, drop, map}
use Rattle.captures.specs.Feeding.{seen_packets}
use Rattle.decl.specs.Declaration.{declaration_of}
use Rattle.traces.specs.Seen.{event_of_packet, seen_events}
use Rattle.traces.proofs.captured.packet_events.Given as goal

-- the events so far and those of the packets from this place on are all
abbrev pub invariant-loop-packet : goal.invariant-loop-packet
invariant-loop-packet l = seen_events l.events.items ++ map (event_of_packet (declaration_of l.decl) l.label) (seen_packets (drop l.packet-index l.packets)) ≡ map (event_of_packet (declaration_of l.decl) l.label) (seen_packets l.packets)
