use Rattle.std.proofs.Common.{[], length}
use Rattle.packets.specs.Packets.{Adds}
use Rattle.pcap_stream.specs.Inside.{HasRead}
use Rattle.pcap_stream.proofs.record.read_records.Given as goal

abbrev pub invariant-records : goal.invariant-records
invariant-records l = Adds (λ added. HasRead l.header l.bytes l.left [] added) l.initial.packets l.packets

abbrev pub decreases-records : goal.decreases-records
decreases-records l = length l.left
