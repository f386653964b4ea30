use Rattle.std.proofs.Common.{◌≡◌, [], length, rules}
use Rattle.packets.proofs.Collecting.{adds_then}
use Rattle.pcap_stream.proofs.Reading.{packets_pushed}
use Rattle.pcap_stream.proofs.record.read_records.Goals as goal

pub records-preserved : goal.records-preserved
records-preserved c =
    let next = rw c.in-Some.is at c.in_ok-packet.ensures.ok in
    let count : c.len.result ≡ length c.in-Some.packet.bytes.items = search rules in
    adds_then (λ some more read pushed. rw pushed (packets_pushed c.args.header c.args.bytes.now c.records.left.now [] some c.in-Some.packet c.len.result read next count))
    c.records.invariant c.in_ok-push.ensures.added
