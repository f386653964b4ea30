use Rattle.std.proofs.Common.{◌≡◌, ◌≤◌, ◌<◌, take, drop, length, arith}
use Rattle.pcap_stream.proofs.Reading.{part_of, next_of, head_said, packet_said}
use Rattle.pcap_stream.proofs.record.read_record.Goals as goal

pub returns-then-behind-captured-clause-ok : goal.returns-then-behind-captured-clause-ok
returns-then-behind-captured-clause-ok c =
    let said = head_said c.args.header.order c.args.bytes.now c.split_at.result.0.now c.number-captured.result c.split_at.ensures.front c.number-captured.ensures in
    let few : c.number-captured.result ≤ 262144 = omega (arith, c.if-captured-gt-MOST_CAPTURED.false) in
    let short : length (drop 16 c.args.bytes.now) < c.number-captured.result = rw (← c.split_at.ensures.back) c.if-behind-captured.true in
    part_of c.args.header c.args.bytes.now c.number-captured.result (λ begins. absurd (cc (c.if-begins.false, c.begins.ensures.1 begins))) said few short

pub returns-clause-ok : goal.returns-clause-ok
returns-clause-ok c =
    let said = head_said c.args.header.order c.args.bytes.now c.split_at.result.0.now c.number-captured.result c.split_at.ensures.front c.number-captured.ensures in
    let few : c.number-captured.result ≤ 262144 = omega (arith, c.if-captured-gt-MOST_CAPTURED.false) in
    let enough : c.number-captured.result ≤ length (drop 16 c.args.bytes.now) = rw (← c.split_at.ensures.back) c.if-behind-captured.false in
    let cut : c.in_ok-bytes.bytes.items ≡ take c.number-captured.result (drop 16 c.args.bytes.now) = rw (← c.split_at.ensures.back) c.in_ok-bytes.ensures.items in
    let packet = packet_said c.args.header c.args.bytes.now c.split_at.result.0.now c.in_ok-bytes.bytes.items c.stamp_of.result c.number.result c.split_at.ensures.front c.stamp_of.ensures c.number.ensures in
    next_of c.args.header c.args.bytes.now c.in_ok-bytes.bytes.items c.number-captured.result _ c.if-bytes-lt-HEAD_BYTES.false (λ begins. absurd (cc (c.if-begins.false, c.begins.ensures.1 begins))) said few enough cut packet
