use Rattle.std.proofs.Common.{◌≡◌, ◌+◌, ◌≤◌, ℕ, List, [], Err, length, arith, rules}
use Rattle.std.proofs.lemmas.Result.{IfOk-weaker}
use Rattle.pcap_stream.specs.Capture.{Record}
use Rattle.packets.specs.Packets.{Adds}
use Rattle.pcap_stream.specs.Feeding.{Tail, Grows}
use Rattle.pcap_stream.specs.Inside.{IsAt, with_records}
use Rattle.packets.proofs.Collecting.{adds_weaker}
use Rattle.pcap_stream.proofs.Reading.{read_short}
use Rattle.pcap_stream.proofs.Growing.{part_short, read_grows, records_fault}
use Rattle.pcap_stream.proofs.stream.read_on.Goals as goal

pub returns-in_err-rest-clause-fault : goal.returns-in_err-rest-clause-fault
returns-in_err-rest-clause-fault c =
    let from : c.from_residual.result ≡ Err c.in_err-rest.field-0.0 = search rules in
    rw from (λ s records at. records_fault c.args.header s records c.args.offset c.args.bytes.now c.in_err-rest.field-0.0 at c.in_err-rest.ensures.fault)

pub keep-requires : goal.keep-requires
keep-requires c =
    let ends = c.in_ok-rest.ensures.ok.are in
    let fewer : length c.in_ok-rest.rest.now ≤ length c.args.bytes.now = read_short ends.read in
    record { short = part_short c.args.header c.in_ok-rest.rest.now ends.part; early = omega (arith, fewer, c.requires) }

pub returns-clause-ok : goal.returns-clause-ok
returns-clause-ok c =
    IfOk-weaker c.keep.result _
    (λ (next : Tail). Adds (λ completed. (s : List ℕ) (records : List Record) → IsAt c.args.header s records c.args.offset c.args.bytes.now
    → Grows next s (with_records c.args.header records) [] completed) c.args.packets.now c.read_records.new.packets)
    (λ next kept. adds_weaker (λ added ends s records at. read_grows c.args.header s records c.args.offset c.args.bytes.now c.in_ok-rest.rest.now _ _ next at ends kept) c.in_ok-rest.ensures.ok)
    c.keep.ensures.ok

pub returns-clause-size : goal.returns-clause-size
returns-clause-size c =
    let ends = c.in_ok-rest.ensures.ok.are in
    let fewer : length c.in_ok-rest.rest.now ≤ length c.args.bytes.now = read_short ends.read in
    IfOk-weaker c.keep.result _
    (λ (next : Tail). next.offset + length next.rest ≡ c.args.offset + length c.args.bytes.now)
    (λ next kept. rw kept (omega (arith, fewer)))
    c.keep.ensures.ok
