use Rattle.std.proofs.Common.{◌≡◌, ◌∙◌, ℕ, List, ap, drop}
use Rattle.std.proofs.lemmas.List.{take_rest}
use Rattle.pcap_stream.specs.Capture.{number_in}
use Rattle.pcap_stream.proofs.Headers.{begun, header_first}
use Rattle.pcap_stream.proofs.header.read_header.Goals as goal

pub returns-then-bytes-lt-HEADER_BYTES-clause-ok : goal.returns-then-bytes-lt-HEADER_BYTES-clause-ok
returns-then-bytes-lt-HEADER_BYTES-clause-ok c =
    begun c.args.bytes.now c.in-Some.order c.in-Some.fraction c.if-bytes-lt-HEADER_BYTES.true c.in-Some.ensures.some (c.has_version.ensures.0 c.if-not-has_version.false)

pub returns-clause-ok : goal.returns-clause-ok
returns-clause-ok c =
    let said : c.number.result ≡ number_in c.in-Some.order 4 (drop 20 c.args.bytes.now) =
    c.number.ensures ∙ ap (λ (l : List ℕ). number_in c.in-Some.order 4 l) (take_rest c.args.bytes.now 20) in (
      c.if-bytes-lt-HEADER_BYTES.false,
      header_first c.args.bytes.now c.in-Some.order c.in-Some.fraction c.number.result c.if-bytes-lt-HEADER_BYTES.false c.in-Some.ensures.some (c.has_version.ensures.0 c.if-not-has_version.false) said,
    )
