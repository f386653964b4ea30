use Rattle.std.proofs.Common.{◌≡◌, ◌<◌, ◌≤◌, ◌^◌, arith, rules}
use Rattle.pcapng_stream.proofs.Stamps.{ten_fits, ten_positive, vanished}
use Rattle.pcapng_stream.proofs.packet.nanos.Goals as goal

pub pow-requires : goal.pow-requires
pow-requires c =
    let same : c.from.result ≡ c.args.resolution = search rules in
    rw same (ten_fits c.args.resolution c.if-resolution-lt-VANISHING.true)

pub nonzero_div-result : goal.nonzero_div-result
nonzero_div-result c =
    let same : c.pow.result ≡ 10 ^ c.from.result = search rules in
    rw same (ten_positive c.from.result)

pub returns-else-resolution-lt-VANISHING-clause-value : goal.returns-else-resolution-lt-VANISHING-clause-value
returns-else-resolution-lt-VANISHING-clause-value c =
    let small : c.args.resolution < 128 = omega (arith, c.if-resolution-ge-BINARY.false) in
    let many : 29 ≤ c.args.resolution = omega (arith, c.if-resolution-lt-VANISHING.false) in
    let fits : c.args.time < 2 ^ 64 = c.ranges.time.fits in
    vanished c.args.resolution c.args.time small many fits
