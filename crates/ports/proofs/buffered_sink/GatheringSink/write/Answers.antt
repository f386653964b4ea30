use Rattle.std.proofs.Common.{rules, ◌≤◌, ◌<◌, length, arith}
use Rattle.ports.proofs.Holding.{holds_behind}
use Rattle.ports.proofs.buffered_sink.GatheringSink.write.Goals as goal

pub returns-clause-every : goal.returns-clause-every
returns-clause-every g c = rw (← c.self.view_is, c.hold-2.ensures.items, c.in_ok-pass_on.ensures.left) (
    let within : c.hold-2.result ≤ length c.args.piece.now = omega (arith, c.hold-2.ensures.count) in
    let some : (0 < length c.args.piece.now → 0 < c.hold-2.result) = search rules in
    holds_behind _ _ _ _ _ _ within some c.in_ok-pass_on.ensures.written.appended c.in_ok-pass_on.ensures.written.no_fall
    )
