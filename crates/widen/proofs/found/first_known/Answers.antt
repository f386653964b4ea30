use Rattle.std.proofs.Common.{arith}
use Rattle.widen.proofs.found.first_known.Goals as goal

pub narrow-requires-clause-from : goal.narrow-requires-clause-from
narrow-requires-clause-from c = omega (arith, c.nothing_known-known.ensures.low)

pub narrow-requires-clause-before : goal.narrow-requires-clause-before
narrow-requires-clause-before c = omega (arith, c.nothing_known-known.ensures.high)

pub narrow-requires-clause-tried : goal.narrow-requires-clause-tried
narrow-requires-clause-tried c = (c.args.what, c.args.p.now, c.in_ok-tried.ensures)

pub returns : goal.returns
returns c = c.narrow.ensures.known c.args.what c.args.p.now (c.nothing_known-known.ensures.known c.args.what c.args.p.now) c.in_ok-tried.ensures
