use Rattle.std.proofs.Common.{arith}
use Rattle.widen.proofs.Concluding.{high_within}
use Rattle.widen.proofs.Sharing.{tried_shown}
use Rattle.widen.proofs.shared_cycles.narrow_by_one.Goals as goal

pub try_cycle-requires-clause-extra : goal.try_cycle-requires-clause-extra
try_cycle-requires-clause-extra c =
    let high = high_within c.args.what c.args.p.now c.args.known.now c.requires.known in
    omega (arith, high, c.requires.open)

pub narrow-requires-clause-tried : goal.narrow-requires-clause-tried
narrow-requires-clause-tried c = (
  c.args.what,
  c.args.p.now,
  tried_shown c.args.what c.args.p.now c.args.known.now.low c.in_ok-shown.shown c.in-Some.tried c.in-Some.is c.in_ok-shown.ensures,
)

pub returns-in-Some : goal.returns-in-Some
returns-in-Some c =
    c.narrow.ensures.known c.args.what c.args.p.now c.requires.known
    (tried_shown c.args.what c.args.p.now c.args.known.now.low c.in_ok-shown.shown c.in-Some.tried c.in-Some.is c.in_ok-shown.ensures)
