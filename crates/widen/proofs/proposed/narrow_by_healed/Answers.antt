use Rattle.std.proofs.Common.{arith}
use Rattle.widen.proofs.Proposing.{shown_from}
use Rattle.widen.proofs.proposed.narrow_by_healed.Goals as goal

pub narrow-requires-clause-tried : goal.narrow-requires-clause-tried
narrow-requires-clause-tried c = (
  c.args.what,
  c.args.p.now,
  shown_from c.args.what c.args.p.now c.args.healed.now.last c.args.known.now.low c.in_ok-shown.shown c.in-Some.tried c.in-Some.is c.in_ok-shown.ensures (omega arith),
)

pub returns-in-Some : goal.returns-in-Some
returns-in-Some c =
    c.narrow.ensures.known c.args.what c.args.p.now c.requires.known
    (shown_from c.args.what c.args.p.now c.args.healed.now.last c.args.known.now.low c.in_ok-shown.shown c.in-Some.tried c.in-Some.is c.in_ok-shown.ensures (omega arith))
