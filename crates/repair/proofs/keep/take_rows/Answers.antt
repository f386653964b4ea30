use Rattle.repair.proofs.Taking.{one_free, two_free}
use Rattle.repair.proofs.keep.take_rows.Goals as goal

pub unreachable-requires : goal.unreachable-requires
unreachable-requires c = one_free c.args.pool.now c.requires.free c.in_default.ensures.none

pub unreachable-requires-in_default-take : goal.unreachable-requires-in_default-take
unreachable-requires-in_default-take c = two_free c.args.pool.now c.take.new.self c.in-Some.from c.requires.free c.in-Some.ensures.free c.in-Some.ensures.taken c.in_default-take.ensures.none
