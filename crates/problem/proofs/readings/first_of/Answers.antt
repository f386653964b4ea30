use Rattle.std.proofs.Common.{ltb, rules}
use Rattle.std.proofs.lemmas.Fn.{always_returns_same}
use Rattle.problem_model.specs.Nodes.{Reading}
use Rattle.problem.proofs.Nearby.{starts_at, parted_below, first_found}
use Rattle.problem.proofs.readings.first_of.Goals as goal

pub returns : goal.returns
returns c =
    first_found c.args.clock c.args.readings.now c.requires c.partition_point-start.result c.reading_at.result
    (starts_at c.args.clock c.args.readings.now c.requires c.partition_point-start.result (c.partition_point-start.ensures.partitioned (λ (r : Reading). ltb r.0 c.args.clock) (always_returns_same _ _ _ (λ a r f called. (search rules, search rules))) (parted_below c.args.clock c.args.readings.now c.requires)))
    (c.reading_at.ensures.some, c.reading_at.ensures.none)
