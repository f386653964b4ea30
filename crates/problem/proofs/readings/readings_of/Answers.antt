use Rattle.std.proofs.Common.{◌≡◌, map, rules}
use Rattle.problem.specs.Growing.{reading_of}
use Rattle.problem.proofs.ReadingOrder.{readings_made}
use Rattle.problem.proofs.readings.readings_of.Goals as goal

pub returns : goal.returns
returns c =
    let all : c.in_ok-readings.readings.items ≡ map reading_of c.args.items.now.events = search rules in
    readings_made _ _ _ _ all c.sort_unstable.ensures.permutation c.sort_unstable.ensures.sorted c.dedup.ensures.filtered
