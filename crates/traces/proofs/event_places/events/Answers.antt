use Rattle.std.proofs.Common.{◌≤◌, length, ap, arith}
use Rattle.traces.specs.Traces.{event_count}
use Rattle.traces.specs.Held.{seen_in}
use Rattle.traces.proofs.Counting.{events_few}
use Rattle.traces.proofs.event_places.events.Goals as goal

pub place_events-requires : goal.place_events-requires
place_events-requires c =
    let few : length c.index-accepted-label.result.events.items ≤ event_count (seen_in c.args.accepted.now) = events_few c.args.accepted.now c.loop-label.label c.index-accepted-label.result c.loop-label-test.true c.index-accepted-label.is in
    omega (arith, few, c.requires.few, ap length c.deref.ensures.value)
