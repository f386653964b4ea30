use Rattle.cert.proofs.Places.{are_named}
use Rattle.cert.proofs.nodes.Nodes.new.Goals as goal

pub invariant_of-result : goal.invariant_of-result
invariant_of-result c =
    let named = are_named c.args.p.now c.readings.result.now c.clocks.ensures.lawful c.readings.ensures in
    rw (c.clocks.ensures.value, c.events.ensures.value) (record { clock_names = named.clock_names; event_names = named.event_names; known = named.known; few = named.few })
