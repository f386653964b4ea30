use Rattle.std.proofs.Common.{◌≡◌, List, drop, arith}
use Rattle.std.proofs.lemmas.List.{at_drop_all}
use Rattle.traces.specs.declared.accepted.Accepted.{Accepted}
use Rattle.traces.specs.Traces.{event_count}
use Rattle.traces.specs.Held.{seen_in}
use Rattle.traces.proofs.event_places.event_count.Goals as goal

pub returns : goal.returns
returns c =
    let none : event_count (seen_in (drop c.loop-under.under-index c.args.accepted.now)) ≡ 0 = at_drop_all (λ (accepted : List Accepted). event_count (seen_in accepted)) c.args.accepted.now c.loop-under.under-index c.loop-under-test.false in
    omega (arith, none, c.loop-under.invariant.0, c.loop-under.invariant.1)
