use Rattle.std.proofs.Common.{◌≡◌, ◌≤◌, ◌+◌, ◌-◌, ◌^◌, drop}
use Rattle.std.specs.Prelude.{min}
use Rattle.traces.specs.Traces.{event_count}
use Rattle.traces.specs.Held.{seen_in}
use Rattle.traces.proofs.event_places.event_count.Given as goal

-- the count so far and that of the labels from this place on are that of all, as far as it fits
abbrev pub invariant-loop-under : goal.invariant-loop-under
invariant-loop-under l = (l.count ≤ 2 ^ 64 - 1) × (min (l.count + event_count (seen_in (drop l.under-index l.accepted))) (2 ^ 64 - 1) ≡ min (event_count (seen_in l.accepted)) (2 ^ 64 - 1))
