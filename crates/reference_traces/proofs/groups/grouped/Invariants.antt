use Rattle.std.proofs.Common.{◌≡◌, ◌++◌, drop, map}
use Rattle.traces.specs.Held.{placed_in}
use Rattle.traces.specs.Windows.{by_group, grouped, keys_among}
use Rattle.reference_traces.specs.Groups.{grouped_events}
use Rattle.reference_traces.proofs.groups.grouped.Given as goal

-- the events so far and those from this place on are all
abbrev pub invariant-loop-placed : goal.invariant-loop-placed
invariant-loop-placed l = grouped_events l.groups.items ++ map (by_group (keys_among (placed_in l.events))) (placed_in (drop l.placed-index l.events)) ≡ grouped (placed_in l.events)
