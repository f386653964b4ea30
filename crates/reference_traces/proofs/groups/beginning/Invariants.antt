use Rattle.std.proofs.Common.{◌≡◌, ◌++◌, drop, filter, option_to_list}
use Rattle.traces.specs.Beginnings.{beginning, begins_by, latest}
use Rattle.reference_traces.proofs.groups.beginning.Given as goal

-- the latest beginning is that among the found one and those from this place on
abbrev pub invariant-loop-other : goal.invariant-loop-other
invariant-loop-other l = latest (option_to_list l.found ++ filter (begins_by l.window l.times l.time) (drop l.other-index l.times)) l.time ≡ beginning l.window l.times l.time
