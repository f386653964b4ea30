use Rattle.std.proofs.Common.{◌≡◌, take, map}
use Rattle.serde_json.specs.View.{view}
use Rattle.report.specs.Report.{drops_data, reported_drops}
use Rattle.report.proofs.values.dropped_value.Given as goal

abbrev pub invariant-loop-drops : goal.invariant-loop-drops
invariant-loop-drops l = map view l.values.items ≡ map drops_data (map reported_drops (take l.drops-index l.dropped))
