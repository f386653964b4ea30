use Rattle.std.proofs.Common.{◌≡◌, take, map}
use Rattle.serde_json.specs.View.{view}
use Rattle.report.specs.Report.{group_data, reported_key}
use Rattle.report.proofs.values.groups_value.Given as goal

abbrev pub invariant-loop-group : goal.invariant-loop-group
invariant-loop-group l = map view l.values.items ≡ map group_data (map reported_key (take l.group-index l.groups))
