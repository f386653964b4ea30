use Rattle.std.proofs.Common.{◌≡◌, ◌≤◌, ◌+◌, ◌*◌, ◌++◌, length}
use Rattle.toml.specs.View.{members_view}
use Rattle.decl.specs.Inside.{hosts_and_clocks}
use Rattle.decl.specs.Labels.{label_subnets, labels_faults, labels_of}
use Rattle.decl.specs.Limits.{most_entries}
use Rattle.decl.proofs.labels.read_labels.Given as goal

abbrev pub invariant-loop-name : goal.invariant-loop-name
invariant-loop-name l = record {
  walked : labels_faults (hosts_and_clocks l.hosts) 1 (members_view l.table.entries) ≡ labels_faults (hosts_and_clocks l.hosts) (l.index + 1) (members_view l.name-iterator);
  labelled : labels_of (hosts_and_clocks l.hosts) 0 (members_view l.table.entries) ≡ l.labels.list.items ++ labels_of (hosts_and_clocks l.hosts) (length l.labels.subnets.items) (members_view l.name-iterator);
  given : label_subnets (members_view l.table.entries) ≡ l.labels.subnets.items ++ label_subnets (members_view l.name-iterator);
  room : length l.labels.subnets.items ≤ 256 * l.index;
  few : l.index ≤ most_entries;
}
