use Rattle.std.proofs.Common.{◌≡◌, ◌≤◌, ◌+◌, ◌++◌, [], length}
use Rattle.toml.specs.View.{members_view}
use Rattle.decl.specs.Addresses.{none_known}
use Rattle.decl.specs.Hosts.{hosts_faults, hosts_of, clocks_of, owners_from, addresses_from, addresses6_from}
use Rattle.decl.specs.Inside.{known_in, IsTurnOf}
use Rattle.decl.specs.Limits.{most_entries}
use Rattle.decl.proofs.hosts.read_hosts.Given as goal

abbrev pub invariant-loop-name : goal.invariant-loop-name
invariant-loop-name l = record {
  walked : hosts_faults 1 none_known [] (members_view l.table.entries) ≡ hosts_faults (l.index + 1) (known_in l.books) l.books.clocks.clocks (members_view l.name-iterator);
  named : hosts_of (members_view l.table.entries) ≡ l.names.items ++ hosts_of (members_view l.name-iterator);
  clocked : clocks_of (members_view l.table.entries) ≡ l.books.clocks.clocks ++ clocks_of (members_view l.name-iterator);
  owned : owners_from 0 (members_view l.table.entries) ≡ l.books.clocks.owners ++ owners_from l.index (members_view l.name-iterator);
  booked : addresses_from 0 (members_view l.table.entries) ≡ l.books.narrow ++ addresses_from l.index (members_view l.name-iterator);
  booked6 : addresses6_from 0 (members_view l.table.entries) ≡ l.books.wide ++ addresses6_from l.index (members_view l.name-iterator);
  turn : IsTurnOf l.books.clocks.owners l.index;
  counted : l.index ≡ length l.names.items;
  few : l.index ≤ most_entries;
}
