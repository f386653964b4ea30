use Rattle.std.proofs.Common.{◌≡◌, ◌≤◌, ◌++◌, drop, length}
use Rattle.toml.specs.View.{items_view}
use Rattle.decl.specs.Causes.{first}
use Rattle.decl.specs.Subnets.{given_by, subnet_causes, subnets_by}
use Rattle.decl.proofs.subnets.add_subnets.Given as goal

abbrev pub invariant-loop-item : goal.invariant-loop-item
invariant-loop-item l = record {
  walked : first (subnet_causes (drop l.from l.initial.subnets.items) (given_by l.version l.beyond (items_view l.items))) ≡ first (subnet_causes (drop l.from l.subnets.items) (given_by l.version l.beyond (items_view (drop l.item-index l.items))));
  added : l.initial.subnets.items ++ subnets_by (given_by l.version l.beyond (items_view l.items)) ≡ l.subnets.items ++ subnets_by (given_by l.version l.beyond (items_view (drop l.item-index l.items)));
  behind : l.from ≤ length l.subnets.items;
}
