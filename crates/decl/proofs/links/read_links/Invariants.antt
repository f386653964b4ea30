use Rattle.std.proofs.Common.{◌≡◌, ◌≤◌, ◌+◌, ◌++◌, [], drop}
use Rattle.toml.specs.View.{items_view}
use Rattle.decl.specs.Links.{links_faults, links_of}
use Rattle.decl.proofs.links.read_links.Given as goal
use Rattle.decl.specs.Limits.{most_entries}

abbrev pub invariant-loop-item : goal.invariant-loop-item
invariant-loop-item l = record {
  walked : links_faults l.hosts 1 [] (items_view l.items) ≡ links_faults l.hosts (l.index + 1) l.book (items_view (drop l.item-index l.items));
  linked : links_of l.hosts (items_view l.items) ≡ l.book ++ links_of l.hosts (items_view (drop l.item-index l.items));
  few : l.index ≤ most_entries;
}
