use Rattle.std.proofs.Common.{◌≡◌, ◌++◌, drop}
use Rattle.toml.specs.View.{items_view}
use Rattle.decl.specs.Addresses.{read_as, has_bad_address, written, texts_of, at_host, numbers_of}
use Rattle.decl.proofs.addresses.Addresses.add_all.Given as goal

abbrev pub invariant-loop-item : goal.invariant-loop-item
invariant-loop-item l = record {
  bad : has_bad_address (read_as l.version) (numbers_of l.fn.self) (texts_of (items_view l.items)) ≡ has_bad_address (read_as l.version) (numbers_of l.self) (texts_of (items_view (drop l.item-index l.items)));
  added : l.fn.self ++ at_host l.host (written (read_as l.version) (texts_of (items_view l.items))) ≡ l.self ++ at_host l.host (written (read_as l.version) (texts_of (items_view (drop l.item-index l.items))));
}
