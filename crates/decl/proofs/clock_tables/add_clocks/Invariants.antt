use Rattle.std.proofs.Common.{◌≡◌, ◌-◌, ◌++◌, drop}
use Rattle.toml.specs.View.{items_view, table_view}
use Rattle.decl.specs.Clocks.{table_clocks, table_owners, tables_causes}
use Rattle.decl.specs.Inside.{IsTurnOf}
use Rattle.decl.proofs.clock_tables.add_clocks.Given as goal

abbrev pub invariant-loop-value : goal.invariant-loop-value
invariant-loop-value l = record {
  walked : tables_causes (table_view l.host) l.fn.book.clocks (items_view l.values) ≡ tables_causes (table_view l.host) l.book.clocks (items_view (drop l.value-index l.values));
  clocked : l.fn.book.clocks ++ table_clocks (table_view l.host) (items_view l.values) ≡ l.book.clocks ++ table_clocks (table_view l.host) (items_view (drop l.value-index l.values));
  owned : l.fn.book.owners ++ table_owners (l.index - 1) (table_view l.host) (items_view l.values) ≡ l.book.owners ++ table_owners (l.index - 1) (table_view l.host) (items_view (drop l.value-index l.values));
  turn : IsTurnOf l.book.owners (l.index - 1);
}
