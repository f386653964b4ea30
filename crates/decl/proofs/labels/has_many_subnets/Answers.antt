use Rattle.std.proofs.Common.{arith}
use Rattle.toml.specs.View.{table_view}
use Rattle.decl.proofs.SubnetTurns.{many_given}
use Rattle.decl.proofs.labels.has_many_subnets.Goals as goal

pub returns : goal.returns
returns c =
    many_given 18446744073709551615 (table_view c.args.table.now) c.items_or_none-near.result.now c.items_or_none-near6.result.now c.items_or_none-beyond.result.now c.items_or_none-beyond6.result.now
    c.saturating_add-near_count.result c.saturating_add.result c.saturating_add-2.result (omega arith) c.items_or_none-near.ensures c.items_or_none-near6.ensures c.items_or_none-beyond.ensures c.items_or_none-beyond6.ensures
    c.saturating_add-near_count.ensures c.saturating_add.ensures c.saturating_add-2.ensures
