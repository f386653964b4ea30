use Rattle.std.proofs.Common.{◌+◌, ◌-◌, List, drop, sym, subst}
use Rattle.toml.specs.View.{view, table_view, items_view}
use Rattle.decl.specs.Inside.{IsTurnOf}
use Rattle.decl.specs.Keys.{entry_table}
use Rattle.decl.specs.Clocks.{owner_by}
use Rattle.decl.specs.declared.items.Owner.{Owner}
use Rattle.decl.proofs.ClockPlaces.{turn_stays}
use Rattle.decl.proofs.ClockTurns.{next_item, tables_on, clocks_on, owners_on}
use Rattle.decl.proofs.clock_tables.add_clocks.Goals as goal

pub loop-value-preserved : goal.loop-value-preserved
loop-value-preserved c =
    let now = c.loop-value in
    let values = c.args.values.now in
    let host = table_view c.args.host.now in
    let d = view c.value-item.result in
    let left = items_view (drop now.value-index values) in
    let rest = items_view (drop (now.value-index + 1) values) in
    let next = next_item values now.value-index c.value-item.result c.loop-value-test.true c.value-item.is in
    let owner : Owner = owner_by (c.args.index - 1) (entry_table d) host in
    record {
      walked = tables_on _ host now.book.clocks c.add_clock.new.book.clocks d left rest now.invariant.walked next c.in_ok-add_clock.ensures.sound c.in_ok-add_clock.ensures.clocks;
      clocked = clocks_on _ host now.book.clocks c.add_clock.new.book.clocks d left rest now.invariant.clocked next c.in_ok-add_clock.ensures.clocks;
      owned = owners_on _ (c.args.index - 1) host now.book.owners c.add_clock.new.book.owners d left rest now.invariant.owned next c.in_ok-add_clock.ensures.owners;
      turn = subst (λ (owners : List Owner). IsTurnOf owners (c.args.index - 1)) (sym c.in_ok-add_clock.ensures.owners) (turn_stays now.book.owners owner now.invariant.turn);
    }
