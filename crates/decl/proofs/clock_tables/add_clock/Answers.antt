use Rattle.toml.specs.Data.{as_table}
use Rattle.toml.specs.View.{view, table_view}
use Rattle.decl.specs.Clocks.{clock_causes}
use Rattle.decl.proofs.ClockTurns.{entry_fault, table_room}
use Rattle.decl.proofs.clock_tables.add_clock.Goals as goal

pub returns-in-Err-clause-fault : goal.returns-in-Err-clause-fault
returns-in-Err-clause-fault c =
    entry_fault c.args.index (clock_causes (table_view c.args.host.now) c.args.book.now.clocks) (as_table (view c.args.value.now)) (table_view c.in-Some.own.now) c.in-Err.cause c.at-in-Err.result
    c.in-Some.ensures c.in-Err.ensures c.at-in-Err.ensures

pub push-requires-clause-room : goal.push-requires-clause-room
push-requires-clause-room c = table_room (table_view c.args.host.now) (table_view c.in-Some.own.now) c.args.book.now.clocks c.in-Ok.ensures.0
